-- How a value is made only where it may be made, and where the first wrong place is. Assumes nothing.
use Rattle.std.specs.Prelude.{ℕ, Bool, true, false, List, Some, None, Option, IsTrue, refl, if◌then◌else◌}
use Rattle.std.specs.Str.{bytes_eq}

-- what is made where a test passes, from the proof that it does
abbrev pub if_so : {V : Type 0} (b : Bool) → (IsTrue b → V) → Option V
if_so true make = Some (make refl)
if_so false make = None

-- a candidate, kept only if it is written as just these bytes
abbrev pub exact : {V : Type 0} → (V → List ℕ) → List ℕ → Option V → Option V
exact written bytes None = None
exact written bytes (Some v) = if bytes_eq (written v) bytes then Some v else None

-- a place, where the test of what stands there fails; else what the later tests give
abbrev pub wrong_at : Bool → ℕ → Option ℕ → Option ℕ
wrong_at true place later = later
wrong_at false place later = Some place
