-- The bytes of a field behind those that a value takes. Assumes nothing.
use Rattle.std.specs.Prelude.{ℕ, ◌+◌, Bool, List, Option, drop, not, ◌==◌}
use Rattle.std.specs.List.{position_from}
use Rattle.std.specs.Option.{option_map}

-- a byte is not zero
abbrev pub is_nonzero : ℕ → Bool
is_nonzero x = not (x == 0)

-- the place of the first byte of a field, from place i on, that is not zero
abbrev pub stray : ℕ → List ℕ → Option ℕ
stray i field = option_map (λ k. i + k) (position_from is_nonzero 0 (drop i field))
