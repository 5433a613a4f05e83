-- What a value made under a test is, which bytes an exact candidate has, and what it says that no place is wrong.
use Rattle.std.proofs.Common.{◌≡◌, ℕ, Bool, true, false, IsTrue, List, Some, None, Option, refl, ap, if◌then◌else◌}
use mathlib.Core.Bool.{Bool-set}
use Rattle.std.proofs.lemmas.Slice.Eq.{bytes_eq-Decides}
use Rattle.std.specs.Str.{bytes_eq}
use Rattle.refusals.specs.Choice.{if_so, exact, wrong_at}

pub if_so-made : {V : Type 0} (b : Bool) (make : IsTrue b → V) (h : IsTrue b) → if_so b make ≡ Some (make h)
if_so-made true make h = ap (λ e. Some (make e)) (Bool-set true true refl h)
if_so-made false make h = cc

-- what was made under a test, and that the test passed
pub if_so-from : {V : Type 0} (b : Bool) (make : IsTrue b → V) (v : V) → if_so b make ≡ Some v → (h : IsTrue b) × (v ≡ make h)
if_so-from true make v made = (refl, cc)
if_so-from false make v made = cc

module _ {V : Type 0} (written : V → List ℕ) (bytes : List ℕ) where
  pub exact_kept : (o : Option V) (v : V) → o ≡ Some v → written v ≡ bytes → exact written bytes o ≡ Some v
  exact_kept None v e w = cc
  exact_kept (Some u) v e w =
      let there : written u ≡ bytes = cc in let kept = (bytes_eq-Decides (written u) bytes).1 there in rw kept e

  exact_test : (b : Bool) (u v : V) → bytes_eq (written u) bytes ≡ b → (if b then Some u else None) ≡ Some v → written v ≡ bytes
  exact_test true u v t e = let there = (bytes_eq-Decides (written u) bytes).0 t in let it : u ≡ v = cc in cc
  exact_test false u v t e = cc

  pub exact_bytes : (o : Option V) (v : V) → exact written bytes o ≡ Some v → written v ≡ bytes
  exact_bytes None v e = cc
  exact_bytes (Some u) v e = exact_test (bytes_eq (written u) bytes) u v refl e

-- no place is wrong: this test passes, and so do the later ones
pub wrong_at-none : (b : Bool) (place : ℕ) (later : Option ℕ) → wrong_at b place later ≡ None → (b ≡ true) × (later ≡ None)
wrong_at-none true place later e = (refl, e)
wrong_at-none false place later e = cc
