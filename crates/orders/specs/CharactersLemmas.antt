-- A character and its code, count and period determine each other.
use Rattle.std.specs.Prelude.{◌≡◌, ℕ, zero, suc, ◌≤◌, true, None, refl}
use Rattle.std.proofs.Common.{arith}
use Rattle.std.proofs.lemmas.Bool.{and_parts}
use Rattle.std.proofs.lemmas.Bool.Decides.{nat_tests}
use Rattle.orders.specs.Characters.{code_of, count_of, period_of, character_of, count_fits, period_fits, character_wrong, character_fits}
use Rattle.orders.specs.declared.character.Character.{Character}
use Rattle.orders.specs.declared.character.Character.TheVariants.{Fixed, Flashing, Isophase, GroupFlashing}

pub character_back : (c : Character) → character_of (code_of c) (count_of c) (period_of c) ≡ c
character_back Fixed = refl
character_back (Flashing period) = refl
character_back (Isophase period) = refl
character_back (GroupFlashing count period) = refl

-- the limits of a character that fits, and that none of its bytes is wrong
pub record Limited (c : Character) : Type 0 where
  pub code : code_of c ≤ 3
  pub count : count_of c ≤ 6
  pub period : period_of c ≤ 600
  pub right : character_wrong (code_of c) (count_of c) (period_of c) ≡ None

pub limited : (c : Character) → character_fits c ≡ true → Limited c
limited Fixed e = record { code = omega arith; count = omega arith; period = omega arith; right = refl }
limited (Flashing t) e = record { code = omega arith; count = omega arith; period = grind (arith, nat_tests); right = rw e refl }
limited (Isophase t) e = record { code = omega arith; count = omega arith; period = grind (arith, nat_tests); right = rw e refl }
limited (GroupFlashing n t) e =
    let both = and_parts (count_fits 3 n) (period_fits 3 t) e in
    record { code = omega arith; count = grind (arith, nat_tests); period = grind (arith, nat_tests); right = rw (both.0, both.1) refl }

-- a character fits and has the code, count and period that it was made of, if none of these is wrong
pub record Parts (c : Character) (code count period : ℕ) : Type 0 where
  pub code_is : code_of c ≡ code
  pub count_is : count_of c ≡ count
  pub period_is : period_of c ≡ period
  pub fits : character_fits c ≡ true

pub parts_of : (code count period : ℕ) → character_wrong code count period ≡ None → Parts (character_of code count period) code count period
parts_of zero count period e = record { code_is = refl; count_is = grind (arith, nat_tests); period_is = grind (arith, nat_tests); fits = refl }
parts_of (suc zero) count period e = record { code_is = refl; count_is = grind (arith, nat_tests); period_is = refl; fits = grind (arith, nat_tests) }
parts_of (suc (suc zero)) count period e = record { code_is = refl; count_is = grind (arith, nat_tests); period_is = refl; fits = grind (arith, nat_tests) }
parts_of (suc (suc (suc zero))) count period e = record { code_is = refl; count_is = refl; period_is = refl; fits = grind (arith, nat_tests) }
parts_of (suc (suc (suc (suc code)))) count period e = absurd (grind (arith, nat_tests))
