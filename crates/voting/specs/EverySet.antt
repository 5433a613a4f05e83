-- The house's rule keeps the four laws, since a test passes at each of its 256 sets; and what a tested table has at a set.
use Rattle.std.specs.Prelude.{◌≡◌, ℕ, zero, suc, ◌+◌, ◌-◌, ◌^◌, ◌<◌, Bool, true, not, ◌&&◌, ◌||◌, List, [], ◌∷◌, length, slice_index_or, refl}
use Rattle.std.proofs.Common.{ap, ◌∙◌, zero-add, arith}
use Rattle.std.proofs.lemmas.Bool.{agree_below, agree_below_at}
use Rattle.voting.specs.Sets.{adding, whole}
use Rattle.voting.specs.Voting.{Lawful}
use Rattle.voting.specs.Rules.{house, tells}
use Rattle.voting.specs.Members.{within_lt}
use Rattle.voting.specs.Complements.{Steady, steady_lawful}

-- a test passes at each number below n
abbrev each : ℕ → (ℕ → Bool) → Bool
each n test = agree_below test (λ _. true) n

each_at : (n : ℕ) (test : ℕ → Bool) → each n test ≡ true → (k : ℕ) → k < n → test k ≡ true
each_at n test all k lt = agree_below_at test (λ _. true) n k all lt

-- whether an accepted set's complement is not accepted, and the set with any member added is
abbrev holds_out : ℕ → (ℕ → Bool) → ℕ → Bool
holds_out n accepts s = not (accepts (whole n - s)) && each n (λ i. accepts (adding s i))

-- the test at one set, which asks nothing of a set that is not accepted
abbrev steady_at : ℕ → (ℕ → Bool) → ℕ → Bool
steady_at n accepts s = not (accepts s) || holds_out n accepts s

-- the test at every set carries to each, in a group of any size
module _ (n : ℕ) (accepts : ℕ → Bool) (inside : (s : ℕ) → accepts s ≡ true → s < 2 ^ n) (tested : each (2 ^ n) (steady_at n accepts) ≡ true) where
  tested_at : (s : ℕ) → accepts s ≡ true → holds_out n accepts s ≡ true
  tested_at s yea = grind (arith, each_at (2 ^ n) (steady_at n accepts) tested s (inside s yea))

  steady_tested : accepts (whole n) ≡ true → Steady n accepts
  steady_tested everyone =
      record {
        inside = inside;
        steps = λ s i lt yea. let held = tested_at s yea in each_at n (λ k. accepts (adding s k)) (grind arith) i lt;
        apart = λ s yea also. grind (arith, tested_at s yea);
        everyone = everyone;
      }

house_inside : (s : ℕ) → house s ≡ true → s < 2 ^ 8
house_inside s yea = grind (arith, within_lt 8 s)

-- the test at all 256 sets of the house
house_tested : each (2 ^ 8) (steady_at 8 house) ≡ true
house_tested = refl

pub house_lawful : Lawful 8 house
house_lawful = steady_lawful 8 house (steady_tested 8 house house_inside house_tested refl)

-- a table that tells a rule from set s on has at each set what the rule says of it
told_from : (rule : ℕ → Bool) (xs : List Bool) (s k : ℕ) (d : Bool) → tells rule s xs ≡ true → k < length xs → slice_index_or xs k d ≡ rule (s + k)
told_from rule [] s k d all lt = absurd (omega arith)
told_from rule (x ∷ xs) s zero d all lt = grind arith
told_from rule (x ∷ xs) s (suc k) d all lt = grind (arith, told_from rule xs (suc s) k d)

-- the same from the first set on
pub told : (rule : ℕ → Bool) (xs : List Bool) (k : ℕ) (d : Bool) → tells rule 0 xs ≡ true → k < length xs → slice_index_or xs k d ≡ rule k
told rule xs k d all lt = told_from rule xs 0 k d all lt ∙ ap rule (zero-add k)
