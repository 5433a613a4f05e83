-- Majority is the rule by weights of all ones, so it keeps the four laws.
use Rattle.std.specs.Prelude.{◌≡◌, ℕ, zero, suc, ◌/◌, ◌<◌, true, List, [], ◌∷◌, replicate, sum, refl}
use Rattle.std.proofs.Common.{sym, subst, arith}
use Rattle.std.proofs.lemmas.Bool.Decides.{nat_tests}
use Rattle.std.proofs.lemmas.List.{length-replicate}
use Rattle.std.proofs.lemmas.List.Folds.{sum_by-replicate}
use Rattle.voting.specs.Sets.{count}
use Rattle.voting.specs.Voting.{sized, Lawful}
use Rattle.voting.specs.Rules.{majority, weigh_from, outweighs}
use Rattle.voting.specs.Members.{has-half, has-lowest}
use Rattle.voting.specs.Weighing.{outweighs_lawful}

sum_ones : (n : ℕ) → sum (replicate n 1) ≡ n
sum_ones n = omega (arith, sum_by-replicate {X = ℕ} (λ x. x) n 1)

-- a row whose first weight is one controller on weighs half the set as from this one
weigh_from-half : (i s : ℕ) (ws : List ℕ) → weigh_from (suc i) s ws ≡ weigh_from i (s / 2) ws
weigh_from-half i s [] = refl
weigh_from-half i s (w ∷ ws) = grind (arith, has-half s i, weigh_from-half (suc i) s ws)

-- a count is a weight where each controller weighs one
count_weighs : (n s : ℕ) → count n s ≡ weigh_from 0 s (replicate n 1)
count_weighs zero s = refl
count_weighs (suc n) s =
    grind (arith, nat_tests, has-lowest s, count_weighs n (s / 2), weigh_from-half 0 s (replicate n 1))

majority_outweighs : (n s : ℕ) → majority n s ≡ outweighs (replicate n 1) s
majority_outweighs n s = rw (length-replicate {A = ℕ} n 1, sum_ones n, count_weighs n s)

-- a group for which the laws are owed is not empty
pub sized_some : (n : ℕ) → sized n ≡ true → 0 < n
sized_some n owed = grind (arith, nat_tests)

pub majority_lawful : (n : ℕ) → 0 < n → Lawful n (majority n)
majority_lawful n some =
    let theirs : Lawful n (outweighs (replicate n 1)) =
    rw length-replicate at (outweighs_lawful (replicate n 1) (omega (arith, sum_ones n))) in
    subst (Lawful n) (λ i s. sym (majority_outweighs n s) i) theirs
