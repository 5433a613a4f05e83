-- A rule by weights keeps the four laws, whatever the row, if not all weights are zero.
use Rattle.std.specs.Prelude.{◌≡◌, ℕ, suc, ◌+◌, ◌*◌, ◌^◌, ◌<◌, ◌≤◌, true, IsTrue, ◌⊎◌, List, [], ◌∷◌, length, sum, refl}
use Rattle.std.proofs.Common.{⊎_elim, arith}
use Rattle.std.proofs.lemmas.Bool.Decides.{nat_tests}
use Rattle.std.proofs.lemmas.List.Sums.{sum_by-cons}
use Rattle.voting.specs.Sets.{has, adding, whole}
use Rattle.voting.specs.Voting.{Lawful}
use Rattle.voting.specs.Rules.{weigh_from, outweighs, can_vote}
use Rattle.voting.specs.Members.{Shared, refuses_strangers, within_lt, lt_within, adding-keeps, adding-lt, whole_lt, whole_has}

sum-cons : (w : ℕ) (ws : List ℕ) → sum (w ∷ ws) ≡ w + sum ws
sum-cons w ws = sum_by-cons (λ x. x) w ws

-- two sets that share no controller weigh no more together than all weights
shared_or_light : (i a b : ℕ) (ws : List ℕ) → Shared a b ⊎ (weigh_from i a ws + weigh_from i b ws ≤ sum ws)
shared_or_light i a b [] = grind arith
shared_or_light i a b (w ∷ ws) = grind (arith, sum-cons w ws, shared_or_light (suc i) a b ws)

-- a set that has all members of another weighs as much
weighs_more : (i s t : ℕ) (ws : List ℕ) → ((k : ℕ) → has s k ≡ true → has t k ≡ true) → weigh_from i s ws ≤ weigh_from i t ws
weighs_more i s t [] up = grind arith
weighs_more i s t (w ∷ ws) up = grind (arith, up i, weighs_more (suc i) s t ws up)

-- a set that has every controller of the row weighs all
weighs_all : (i s : ℕ) (ws : List ℕ) → ((k : ℕ) → k < i + length ws → has s k ≡ true) → weigh_from i s ws ≡ sum ws
weighs_all i s [] every = refl
weighs_all i s (w ∷ ws) every =
    grind (arith, sum-cons w ws, every i, weighs_all (suc i) s ws (λ k lt. every k (omega arith)))

module _ (row : List ℕ) where
  -- an accepted set has only controllers of the row, and more than half of all weight
  parts : (s : ℕ) → outweighs row s ≡ true → (s < 2 ^ length row) × (sum row < 2 * weigh_from 0 s row)
  parts s yea = grind (arith, nat_tests, within_lt)

  accepted : (s : ℕ) → s < 2 ^ length row → sum row < 2 * weigh_from 0 s row → outweighs row s ≡ true
  accepted s lt more = grind (arith, nat_tests, lt_within)

  meets : (a b : ℕ) → outweighs row a ≡ true → outweighs row b ≡ true → Shared a b
  meets a b yea also =
      ⊎_elim (λ shared. shared) (λ le. absurd (omega (arith, (parts a yea).1, (parts b also).1))) (shared_or_light 0 a b row)

  grows : (s i : ℕ) → i < length row → outweighs row s ≡ true → outweighs row (adding s i) ≡ true
  grows s i lt yea =
      accepted (adding s i) (adding-lt (length row) s i lt (parts s yea).0)
      (omega (arith, (parts s yea).1, weighs_more 0 s (adding s i) row (adding-keeps s i)))

  everyone : 0 < sum row → outweighs row (whole (length row)) ≡ true
  everyone some =
      accepted (whole (length row)) (whole_lt (length row))
      (omega (arith, weighs_all 0 (whole (length row)) row (λ k lt. whole_has (length row) k (omega arith))))

  pub outweighs_lawful : 0 < sum row → Lawful (length row) (outweighs row)
  outweighs_lawful some =
      record {
        meets = meets;
        grows = grows;
        whole = everyone some;
        strangers = refuses_strangers (length row) (outweighs row) (λ s yea. (parts s yea).0);
      }

-- a rule by weights that can vote keeps the four laws, since they are not all zero
pub row_lawful : (row : List ℕ) → IsTrue (can_vote row) → Lawful (length row) (outweighs row)
row_lawful row can = outweighs_lawful row (grind (arith, nat_tests))
