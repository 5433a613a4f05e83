-- A row that is kept with zeros behind: what its weights and all that is kept have in common; and how much they weigh at most.
use Rattle.std.proofs.Common.{◌≡◌, ℕ, zero, suc, ◌+◌, ◌*◌, ◌-◌, ◌<◌, ◌≤◌, Bool, if◌then◌else◌, List, [], ◌∷◌, ◌++◌, length, get_or, take, drop, replicate, sum, sym, refl, ap, ◌∙◌, arith, add-one}
use Rattle.std.specs.List.{sum_by, filter, zip, range_with_len}
use Rattle.std.proofs.Math.Seq.{take-append_seam}
use Rattle.std.proofs.lemmas.List.{drop-replicate}
use Rattle.std.proofs.lemmas.List.Elements.{All-from_get_or}
use Rattle.std.proofs.lemmas.List.Folds.{sum_by-replicate}
use Rattle.std.proofs.lemmas.List.Sums.{sum_by-append, sum_by-cons, sum_by-le}
use Rattle.voting.specs.Sets.{has}
use Rattle.voting.specs.Rules.{weigh_from, light}
use Rattle.voting.specs.Rows.{padded, length-front}
use Rattle.voting.specs.Voting.{limit}

light-padded : (k : ℕ) (ws : List ℕ) → light (ws ++ replicate k 0) ≡ light ws
light-padded zero [] = refl
light-padded (suc k) [] = light-padded k []
light-padded k (w ∷ ws) = grind (arith, light-padded k ws)

module _ (n : ℕ) (ws : List ℕ) (kept : ws ≡ padded (take n ws)) where
  pub light-front : light (take n ws) ≡ light ws
  light-front = sym (ap light kept ∙ light-padded (limit - length (take n ws)) (take n ws))

  pub sum-front : sum (take n ws) ≡ sum ws
  sum-front =
      omega (
        arith,
        ap sum kept,
        sum_by-append (λ w. w) (take n ws) (replicate (limit - length (take n ws)) 0),
        sum_by-replicate (λ w. w) (limit - length (take n ws)) 0,
      )

-- members weigh no more than all together
pub weigh_from-le-sum : (i s : ℕ) (ws : List ℕ) → weigh_from i s ws ≤ sum ws
weigh_from-le-sum i s [] = omega arith
weigh_from-le-sum i s (w ∷ ws) = grind (arith, weigh_from-le-sum (suc i) s ws, sum_by-cons (λ x. x) w ws)

-- what the array of a row tells of its weights
pub ruleset fronts = (length-front, light-front, sum-front, weigh_from-le-sum)

-- of weights with their places, those that pass a test are added
picked-cons : (p : ℕ × ℕ → Bool) (x : ℕ × ℕ) (xs : List (ℕ × ℕ)) → sum_by (λ y. y.1) (filter p (x ∷ xs)) ≡ (if p x then x.1 else 0) + sum_by (λ y. y.1) (filter p xs)
picked-cons p x xs = grind (arith, sum_by-cons (λ (y : ℕ × ℕ). y.1) x (filter p xs))

pub sum_by-picked : (i n s : ℕ) (ws : List ℕ) → sum_by (λ p. p.1) (filter (λ p. has s p.0) (zip (range_with_len i n) ws)) ≡ weigh_from i s (take n ws)
sum_by-picked i zero s [] = refl
sum_by-picked i (suc n) s [] = refl
sum_by-picked i zero s (w ∷ ws) = refl
sum_by-picked i (suc n) s (w ∷ ws) =
    picked-cons (λ p. has s p.0) (i, w) (zip (range_with_len (i + 1) n) ws)
    ∙ ap (λ x. (if has s i then w else 0) + x) (sum_by-picked (i + 1) n s ws ∙ ap (λ k. weigh_from k s (take n ws)) (add-one i))

-- the first weights weigh no more than all
pub sum-take-le : (n : ℕ) (ws : List ℕ) → sum (take n ws) ≤ sum ws
sum-take-le zero [] = omega arith
sum-take-le (suc n) [] = omega arith
sum-take-le zero (w ∷ ws) = omega arith
sum-take-le (suc n) (w ∷ ws) = omega (arith, sum-take-le n ws, sum_by-cons (λ x. x) w ws, sum_by-cons (λ x. x) w (take n ws))

pub sum-le : (ws : List ℕ) → ((i : ℕ) → get_or ws i 0 < 65536) → sum ws ≤ length ws * 65535
sum-le ws small = sum_by-le (λ w. w) 65535 ws (All-from_get_or (λ w. w ≤ 65535) ws 0 (λ i lt. omega (arith, small i)))

-- a row that was copied to the front of zeros is kept as it should be
pub copied_kept : (row : List ℕ) → row ++ drop (length row) (replicate limit 0) ≡ padded (take (length row) (row ++ drop (length row) (replicate limit 0)))
copied_kept row = rw (take-append_seam, drop-replicate {X = ℕ} (length row) limit 0)
