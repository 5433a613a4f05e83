-- The three voting rules: which sets each accepts.
use Rattle.std.specs.Prelude.{ℕ, suc, ◌+◌, ◌*◌, Bool, true, if◌then◌else◌, ◌&&◌, ◌||◌, List, [], ◌∷◌, length, ◌==◌, nat_le, nat_lt, sum}
use Rattle.std.specs.List.{list_all}
use Rattle.std.specs.Bool.{beq}
use Rattle.voting.specs.Sets.{has, within, count}
use Rattle.voting.specs.Voting.{sized}

-- majority: only controllers of the group, and more than half of them
abbrev pub majority : ℕ → ℕ → Bool
majority n s = within n s && nat_lt n (2 * count n s)

-- the sum of the weights of the members of s, where the row's first weight is controller i's
abbrev pub weigh_from : ℕ → ℕ → List ℕ → ℕ
weigh_from i s [] = 0
weigh_from i s (w ∷ ws) = (if has s i then w else 0) + weigh_from (suc i) s ws

-- weights: only controllers of the group, and more than half of all weight
abbrev pub outweighs : List ℕ → ℕ → Bool
outweighs row s = within (length row) s && nat_lt (sum row) (2 * weigh_from 0 s row)

-- the largest weight
abbrev pub heaviest : ℕ
heaviest = 1000

-- whether no weight is above the largest
abbrev pub light : List ℕ → Bool
light row = list_all (λ w. nat_le w heaviest) row

-- whether a row's weights can vote: none too large, and not all zero
abbrev pub fair : List ℕ → Bool
fair row = light row && nat_lt 0 (sum row)

-- whether a row makes a rule by weights: as many as a group has controllers, and they can vote
abbrev pub can_vote : List ℕ → Bool
can_vote row = sized (length row) && fair row

-- the house's rule: of eight controllers five, or four with controller 0 among them
abbrev pub house : ℕ → Bool
house s = within 8 s && (nat_le 5 (count 8 s) || count 8 s == 4 && has s 0)

-- whether a table that begins at set s has true at just the sets that a rule accepts
abbrev pub tells : (ℕ → Bool) → ℕ → List Bool → Bool
tells rule s [] = true
tells rule s (x ∷ xs) = beq x (rule s) && tells rule (suc s) xs
