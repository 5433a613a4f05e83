-- How a row of weights is kept: the weights, and zeros up to the size of the largest group.
use Rattle.std.specs.Prelude.{◌≡◌, ℕ, ◌-◌, ◌≤◌, true, List, ◌++◌, length, take, replicate}
use Rattle.std.proofs.Common.{ap, arith}
use Rattle.std.proofs.lemmas.List.{length-append, length-replicate, length-take}
use Rattle.std.proofs.lemmas.Bool.Decides.{nat_tests}
use Rattle.voting.specs.Voting.{limit, sized}

-- a row of weights, and zeros up to the size of the largest group
abbrev pub padded : List ℕ → List ℕ
padded row = row ++ replicate (limit - length row) 0

-- the first n of a padded row are n, where a group may have as many
pub length-front : (n : ℕ) (ws : List ℕ) → sized n ≡ true → ws ≡ padded (take n ws) → length (take n ws) ≡ n
length-front n ws owed kept =
    let few : n ≤ limit = grind (arith, nat_tests) in
    omega (arith, ap length kept, length-append {A = ℕ}, length-replicate {A = ℕ}, length-take {A = ℕ})
