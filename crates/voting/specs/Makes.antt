-- How rules are made: which sizes and weights are refused, and for which fault.
use Rattle.std.specs.Prelude.{ℕ, IsTrue, List, length, Err, Result, if◌then◌else◌}
use Rattle.std.specs.Option.{ok_or}
use Rattle.refusals.specs.Choice.{if_so}
use Rattle.voting.specs.Rules.{can_vote}
use Rattle.voting.specs.Voting.{sized}
use Rattle.voting.specs.declared.RuleFault.{RuleFault}
use Rattle.voting.specs.declared.RuleFault.TheVariants.{Size, Ballot}
use Rattle.voting.specs.declared.majority.Majority.{Majority}
use Rattle.voting.specs.declared.weights.Weights.{Weights}

-- how many controllers a majority's group has
abbrev pub size_of : Majority → ℕ
size_of m = m.size

-- the majority of a group of n
abbrev pub majority_of : ℕ → Result Majority RuleFault
majority_of n = ok_or (if_so (sized n) (λ passed. record { size = n; ok = passed })) Size

-- the weights of a rule, the first of them controller 0's
abbrev pub row_of : Weights → List ℕ
row_of w = w.row

-- the rule by these weights
abbrev pub weights_of : (row : List ℕ) → IsTrue (can_vote row) → Weights
weights_of row passed = record { row = row; ok = passed }

-- what a row of weights gives: the rule, if the row is as long as a group and its weights can vote, tested in that order
abbrev pub ballot_of : List ℕ → Result Weights RuleFault
ballot_of row = if sized (length row) then ok_or (if_so (can_vote row) (weights_of row)) Ballot else Err Size
