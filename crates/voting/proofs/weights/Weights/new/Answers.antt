-- The made rule is the stated one, by whatever proof its row was found to make one.
use Rattle.std.proofs.Common.{◌≡◌, IsTrue, List, ℕ, length, Ok, Err, sym, ap, ◌∙◌, arith}
use Rattle.std.proofs.lemmas.Bool.{and_parts, cond-true}
use Rattle.std.proofs.lemmas.Grind.{common_steps}
use Rattle.std.specs.Option.{ok_or}
use Rattle.refusals.specs.Choice.{if_so}
use Rattle.refusals.proofs.Choices.{if_so-made}
use Rattle.voting.specs.Makes.{weights_of, ballot_of}
use Rattle.voting.specs.Rules.{can_vote, fair}
use Rattle.voting.specs.Voting.{sized}
use Rattle.voting.specs.declared.RuleFault.TheVariants.{Size, Ballot}
use Rattle.voting.proofs.weights.Weights.new.Goals as goal

made : (row : List ℕ) (h : IsTrue (can_vote row)) → ballot_of row ≡ Ok (weights_of row h)
made row h =
    cond-true (sized (length row)) (ok_or (if_so (can_vote row) (weights_of row)) Ballot) (Err Size) (and_parts (sized (length row)) (fair row) h).0
    ∙ ap (λ o. ok_or o Ballot) (if_so-made (can_vote row) (weights_of row) h)

pub returns : goal.returns
returns c =
    let same : c.in_ok-row.row ≡ c.args.weights.now = grind (arith, common_steps) in
    sym (made c.in_ok-row.row _) ∙ ap ballot_of same
