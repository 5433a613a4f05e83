-- How the faults of a rule come down to refusals.
use Rattle.refusals.specs.Refusals.{refusal_at}
use Rattle.refusals.specs.declared.Refusal.{Refusal}
use Rattle.refusals.specs.declared.Reason.TheVariants.{Size as TooFewOrMany, Ballot as BadBallot}
use Rattle.voting.specs.declared.RuleFault.{RuleFault}
use Rattle.voting.specs.declared.RuleFault.TheVariants.{Size, Ballot}

-- the refusal of a faulty rule: no byte is at fault, so the place is 0
abbrev pub rule_refusal : RuleFault → Refusal
rule_refusal Size = refusal_at TooFewOrMany 0
rule_refusal Ballot = refusal_at BadBallot 0
