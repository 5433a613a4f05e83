-- The theorems on rounds, at the kind's own laws.
use Rattle.rounds.specs.Terms.{terms_of}
use Rattle.rounds.proofs.Outcomes.{round_gives}
use Rattle.rounds.proofs.Plays.{every_play}
use Rattle.rounds.proofs.group_of.Goals as goal

pub returns-clause-rounds : goal.returns-clause-rounds
returns-clause-rounds g c =
    let rule = c.args.rule.now in
    let terms = terms_of g.K.Kind.meaning (g.R.VotingRule.group rule) (g.R.VotingRule.accepted rule) in
    λ view round told within. round_gives terms g.met.K.Kind.lawful view within round told

pub returns-clause-plays : goal.returns-clause-plays
returns-clause-plays g c =
    let rule = c.args.rule.now in
    every_play (terms_of g.K.Kind.meaning (g.R.VotingRule.group rule) (g.R.VotingRule.accepted rule))
