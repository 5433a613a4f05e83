-- The three promises, of every lawful history of a group on lawful terms.
use Rattle.std.specs.Prelude.{ℕ, Bool}
use Rattle.orders.specs.Kinds.{Meaning}
use Rattle.orders.specs.Kinds as kinds
use Rattle.voting.specs.Voting as voting
use Rattle.rounds.specs.History.{EveryHistory}
use Rattle.rounds.specs.Promises.{Promises}
use Rattle.rounds.specs.Terms.{Terms, Lawful, terms_of}
use Rattle.rounds.proofs.Agreeing.{agreement}
use Rattle.rounds.proofs.Backing.{validity}
use Rattle.rounds.proofs.Settling.{decision}
use Rattle.rounds.proofs.Steps.{Course}

pub promises : {V : Type 0} (terms : Terms V) → Lawful terms → EveryHistory Promises terms
unfolding EveryHistory
promises {V} terms laws h abides =
    let course : Course V = record { terms = terms; laws = laws; past = h; abides = abides } in
    record { agreement = agreement course; validity = validity course; decision = decision course }

-- the same of a kind and a rule whose laws are known
pub promises_of : {V : Type 0} (kind : Meaning V) (size : ℕ) (accepts : ℕ → Bool) → kinds.Lawful kind → voting.Lawful size accepts → EveryHistory Promises (terms_of kind size accepts)
promises_of kind size accepts kept owed = promises (terms_of kind size accepts) (record { kind = kept; rule = owed })
