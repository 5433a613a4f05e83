-- What a round gives a controller, in relations: which outcomes there are, when each comes about, and what is then said.
use Rattle.std.specs.Prelude.{◌≡◌, ℕ, ◌<◌, ◌≤◌, true, ◌≢◌, ◌↔◌, Some}
use Rattle.letters.specs.declared.letter.Content.{Content}
use Rattle.letters.specs.declared.phase.Phase.TheVariants.{Prepare, Commit, Decide}
use Rattle.voting.specs.Voting.{Quorum}
use Rattle.rounds.specs.Next.{View, present, next}
use Rattle.rounds.specs.Terms.{Terms}

-- how a round may end for an undecided controller: it takes over a decision, reaches one by commits, commits to the
-- estimate of its leader, or prepares
pub data Outcome : Type 0 where
  adopts : Outcome
  reaches : Outcome
  follows : Outcome
  prepares : Outcome

module _ {V : Type 0} (terms : Terms V) (view : View V) where
  -- a letter of this sender is present, and says this
  abbrev pub Present : (sender : ℕ) → Content V → Type 0
  Present s c = present view s ≡ Some c

  -- only letters of controllers of the group are present, its own among them
  abbrev pub Within : Type 0
  Within = (s : ℕ) (c : Content V) → Present s c → s < terms.size

  -- the senders of the present letters of which P holds are an accepted set
  abbrev pub Backed : (Content V → Type 0) → Type 0
  Backed P = Quorum terms.accepts (λ s. (c : Content V) × Present s c × P c)

  -- no letter that is present says DECIDE
  abbrev pub NoDecide : Type 0
  NoDecide = (s : ℕ) (c : Content V) → Present s c → c.phase ≢ Decide

  -- a DECIDE is present, and that of the lowest sender has this estimate
  pub record Adopts (estimate : V) : Type 0 where
    pub sender : ℕ
    pub letter : Content V
    pub there : Present sender letter
    pub decides : letter.phase ≡ Decide
    pub says : letter.estimate ≡ estimate
    pub lowest : (s : ℕ) (c : Content V) → Present s c → c.phase ≡ Decide → sender ≤ s

  -- its own letter is a COMMIT and approved, and an accepted set sent COMMIT
  pub record Reaches : Type 0 where
    pub commit : view.own.phase ≡ Commit
    pub approved : view.own.approved ≡ true
    pub backed : Backed (λ c. c.phase ≡ Commit)

  -- the letter of the leader that its own letter names is present and approved, and has this estimate
  pub record Follows (estimate : V) : Type 0 where
    pub letter : Content V
    pub there : Present view.own.leader letter
    pub approved : letter.approved ≡ true
    pub says : letter.estimate ≡ estimate

  -- a letter is present with this timestamp and estimate; none has a later one, and of those that have it none ranks higher
  pub record Greatest (timestamp : ℕ) (estimate : V) : Type 0 where
    pub sender : ℕ
    pub letter : Content V
    pub there : Present sender letter
    pub stamp : letter.timestamp ≡ timestamp
    pub says : letter.estimate ≡ estimate
    pub latest : (s : ℕ) (c : Content V) → Present s c → c.timestamp ≤ timestamp
    pub highest : (s : ℕ) (c : Content V) → Present s c → c.timestamp ≡ timestamp
        → terms.kind.ranks estimate c.estimate ≡ true

  -- when an undecided controller's round ends in an outcome, and which type, timestamp and estimate come of it
  abbrev pub Ends : (round : ℕ) → Outcome → Content V → Type 0
  Ends round adopts c = (c.phase ≡ Decide) × (c.timestamp ≡ view.own.timestamp) × Adopts c.estimate
  Ends round reaches c =
      (c.phase ≡ Decide) × (c.timestamp ≡ view.own.timestamp) × (c.estimate ≡ view.own.estimate) × NoDecide × Reaches
  Ends round follows c = (c.phase ≡ Commit) × (c.timestamp ≡ round) × Follows c.estimate × NoDecide × (Reaches → ⊥)
  Ends round prepares c =
      (c.phase ≡ Prepare) × Greatest c.timestamp c.estimate × NoDecide × (Reaches → ⊥) × ((v : V) → Follows v → ⊥)

  -- what an undecided controller makes of the round, told a leader
  pub record Ended (round told : ℕ) (c : Content V) : Type 0 where
    -- the round ends in an outcome,
    pub outcome : Outcome
    pub ends : Ends round outcome c
    -- and in no other, nor in this one with anything else to say
    pub only : (o : Outcome) (d : Content V) → Ends round o d
        → (o ≡ outcome) × (d.phase ≡ c.phase) × (d.timestamp ≡ c.timestamp) × (d.estimate ≡ c.estimate)
    -- it is approved just if an accepted set names it leader
    pub approved : (c.approved ≡ true) ↔ Backed (λ d. d.leader ≡ view.self)
    -- it names the leader that it is told
    pub leader : c.leader ≡ told

  -- what a round gives: a decision is final, and who has none makes something of the round
  pub record Gives (round told : ℕ) (c : Content V) : Type 0 where
    pub decided : view.own.phase ≡ Decide → c ≡ view.own
    pub undecided : view.own.phase ≢ Decide → Ended round told c

-- whatever a controller of the group has before it, `next` is what the round gives
abbrev pub EveryRound : {V : Type 0} → Terms V → Type 0
EveryRound {V} terms =
    (view : View V) (round told : ℕ) → Within terms view → Gives terms view round told (next terms view round told)
