-- One round of one controller: what it makes for the next round, from what is present in this one.
use Rattle.std.specs.Prelude.{ℕ, zero, suc, Bool, true, false, if◌then◌else◌, ◌&&◌, ◌||◌, Some, None, Option, ◌==◌, nat_eq, nat_lt}
use Rattle.std.specs.Option.{option_or}
use Rattle.letters.specs.declared.letter.Content.{Content}
use Rattle.letters.specs.declared.phase.Phase.{Phase}
use Rattle.letters.specs.declared.phase.Phase.TheVariants.{Prepare, Commit, Decide}
use Rattle.orders.specs.Kinds.{Meaning}
use Rattle.voting.specs.Sets.{set_of}
use Rattle.rounds.specs.Terms.{Terms}

-- whether a letter says COMMIT, and whether it says DECIDE, by its type
abbrev pub is_commit : Phase → Bool
is_commit Prepare = false
is_commit Commit = true
is_commit Decide = false

abbrev pub is_decide : Phase → Bool
is_decide Prepare = false
is_decide Commit = false
is_decide Decide = true

-- what a controller makes for round 1: its proposal, which nobody has committed to, and the leader that it is told
abbrev pub initial : {V : Type 0} → (told : ℕ) → V → Content V
initial told proposal = record { phase = Prepare; leader = told; approved = false; timestamp = 0; estimate = proposal }

-- what a controller has before it as it finishes a round
pub record View (V : Type 0) : Type 0 where
  -- its number
  pub self : ℕ
  -- what its own letter of the round says
  pub own : Content V
  -- by sender, what the letters of the round say that it kept from others
  pub others : ℕ → Option (Content V)

-- by sender, what the letters present in the round say: its own and those of the others
abbrev pub present : {V : Type 0} → View V → ℕ → Option (Content V)
present view s = if s == view.self then Some view.own else view.others s

-- whether there is a letter, and it passes a test
abbrev pub passes : {V : Type 0} → (Content V → Bool) → Option (Content V) → Bool
passes test None = false
passes test (Some c) = test c

-- a letter, if it is there and passes a test
abbrev pub passing : {V : Type 0} → (Content V → Bool) → Option (Content V) → Option (Content V)
passing test None = None
passing test (Some c) = if test c then Some c else None

-- whether a letter comes before another as the ground of the next estimate: timestamps first, rank second
abbrev pub precedes : {V : Type 0} → Meaning V → Content V → Content V → Bool
precedes kind c d =
    nat_lt d.timestamp c.timestamp || (c.timestamp == d.timestamp && kind.ranks c.estimate d.estimate)

-- of two letters, of which the second may not be there, the one that comes first
abbrev pub foremost : {V : Type 0} → Meaning V → Content V → Option (Content V) → Content V
foremost kind best None = best
foremost kind best (Some c) = if precedes kind c best then c else best

module _ {V : Type 0} (terms : Terms V) (view : View V) where
  -- the senders whose present letters pass a test
  abbrev pub senders : (Content V → Bool) → ℕ
  senders test = set_of terms.size (λ s. passes test (present view s))

  -- of the letters from senders below n and its own, the one that comes first
  abbrev pub gathered : (n : ℕ) → Content V
  gathered zero = view.own
  gathered (suc n) = foremost terms.kind (gathered n) (present view n)

  -- of the senders below n, the lowest one's DECIDE
  abbrev pub first_decide : (n : ℕ) → Option (Content V)
  first_decide zero = None
  first_decide (suc n) = option_or (first_decide n) (passing (λ c. is_decide c.phase) (present view n))

  -- whether the rule accepts the senders who name it leader
  abbrev pub backed : Bool
  backed = terms.accepts (senders (λ c. nat_eq c.leader view.self))

  -- whether its own letter is an approved COMMIT, and the rule accepts the senders of COMMIT
  abbrev pub reached : Bool
  reached = is_commit view.own.phase && (view.own.approved && terms.accepts (senders (λ c. is_commit c.phase)))

  -- the letter of the leader that its own letter names, if that is present and approved
  abbrev pub followed : Option (Content V)
  followed = passing (λ c. c.approved) (present view view.own.leader)

  module _ (round told : ℕ) where
    -- what an undecided controller says next: these three, the leader that it is told, and whether it was backed
    abbrev pub saying : Phase → (timestamp : ℕ) → (estimate : V) → Content V
    saying phase timestamp estimate =
        record { phase = phase; leader = told; approved = backed; timestamp = timestamp; estimate = estimate }

    -- by the first of these that is so: a DECIDE is there; commits are enough; an approved leader is there; else it prepares
    abbrev pub undecided : (decide : Option (Content V)) → (enough : Bool) → (leader : Option (Content V)) → Content V
    undecided (Some c) enough leader = saying Decide view.own.timestamp c.estimate
    undecided None true leader = saying Decide view.own.timestamp view.own.estimate
    undecided None false (Some c) = saying Commit round c.estimate
    undecided None false None = let best = gathered terms.size in saying Prepare best.timestamp best.estimate

    -- what it makes for the next round; one that has decided says the same again
    unfoldable pub next : Content V
    next = if is_decide view.own.phase then view.own else undecided (first_decide terms.size) reached followed
