-- Round histories: what the controllers of a group made for each round, whatever the order in which it came about.
use Rattle.std.specs.Prelude.{◌≡◌, ℕ, ◌+◌, ◌<◌, ◌≤◌, Bool, true, if◌then◌else◌, Some, None, Option}
use Rattle.letters.specs.declared.letter.Content.{Content}
use Rattle.letters.specs.declared.phase.Phase.TheVariants.{Decide}
use Rattle.rounds.specs.Next.{View, initial, next}
use Rattle.rounds.specs.Promises.{Account}
use Rattle.rounds.specs.Terms.{Terms}

-- what is to be known of a group's rounds
pub record History (V : Type 0) : Type 0 where
  -- what a controller proposed
  pub proposal : (controller : ℕ) → Option V
  -- what the letter says that a controller made for a round
  pub made : (controller round : ℕ) → Option (Content V)
  -- whether a controller kept a sender's letter of a round; where the sender made none, it counts for nothing
  pub kept : (controller round sender : ℕ) → Bool
  -- the leader that a controller was told as it finished a round
  pub told : (controller round : ℕ) → ℕ

module _ {V : Type 0} (h : History V) where
  -- what a controller has before it as it finishes a round in which its own letter says this
  abbrev pub view_of : (controller round : ℕ) → Content V → View V
  view_of i k own = record { self = i; own = own; others = λ s. if h.kept i k s then h.made s k else None }

  -- what a history tells: who makes a letter for a round has finished the one before, and has decided what its DECIDE says
  abbrev pub account_of : Account V
  account_of = record {
    Proposed = λ i v. h.proposal i ≡ Some v;
    Decided = λ i v. (k : ℕ) × (c : Content V) × (h.made i k ≡ Some c) × (c.phase ≡ Decide) × (c.estimate ≡ v);
    Finishes = λ i k l. (c : Content V) × (h.made i (k + 1) ≡ Some c) × (h.told i k ≡ l);
    Kept = λ i s k. h.kept i k s ≡ true;
  }

  -- the laws of a history: where it has a letter, the letter came about by the rules of the round
  pub record Lawful (terms : Terms V) : Type 0 where
    -- only controllers of the group propose
    pub proposer : (i : ℕ) (v : V) → h.proposal i ≡ Some v → i < terms.size
    -- only they make letters, and only for round 1 and later ones
    pub maker : (i k : ℕ) (c : Content V) → h.made i k ≡ Some c → (i < terms.size) × (1 ≤ k)
    -- a letter of round 1 is made of a proposal
    pub first : (i : ℕ) (c : Content V) → h.made i 1 ≡ Some c
        → (v : V) × (h.proposal i ≡ Some v) × (c ≡ initial (h.told i 0) v)
    -- a later one is made by the round before
    pub later : (i k : ℕ) (c : Content V) → 1 ≤ k → h.made i (k + 1) ≡ Some c
        → (own : Content V) × (h.made i k ≡ Some own) × (c ≡ next terms (view_of i k own) k (h.told i k))

-- a promise holds of what every lawful history tells
unfoldable pub EveryHistory : {V : Type 0} → (Terms V → Account V → Type 0) → Terms V → Type 0
EveryHistory {V} promise terms = (h : History V) → Lawful h terms → promise terms (account_of h)

-- no course of events is left out: whatever controllers of the group propose, keep and are told, and however many rounds
-- each of them finishes, there is a lawful history of just that
abbrev pub EveryPlay : {V : Type 0} → Terms V → Type 0
EveryPlay {V} terms =
    (proposal : ℕ → Option V) (kept : ℕ → ℕ → ℕ → Bool) (told : ℕ → ℕ → ℕ) (rounds : ℕ → ℕ)
    → ((i : ℕ) (v : V) → proposal i ≡ Some v → i < terms.size)
    → (h : History V) × Lawful h terms × (h.proposal ≡ proposal) × (h.kept ≡ kept) × (h.told ≡ told)
    × ((i k : ℕ) (v : V) → proposal i ≡ Some v → k < rounds i → (c : Content V) × (h.made i (k + 1) ≡ Some c))
    × ((i k : ℕ) → rounds i ≤ k → h.made i (k + 1) ≡ None)
