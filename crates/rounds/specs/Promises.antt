-- The three promises, over an account of who proposed, kept, finished and decided what.
use Rattle.std.specs.Prelude.{◌≡◌, ℕ, ◌+◌, ◌-◌, ◌≤◌, true, ◌≢◌, ◌⊎◌}
use Rattle.voting.specs.Voting.{Quorum}
use Rattle.rounds.specs.Terms.{Terms}

-- what the promises speak of
pub record Account (V : Type 0) : Type 1 where
  -- a controller proposed this order
  pub Proposed : (controller : ℕ) → V → Type 0
  -- a controller has decided this order
  pub Decided : (controller : ℕ) → V → Type 0
  -- a controller finishes this round, and is told this leader as it does
  pub Finishes : (controller round leader : ℕ) → Type 0
  -- a controller kept this sender's letter of this round
  pub Kept : (controller sender round : ℕ) → Type 0

module _ {V : Type 0} (terms : Terms V) (a : Account V) where
  -- any two orders that controllers have decided, two controllers or one, are the same
  abbrev pub Agreement : Type 0
  Agreement = (i j : ℕ) (v w : V) → a.Decided i v → a.Decided j w → v ≡ w

  -- an order that was decided was proposed, and the controllers whose proposals rank no higher than it are an accepted set
  abbrev pub Validity : Type 0
  Validity =
      (i : ℕ) (v : V) → a.Decided i v
      → ((c : ℕ) × a.Proposed c v)
      × Quorum terms.accepts (λ c. (p : V) × a.Proposed c p × (terms.kind.ranks v p ≡ true))

  -- for the four rounds from g on: a controller that finishes the last of them
  abbrev pub Stayer : (g controller : ℕ) → Type 0
  Stayer g c = (l : ℕ) × a.Finishes c (g + 3) l

  -- round k of the four is settled under l
  pub record Settled (g l k : ℕ) : Type 0 where
    -- every stayer was told l when it finished the round before
    pub led : (c : ℕ) → Stayer g c → a.Finishes c (k - 1) l
    -- every stayer but l kept l's letter
    pub hears : (c : ℕ) → Stayer g c → c ≢ l → a.Kept c l k
    -- the stayers whose letters l kept, with l, are an accepted set
    pub heard : Quorum terms.accepts (λ s. Stayer g s × ((s ≡ l) ⊎ a.Kept l s k))

  -- whenever four rounds in a row are settled under one leader, itself a stayer, every stayer has decided
  abbrev pub Decision : Type 0
  Decision =
      (g l : ℕ) → 1 ≤ g → Stayer g l → Settled g l g → Settled g l (g + 1) → Settled g l (g + 2) → Settled g l (g + 3)
      → (c : ℕ) → Stayer g c → (v : V) × a.Decided c v

  -- all three promises
  pub record Promises : Type 0 where
    pub agreement : Agreement
    pub validity : Validity
    pub decision : Decision
