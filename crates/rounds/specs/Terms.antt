-- What the controllers of a group share.
use Rattle.std.specs.Prelude.{ℕ, Bool}
use Rattle.orders.specs.Kinds.{Meaning}
use Rattle.orders.specs.Kinds as kinds
use Rattle.voting.specs.Voting as voting

-- the kind of their orders, how many they are, and which sets of them their voting rule accepts
pub record Terms (V : Type 0) : Type 0 where
  pub kind : Meaning V
  pub size : ℕ
  pub accepts : ℕ → Bool

-- the terms of a kind and a rule that show their laws
pub record Lawful {V : Type 0} (t : Terms V) : Type 0 where
  pub kind : kinds.Lawful t.kind
  pub rule : voting.Lawful t.size t.accepts

-- the terms of a kind, and of a rule of this size that accepts these sets
abbrev pub terms_of : {V : Type 0} → Meaning V → ℕ → (ℕ → Bool) → Terms V
terms_of kind size accepts = record { kind = kind; size = size; accepts = accepts }
