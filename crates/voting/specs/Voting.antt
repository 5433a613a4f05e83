-- What a voting rule owes: four laws on the sets that it accepts, for every group that is neither too small nor too large.
use Rattle.std.specs.Prelude.{◌≡◌, ℕ, ◌<◌, ◌≤◌, Bool, true, false, ◌&&◌, ◌↔◌, nat_le}
use Rattle.voting.specs.Sets.{has, adding, whole}

-- the most controllers that a group has, and the bits of a set
abbrev pub limit : ℕ
limit = 8

-- whether a group of n controllers is one for which the laws are owed
abbrev pub sized : ℕ → Bool
sized n = nat_le 2 n && nat_le n limit

-- the laws of a rule that accepts these sets in a group of n
pub record Lawful (n : ℕ) (accepts : ℕ → Bool) : Type 0 where
  -- any two accepted sets share a controller
  pub meets : (a b : ℕ) → accepts a ≡ true → accepts b ≡ true → (i : ℕ) × (has a i ≡ true) × (has b i ≡ true)
  -- adding a controller of the group to an accepted set leaves it accepted
  pub grows : (s i : ℕ) → i < n → accepts s ≡ true → accepts (adding s i) ≡ true
  -- the whole group is accepted
  pub whole : accepts (whole n) ≡ true
  -- a set with a member from outside the group is not accepted
  pub strangers : (s i : ℕ) → n ≤ i → has s i ≡ true → accepts s ≡ false

-- the controllers of which P holds are an accepted set
abbrev pub Quorum : (ℕ → Bool) → (ℕ → Type 0) → Type 0
Quorum accepts P = (s : ℕ) × (accepts s ≡ true) × ((i : ℕ) → (has s i ≡ true) ↔ P i)
