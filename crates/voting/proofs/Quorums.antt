-- Quorums: how a test finds one, that two of them share a controller, and that more controllers are a quorum too.
use Rattle.std.proofs.Common.{◌≡◌, ℕ, zero, suc, ◌/◌, ◌^◌, ◌<◌, ◌≤◌, Bool, true, ◌⊎◌, ◌↔◌, ap, ◌∙◌, pow-suc, arith, pow_pos}
use Rattle.std.proofs.lemmas.Bool.Decides.{nat_tests}
use Rattle.std.proofs.lemmas.Nat.Bits.{bit_at_or, bit_at-lt, bit_at-pow_same, bit_at-pow_other}
use Rattle.voting.specs.Sets.{has, adding, set_of}
use Rattle.voting.specs.Voting.{Lawful, Quorum}
use Rattle.voting.specs.Members.{has-half, absent, adding-keeps, adding-lt}
use Rattle.voting.specs.Supersets.{upward, under_members, same_members}

-- a member that was added is the one
adding-only : (s i k : ℕ) → has (adding s i) k ≡ true → (has s k ≡ true) ⊎ (k ≡ i)
adding-only s i k there = grind (arith, nat_tests, bit_at_or s (2 ^ i) k, bit_at-pow_other i k)

adding-has : (s i : ℕ) → has (adding s i) i ≡ true
adding-has s i = grind (arith, nat_tests, bit_at_or s (2 ^ i) i, bit_at-pow_same i, bit_at-lt s i)

empty_has : (k : ℕ) → has 0 k ≡ true → ⊥
empty_has k there = grind (arith, absent 0 0 k)

module _ (test : ℕ → Bool) where
  pub set_of-has : (n k : ℕ) → k < n → test k ≡ true → has (set_of n test) k ≡ true
  set_of-has zero k lt pass = absurd (omega arith)
  set_of-has (suc n) k lt pass =
      grind (arith, set_of-has n k, adding-keeps (set_of n test) n k, adding-has (set_of n test) n)

  pub has-set_of : (n k : ℕ) → has (set_of n test) k ≡ true → (k < n) × (test k ≡ true)
  has-set_of zero k there = absurd (empty_has k there)
  has-set_of (suc n) k there = grind (arith, has-set_of n k, adding-only (set_of n test) n k)

  set_of-lt : (n : ℕ) → set_of n test < 2 ^ n
  set_of-lt zero = pow_pos 0
  set_of-lt (suc n) = grind (arith, set_of-lt n, pow-suc 2 n, adding-lt (suc n) (set_of n test) n)

-- a set with no member of n or above is below 2 ^ n
none_above : (n s : ℕ) → ((i : ℕ) → n ≤ i → has s i ≡ true → ⊥) → s < 2 ^ n
none_above zero s none =
    let empty : s ≡ 0 = same_members s 0 (λ i there. absurd (none i (omega arith) there))
    (λ i there. absurd (empty_has i there)) in
    omega (arith, pow_pos 0)
none_above (suc n) s none =
    let half : s / 2 < 2 ^ n = none_above n (s / 2) (λ i le there. none (suc i) (omega arith) (has-half s i ∙ there)) in
    omega (arith, pow-suc 2 n)

-- a test that just those of the group pass of whom P holds tells whether they are a quorum
module _ (n : ℕ) (test : ℕ → Bool) (P : ℕ → Type 0)
    (holds : (i : ℕ) → i < n → test i ≡ true → P i) (passes : (i : ℕ) → P i → (i < n) × (test i ≡ true)) where
  in_set : (i : ℕ) → (has (set_of n test) i ≡ true) ↔ P i
  in_set i = (
    λ there. let found = has-set_of test n i there in holds i found.0 found.1,
    λ p. set_of-has test n i (passes i p).0 (passes i p).1,
  )

  pub tested_quorum : (accepts : ℕ → Bool) → (accepts (set_of n test) ≡ true) ↔ Quorum accepts P
  tested_quorum accepts = (
    λ yea. (set_of n test, yea, in_set),
    λ quorum.
        let same = same_members (set_of n test) quorum.0 (λ i there. (quorum.2 i).1 ((in_set i).0 there))
        (λ i there. (in_set i).1 ((quorum.2 i).0 there)) in
        ap accepts same ∙ quorum.1,
  )

module _ (n : ℕ) (accepts : ℕ → Bool) (laws : Lawful n accepts) where
  pub quorums_meet : {P Q : ℕ → Type 0} → Quorum accepts P → Quorum accepts Q → (i : ℕ) × P i × Q i
  quorums_meet {P} {Q} a b =
      let shared = laws.meets a.0 b.0 a.1 b.1 in
      (shared.0, (a.2 shared.0).0 shared.1, (b.2 shared.0).0 shared.2)

  -- an accepted set has only members below n
  member_lt : (s i : ℕ) → accepts s ≡ true → has s i ≡ true → i < n
  member_lt s i yea there = grind (arith, laws.strangers s i)

  -- where every member of a quorum passes a test, those of the group who pass it are accepted
  pub quorum_more : (P : ℕ → Type 0) (test : ℕ → Bool)
      → Quorum accepts P → ((i : ℕ) → P i → test i ≡ true) → accepts (set_of n test) ≡ true
  quorum_more P test (s, yea, members) pass =
      let inside : s < 2 ^ n = none_above n s (λ i le there. omega (arith, member_lt s i yea there)) in
      upward n accepts s (set_of n test) laws.grows
      (under_members n s (set_of n test) inside (set_of-lt test n)
      (λ i there. set_of-has test n i (member_lt s i yea there) (pass i ((members i).0 there))))
      yea
