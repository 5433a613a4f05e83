-- Four simpler facts give a rule its four laws, in a group of any size: only controllers of the group are accepted, adding one member
-- keeps a set accepted, a set and its complement are not both accepted, and the whole group is accepted.
use Rattle.std.specs.Prelude.{◌≡◌, ℕ, zero, suc, ◌-◌, ◌/◌, ◌%◌, ◌^◌, ◌<◌, ◌≤◌, Bool, true, ◌⊎◌, ◌≢◌}
use Rattle.std.proofs.Common.{◌∙◌, inl, inr, ⊎_elim, pow-suc, arith}
use Rattle.std.proofs.lemmas.Bool.{cases_lt}
use Rattle.std.proofs.lemmas.Bool.Decides.{nat_tests}
use Rattle.voting.specs.Sets.{adding, whole}
use Rattle.voting.specs.Voting.{Lawful}
use Rattle.voting.specs.Members.{Shared, refuses_strangers, half_lt, has-half, has-lowest}
use Rattle.voting.specs.Supersets.{Under, upward}

-- the four facts
pub record Steady (n : ℕ) (accepts : ℕ → Bool) : Type 0 where
  pub inside : (s : ℕ) → accepts s ≡ true → s < 2 ^ n
  pub steps : (s i : ℕ) → i < n → accepts s ≡ true → accepts (adding s i) ≡ true
  pub apart : (s : ℕ) → accepts s ≡ true → accepts (whole n - s) ≢ true
  pub everyone : accepts (whole n) ≡ true

-- a complement, halved
complement_half : (n b : ℕ) → b < 2 ^ suc n → (whole (suc n) - b) / 2 ≡ whole n - b / 2
complement_half n b lt = omega (arith, pow-suc 2 n)

complement_lowest : (n b : ℕ) → b < 2 ^ suc n → (whole (suc n) - b) % 2 ≡ 1 - b % 2
complement_lowest n b lt = omega (arith, pow-suc 2 n)

later_shared : (a b : ℕ) → Shared (a / 2) (b / 2) → Shared a b
later_shared a b (i, ina, inb) = (suc i, has-half a i ∙ ina, has-half b i ∙ inb)

lowest_shared : (a b : ℕ) → 1 - b % 2 < a % 2 → Shared a b
lowest_shared a b lt = grind (arith, nat_tests, has-lowest)

-- of two sets that share no controller one lies under the other's complement
shared_or_under : (n a b : ℕ) → a < 2 ^ n → b < 2 ^ n → Shared a b ⊎ Under n a (whole n - b)
unfolding Under
shared_or_under zero a b la lb = inr (omega arith)
shared_or_under (suc n) a b la lb =
    ⊎_elim (λ shared. inl (later_shared a b shared))
    (λ (under : Under n (a / 2) (whole n - b / 2)). ⊎_elim (λ both. inl (lowest_shared a b both))
    (λ (le : a % 2 ≤ 1 - b % 2). inr (rw complement_lowest le, rw complement_half under))
    (cases_lt (1 - b % 2) (a % 2)))
    (shared_or_under n (a / 2) (b / 2) (half_lt n a la) (half_lt n b lb))

pub steady_lawful : (n : ℕ) (accepts : ℕ → Bool) → Steady n accepts → Lawful n accepts
steady_lawful n accepts steady =
    record {
      meets = λ a b yea also. ⊎_elim (λ shared. shared)
          (λ under. absurd (steady.apart b also (upward n accepts a (whole n - b) steady.steps under yea)))
          (shared_or_under n a b (steady.inside a yea) (steady.inside b also));
      grows = steady.steps;
      whole = steady.everyone;
      strangers = refuses_strangers n accepts steady.inside;
    }
