-- Sets that have every member of another, and sets with the same members, over any number of bits.
use Rattle.std.specs.Prelude.{◌≡◌, ℕ, zero, suc, ◌+◌, ◌*◌, ◌/◌, ◌%◌, ◌^◌, ◌<◌, ◌≤◌, Bool, true}
use Rattle.std.proofs.Common.{sym, ap, ◌∙◌, pow-suc, arith}
use Rattle.std.specs.Int.{bit_at}
use Rattle.std.specs.Int.Bits.{or_step, or_zero_r}
use Rattle.std.proofs.lemmas.Bool.Decides.{nat_tests}
use Rattle.std.proofs.lemmas.Nat.Bits.{bit_at_lowest, bit_at-lt, same_from_bits}
use Rattle.voting.specs.Sets.{has, adding}
use Rattle.voting.specs.Members.{half_lt, has-half}

-- of n bits, each that is set in a is set in b, and above those the two agree
unfoldable pub Under : ℕ → ℕ → ℕ → Type 0
Under zero a b = a ≡ b
Under (suc n) a b = (a % 2 ≤ b % 2) × Under n (a / 2) (b / 2)

-- adding controller 0 sets the lowest bit
adding-lowest : (a : ℕ) → adding a 0 ≡ 2 * (a / 2) + 1
adding-lowest a = grind (arith, or_step a 1, or_zero_r (a / 2))

-- adding a later one adds to the rest
adding-later : (h x i : ℕ) → x < 2 → adding (2 * h + x) (suc i) ≡ 2 * adding h i + x
adding-later h x i lt = grind (arith, pow-suc 2 i, or_step (2 * h + x) (2 ^ suc i))

-- the lowest bit may be set
lowest_up : (accepts : ℕ → Bool) (a y : ℕ) → a % 2 ≤ y → y < 2 → accepts a ≡ true → accepts (adding a 0) ≡ true → accepts (2 * (a / 2) + y) ≡ true
lowest_up accepts a y le lt yea more = grind (arith, adding-lowest a)

-- a set above an accepted one is accepted, if adding one member keeps a set accepted
pub upward : (n : ℕ) (accepts : ℕ → Bool) (a b : ℕ)
    → ((s i : ℕ) → i < n → accepts s ≡ true → accepts (adding s i) ≡ true)
    → Under n a b → accepts a ≡ true → accepts b ≡ true
unfolding Under
upward zero accepts a b steps under yea = ap accepts (sym under) ∙ yea
upward (suc n) accepts a b steps under yea =
    let whole_b : 2 * (b / 2) + b % 2 ≡ b = omega arith in
    ap accepts (sym whole_b)
    ∙ upward n (λ s. accepts (2 * s + b % 2)) (a / 2) (b / 2)
    (λ s i lt here. ap accepts (sym (adding-later s (b % 2) i (omega arith))) ∙ steps (2 * s + b % 2) (suc i) (omega arith) here)
    under.1
    (lowest_up accepts a (b % 2) under.0 (omega arith) yea (steps a 0 (omega arith) yea))

-- a set has every member of another
abbrev Covers : ℕ → ℕ → Type 0
Covers a b = (i : ℕ) → has a i ≡ true → has b i ≡ true

-- where a member of a is one of b, its bit in a is no greater
bit_at-le : (a b i : ℕ) → (has a i ≡ true → has b i ≡ true) → bit_at a i ≤ bit_at b i
bit_at-le a b i up = grind (arith, nat_tests, bit_at-lt a i, up)

half_covers : (a b : ℕ) → Covers a b → Covers (a / 2) (b / 2)
half_covers a b up i there = grind (arith, has-half a i, has-half b i, up (suc i))

pub under_members : (n a b : ℕ) → a < 2 ^ n → b < 2 ^ n → Covers a b → Under n a b
unfolding Under
under_members zero a b la lb up = omega arith
under_members (suc n) a b la lb up =
    (rw (bit_at_lowest a, bit_at_lowest b) at (bit_at-le a b 0 (up 0)), under_members n (a / 2) (b / 2) (half_lt n a la) (half_lt n b lb) (half_covers a b up))

-- two sets with the same members are equal
pub same_members : (a b : ℕ) → Covers a b → Covers b a → a ≡ b
same_members a b up down = same_from_bits a b (λ i. omega (arith, bit_at-le a b i (up i), bit_at-le b a i (down i)))
