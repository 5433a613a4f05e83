-- Sets of controllers: what `has`, `adding`, `whole` and `within` say of each other, over any number of bits.
use Rattle.std.specs.Prelude.{◌≡◌, ℕ, zero, suc, ◌+◌, ◌/◌, ◌%◌, ◌^◌, ◌<◌, ◌≤◌, Bool, true, false, ◌==◌}
use Rattle.std.proofs.Common.{ap, ◌∙◌, pow-suc, arith, pow_pos, pow_mono, lt_of_lt_of_le, zero-mul}
use Rattle.std.proofs.Math.Nat.{div-eq_of_lt, lt-div-mul-add}
use Rattle.std.proofs.Math.Pow.{pow-lt}
use Rattle.std.specs.Int.Count.{ones, ones_step}
use Rattle.std.proofs.lemmas.Bool.Decides.{nat_tests}
use Rattle.std.proofs.lemmas.Nat.{or_lt, ones-le}
use Rattle.std.proofs.lemmas.Nat.Bits.{bit_at_lowest, bit_at-suc, bit_at-lt, bit_at_or, bit_at_ones}
use Rattle.voting.specs.Sets.{has, adding, whole, within, count}
use Rattle.voting.specs.Voting.{limit}

-- two sets share a controller
abbrev pub Shared : ℕ → ℕ → Type 0
Shared a b = (i : ℕ) × (has a i ≡ true) × (has b i ≡ true)

-- the lowest bit is controller 0's
pub has-lowest : (s : ℕ) → has s 0 ≡ (s % 2 == 1)
has-lowest s = ap (λ x. x == 1) (bit_at_lowest s)

-- the rest are those of half the set, each one lower
pub has-half : (s i : ℕ) → has s (suc i) ≡ has (s / 2) i
has-half s i = ap (λ x. x == 1) (bit_at-suc s i)

pub within_lt : (n s : ℕ) → within n s ≡ true → s < 2 ^ n
within_lt n s h = grind (arith, nat_tests, lt-div-mul-add {a = s} (pow_pos n), zero-mul (2 ^ n))

pub lt_within : (n s : ℕ) → s < 2 ^ n → within n s ≡ true
lt_within n s h = grind (arith, nat_tests, div-eq_of_lt h)

-- of a set below 2 ^ n nothing is left from n on
none_left : (s n k : ℕ) → s < 2 ^ n → n ≤ k → s / 2 ^ k ≡ 0
none_left s n k h le = div-eq_of_lt (lt_of_lt_of_le h (pow_mono le))

-- the same of a set of the program, from its width on
pub none_past : (s k : ℕ) → s < 2 ^ limit → limit ≤ k → s / 2 ^ k ≡ 0
none_past s k h le = none_left s limit k h le

-- a set below 2 ^ n has no member of n or above
pub absent : (s n i : ℕ) → s < 2 ^ n → n ≤ i → has s i ≡ false
absent s n i h le = rw (none_left s n i h le)

-- a rule that accepts only sets below 2 ^ n accepts none with a member of n or above
pub refuses_strangers : (n : ℕ) (accepts : ℕ → Bool) → ((s : ℕ) → accepts s ≡ true → s < 2 ^ n) → (s i : ℕ) → n ≤ i → has s i ≡ true → accepts s ≡ false
refuses_strangers n accepts inside s i le there = grind (arith, inside s, absent s n i)

pub half_lt : (n s : ℕ) → s < 2 ^ suc n → s / 2 < 2 ^ n
half_lt n s h = omega (arith, pow-suc 2 n)

-- a member stays one
pub adding-keeps : (s i k : ℕ) → has s k ≡ true → has (adding s i) k ≡ true
adding-keeps s i k h = grind (arith, nat_tests, bit_at_or s (2 ^ i) k, bit_at-lt (2 ^ i) k)

pub adding-lt : (n s i : ℕ) → i < n → s < 2 ^ n → adding s i < 2 ^ n
adding-lt n s i hi hs = or_lt n s (2 ^ i) hs (pow-lt hi)

pub whole_lt : (n : ℕ) → whole n < 2 ^ n
whole_lt n = omega (arith, pow_pos n)

-- the whole group has each controller below n
pub whole_has : (n i : ℕ) → i < n → has (whole n) i ≡ true
whole_has n i h = grind (arith, nat_tests, bit_at_ones n i)

-- a set below 2 ^ n has as many members as it has bits that are set
pub count_ones : (n s : ℕ) → s < 2 ^ n → ones s ≡ count n s
count_ones zero s h = omega (arith, ones-le 0 s h)
count_ones (suc n) s h = ones_step s ∙ ap (λ x. s % 2 + x) (count_ones n (s / 2) (half_lt n s h))

-- the same of a set with no stranger
pub count_within : (n s : ℕ) → within n s ≡ true → count n s ≡ ones s
count_within n s inside = grind (arith, count_ones n s, within_lt n s)
