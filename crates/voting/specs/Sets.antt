-- Sets of controllers, as numbers: bit i of a set stands for controller i.
use Rattle.std.specs.Prelude.{ℕ, zero, suc, ◌+◌, ◌-◌, ◌/◌, ◌%◌, ◌^◌, Bool, if◌then◌else◌, ◌==◌, bit_or}

-- whether controller i is in s: bit i is set
abbrev pub has : ℕ → ℕ → Bool
has s i = s / 2 ^ i % 2 == 1

-- s with controller i in it too
abbrev pub adding : ℕ → ℕ → ℕ
adding s i = bit_or s (2 ^ i)

-- the whole group: all controllers below n
abbrev pub whole : ℕ → ℕ
whole n = 2 ^ n - 1

-- whether s has no member of n or above: nothing stands above the lowest n bits
abbrev pub within : ℕ → ℕ → Bool
within n s = s / 2 ^ n == 0

-- how many of the controllers below n are in s: the lowest, and those of the rest
abbrev pub count : ℕ → ℕ → ℕ
count zero s = 0
count (suc n) s = s % 2 + count n (s / 2)

-- the controllers below n that pass a test
abbrev pub set_of : ℕ → (ℕ → Bool) → ℕ
set_of zero test = 0
set_of (suc n) test = if test n then adding (set_of n test) n else set_of n test
