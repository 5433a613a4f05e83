-- Which numbers are lamps. Assumes nothing.
use Rattle.std.specs.Prelude.{ℕ, Bool, ◌&&◌, nat_le}

-- the carousel has the lamps 1 to 12
abbrev pub is_lamp : ℕ → Bool
is_lamp n = nat_le 1 n && nat_le n 12
