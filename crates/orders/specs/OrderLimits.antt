-- The limits that a lamp order keeps besides its lamp's.
use Rattle.std.specs.Prelude.{ℕ, Bool, ◌&&◌, nat_le}
use Rattle.orders.specs.Characters.{character_fits}
use Rattle.orders.specs.declared.character.Character.{Character}

-- a priority is one digit, and the character fits
abbrev pub order_fits : ℕ → Character → Bool
order_fits priority character = nat_le priority 9 && character_fits character
