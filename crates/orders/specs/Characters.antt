-- Flash characters: the code, count and period of each, and which of these fit together.
use Rattle.std.specs.Prelude.{ℕ, Bool, Option, None, ◌&&◌, ◌==◌, nat_le, if◌then◌else◌}
use Rattle.refusals.specs.Choice.{wrong_at}
use Rattle.orders.specs.declared.character.Character.{Character}
use Rattle.orders.specs.declared.character.Character.TheVariants.{Fixed, Flashing, Isophase, GroupFlashing}

-- the code that stands for a character
abbrev pub code_of : Character → ℕ
code_of Fixed = 0
code_of (Flashing period) = 1
code_of (Isophase period) = 2
code_of (GroupFlashing count period) = 3

-- how many flashes a group has; 0 where there is no group
abbrev pub count_of : Character → ℕ
count_of Fixed = 0
count_of (Flashing period) = 0
count_of (Isophase period) = 0
count_of (GroupFlashing count period) = count

-- the period in tenths of a second; 0 where there is none
abbrev pub period_of : Character → ℕ
period_of Fixed = 0
period_of (Flashing period) = period
period_of (Isophase period) = period
period_of (GroupFlashing count period) = period

-- the character with this code, count and period, where these fit together
abbrev pub character_of : ℕ → ℕ → ℕ → Character
character_of code count period =
    if code == 1 then Flashing period else (if code == 2 then Isophase period else (if code == 3 then GroupFlashing count period else Fixed))

-- a group has 2 to 6 flashes, and only a group has a count
abbrev pub count_fits : ℕ → ℕ → Bool
count_fits code count = if code == 3 then nat_le 2 count && nat_le count 6 else count == 0

-- a period takes 1 to 60 seconds, and a fixed light has none
abbrev pub period_fits : ℕ → ℕ → Bool
period_fits code period = if code == 0 then period == 0 else nat_le 10 period && nat_le period 600

-- the place in a field of the first of the code, count and period that is wrong
abbrev pub character_wrong : ℕ → ℕ → ℕ → Option ℕ
character_wrong code count period =
    wrong_at (nat_le code 3) 2 (wrong_at (count_fits code count) 3 (wrong_at (period_fits code period) 4 None))

-- the count and the period of a character are within their limits
abbrev pub character_fits : Character → Bool
character_fits c = count_fits (code_of c) (count_of c) && period_fits (code_of c) (period_of c)
