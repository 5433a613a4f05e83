-- The rules that every letter keeps for as long as it exists.
use Rattle.std.specs.Prelude.{ℕ, ◌+◌, Bool, ◌&&◌, ◌||◌, ◌==◌, nat_le, nat_lt}
use Rattle.voting.specs.Voting.{sized}
use Rattle.letters.specs.declared.phase.Phase.{Phase}
use Rattle.letters.specs.declared.phase.Phase.TheVariants.{Prepare, Commit, Decide}

-- the last round
abbrev pub last_round : ℕ
last_round = 1000000

-- whether letters are sent in a round
abbrev pub is_round : ℕ → Bool
is_round round = nat_le 1 round && nat_le round last_round

-- the timestamp rule: a commit was made in the round before; every other letter stands on an earlier commit, or on none
abbrev pub on_time : Phase → ℕ → ℕ → Bool
on_time Prepare round timestamp = nat_le (timestamp + 2) round || (round == 1 && timestamp == 0)
on_time Commit round timestamp = nat_le 2 round && timestamp + 1 == round
on_time Decide round timestamp = nat_le (timestamp + 2) round

-- a letter's rules: size, sender and leader below it, round and timestamp
abbrev pub letter_fits : (size sender leader : ℕ) → Phase → (round timestamp : ℕ) → Bool
letter_fits size sender leader phase round timestamp =
    sized size && (nat_lt sender size && (nat_lt leader size && (is_round round && on_time phase round timestamp)))
