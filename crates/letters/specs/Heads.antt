-- The first 16 bytes of a letter: how they are written, which of them are wrong, and what reading them answers.
use Rattle.std.specs.Prelude.{ℕ, ◌+◌, ◌*◌, ◌/◌, ◌%◌, Bool, if◌then◌else◌, ◌&&◌, List, ◌∷◌, Some, None, Ok, Err, Option, Result, ◌==◌, nat_le, nat_lt, slice_index}
use Rattle.refusals.specs.Choice.{wrong_at}
use Rattle.voting.specs.Voting.{sized}
use Rattle.letters.specs.Limits.{is_round, on_time, letter_fits}
use Rattle.letters.specs.Phases.{phase_byte, is_phase, phase_at}
use Rattle.letters.specs.declared.fault.LetterFault.{LetterFault}
use Rattle.letters.specs.declared.fault.LetterFault.TheVariants.{Garbled}
use Rattle.letters.specs.declared.head.Head.{Head}

-- a flag as a byte
abbrev pub flag_byte : Bool → ℕ
flag_byte b = if b then 1 else 0

-- a number in four bytes, the high one first, and what follows
abbrev pub four_bytes : ℕ → List ℕ → List ℕ
four_bytes n rest = (n / 16777216 % 256) ∷ (n / 65536 % 256) ∷ (n / 256 % 256) ∷ (n % 256) ∷ rest

-- the number in the four bytes from a place on
abbrev pub number_at : List ℕ → ℕ → ℕ
number_at bytes i =
    slice_index bytes i * 16777216 + slice_index bytes (i + 1) * 65536 + slice_index bytes (i + 2) * 256 + slice_index bytes (i + 3)

-- the first 16 bytes of a letter, and what follows
abbrev pub head_bytes : ℕ → Head → List ℕ → List ℕ
head_bytes wide h rest =
    phase_byte h.phase ∷ h.size ∷ h.sender ∷ h.leader ∷ flag_byte h.approved ∷ wide ∷ 0 ∷ 0
    ∷ four_bytes h.round (four_bytes h.timestamp rest)

-- the head that bytes hold, where none of them is wrong
abbrev pub head_in : List ℕ → Head
head_in bytes = record {
  phase = phase_at (slice_index bytes 0);
  size = slice_index bytes 1;
  sender = slice_index bytes 2;
  leader = slice_index bytes 3;
  approved = (slice_index bytes 4 == 1);
  round = number_at bytes 8;
  timestamp = number_at bytes 12;
}

-- whether a head keeps a letter's rules
abbrev pub head_fits : Head → Bool
head_fits h = letter_fits h.size h.sender h.leader h.phase h.round h.timestamp

-- the place of the first of size, sender and leader that breaks a letter's rules, else what is wrong later
abbrev pub group_wrong : Head → Option ℕ → Option ℕ
group_wrong h later =
    wrong_at (sized h.size) 1 (wrong_at (nat_lt h.sender h.size) 2 (wrong_at (nat_lt h.leader h.size) 3 later))

-- the place of the round or of the timestamp, where one of them breaks a letter's rules
abbrev pub clock_wrong : Head → Option ℕ
clock_wrong h = wrong_at (is_round h.round) 8 (wrong_at (on_time h.phase h.round h.timestamp) 12 None)

-- the place of the first field of a head that breaks a letter's rules
abbrev pub rule_broken : Head → Option ℕ
rule_broken h = group_wrong h (clock_wrong h)

-- the place of the first field of 32 bytes that is wrong, for a kind of this width
abbrev pub head_wrong : ℕ → List ℕ → Option ℕ
head_wrong wide bytes =
    wrong_at (is_phase (slice_index bytes 0)) 0
    (group_wrong (head_in bytes)
    (wrong_at (nat_le (slice_index bytes 4) 1) 4
    (wrong_at (slice_index bytes 5 == wide) 5
    (wrong_at (slice_index bytes 6 == 0 && slice_index bytes 7 == 0) 6 (clock_wrong (head_in bytes))))))

-- a value, unless a place is wrong: then the fault there
abbrev pub unless_wrong : {A : Type 0} → Option ℕ → A → Result A LetterFault
unless_wrong None x = Ok x
unless_wrong (Some place) x = Err (Garbled place)

-- what reading the head of 32 bytes answers
unfoldable pub head_reading : ℕ → List ℕ → Result Head LetterFault
head_reading wide bytes = unless_wrong (head_wrong wide bytes) (head_in bytes)
