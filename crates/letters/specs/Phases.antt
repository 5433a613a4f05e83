-- The three types of letter: the byte and the word of each.
use Rattle.std.specs.Prelude.{ℕ, Bool, if◌then◌else◌, ◌&&◌, List, ◌++◌, codes, decimal, Ok, Err, Result, ◌==◌, nat_le}
use Rattle.letters.specs.declared.phase.Phase.{Phase}
use Rattle.letters.specs.declared.phase.Phase.TheVariants.{Prepare, Commit, Decide}
use Rattle.letters.specs.declared.phase.UnknownPhase.{UnknownPhase}

-- the byte that stands for a type
abbrev pub phase_byte : Phase → ℕ
phase_byte Prepare = 1
phase_byte Commit = 2
phase_byte Decide = 3

-- whether a byte stands for a type
abbrev pub is_phase : ℕ → Bool
is_phase b = nat_le 1 b && nat_le b 3

-- the type that a byte stands for, where it does for one
abbrev pub phase_at : ℕ → Phase
phase_at b = if b == 1 then Prepare else (if b == 2 then Commit else Decide)

-- what a byte is read as: the type that it stands for, or the fault of standing for none
abbrev pub phase_of : ℕ → Result Phase UnknownPhase
phase_of b = if is_phase b then Ok (phase_at b) else Err (record { 0 = b })

-- the word by which a type is printed
abbrev pub phase_word : Phase → List ℕ
phase_word Prepare = codes "PREPARE"
phase_word Commit = codes "COMMIT"
phase_word Decide = codes "DECIDE"

-- what is printed of a byte that stands for no type
abbrev pub unknown_text : UnknownPhase → List ℕ
unknown_text unknown = codes "no type of letter has byte " ++ decimal unknown.0
