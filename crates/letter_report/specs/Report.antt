-- What is said of the bytes of one letter: line by line for a person, or in one line for a comparison.
use Rattle.std.specs.Prelude.{ℕ, Bool, true, List, ◌++◌, length, Ok, Err, codes, decimal, Result, ◌==◌, slice_index, if◌then◌else◌}
use Rattle.refusals.specs.Refusals.{refusal_text}
use Rattle.refusals.specs.declared.Refusal.{Refusal}
use Rattle.orders.specs.Kinds.{Meaning}
use Rattle.orders.specs.LampNumbers.{lamp_meaning}
use Rattle.orders.specs.LampOrders.{order_meaning}
use Rattle.orders.specs.Texts.{text_of_lamp, text_of_order}
use Rattle.letters.specs.Fault.{letter_refusal}
use Rattle.letters.specs.Phases.{phase_word}
use Rattle.letters.specs.Heads.{flag_byte}
use Rattle.letters.specs.Wire.{reading}
use Rattle.letters.specs.declared.fault.LetterFault.{LetterFault}
use Rattle.letters.specs.declared.letter.Letter.{Letter}
use Rattle.letters.specs.declared.phase.Phase.{Phase}

-- what a letter says, whatever the kind of its estimate: the estimate is there as its text
pub record Fields : Type 0 where
  pub phase : Phase
  pub size : ℕ
  pub sender : ℕ
  pub leader : ℕ
  pub approved : Bool
  pub wide : ℕ
  pub round : ℕ
  pub timestamp : ℕ
  pub estimate : List ℕ
  -- writing the letter gives the bytes that it was read from
  pub same : Bool

module _ {V : Type 0} (kind : Meaning V) (text : V → List ℕ) where
  -- what a letter says
  abbrev pub fields_of : Letter V → Fields
  fields_of m = record {
    phase = m.content.phase;
    size = m.size;
    sender = m.sender;
    leader = m.content.leader;
    approved = m.content.approved;
    wide = kind.wide;
    round = m.round;
    timestamp = m.content.timestamp;
    estimate = text m.content.estimate;
    same = true;
  }

  -- what reading answered: what the letter says, or the refusal
  abbrev pub answer_of : Result (Letter V) LetterFault → Result Fields Refusal
  answer_of (Ok m) = Ok (fields_of m)
  answer_of (Err fault) = Err (letter_refusal fault)

  -- what bytes say as a letter of this kind
  unfoldable pub summary_as : List ℕ → Result Fields Refusal
  summary_as bytes = answer_of (reading kind bytes)

-- whether bytes are read as a lamp order: by the width they claim
abbrev pub claims_order : List ℕ → Bool
claims_order bytes = slice_index bytes 5 == 6

-- what bytes say, for the kind whose width they claim; any width but a lamp order's is read as a lamp number's
abbrev pub summary_of : List ℕ → Result Fields Refusal
summary_of bytes =
    if claims_order bytes then summary_as order_meaning text_of_order bytes else summary_as lamp_meaning text_of_lamp bytes

-- the type, the group's size, the sender and the leader it names, each on a line
unfoldable pub parties_lines : Fields → List ℕ
parties_lines m =
    codes "type " ++ (phase_word m.phase ++ (codes "\ngroup of " ++ (decimal m.size
    ++ (codes "\nsender " ++ (decimal m.sender ++ (codes "\nleader " ++ (decimal m.leader ++ codes "\n")))))))

-- the other fields, each on a line
unfoldable pub state_lines : Fields → List ℕ
state_lines m =
    codes "approved " ++ ((if m.approved then codes "yes" else codes "no") ++ (codes "\nwidth " ++ (decimal m.wide
    ++ (codes "\nround " ++ (decimal m.round ++ (codes "\ntimestamp " ++ (decimal m.timestamp
    ++ (codes "\nestimate " ++ (m.estimate ++ codes "\n")))))))))

-- all fields, each on a line, and whether the letter was written as the same bytes again
abbrev pub lines : Fields → List ℕ
lines m =
    parties_lines m ++ (state_lines m
    ++ (codes "written again: " ++ ((if m.same then codes "the same 32 bytes" else codes "other bytes") ++ codes "\n")))

-- the same in one line
abbrev pub line : Fields → List ℕ
line m =
    phase_word m.phase ++ (codes " " ++ (decimal m.size ++ (codes " " ++ (decimal m.sender ++ (codes " " ++ (decimal m.leader
    ++ (codes " " ++ (decimal (flag_byte m.approved) ++ (codes " " ++ (decimal m.wide ++ (codes " " ++ (decimal m.round
    ++ (codes " " ++ (decimal m.timestamp ++ (codes " " ++ (m.estimate ++ (codes " "
    ++ (if m.same then codes "same" else codes "other"))))))))))))))))))

-- what a person is told
abbrev pub told : Result Fields Refusal → List ℕ
told (Ok m) = lines m
told (Err refusal) = refusal_text refusal ++ codes "\n"

-- the report on some bytes: how many there are, and what they say
abbrev pub report : List ℕ → List ℕ
report bytes = codes "read " ++ (decimal (length bytes) ++ (codes " bytes\n" ++ told (summary_of bytes)))

-- one line on an answer
abbrev pub brief_of : Result Fields Refusal → List ℕ
brief_of (Ok m) = line m
brief_of (Err refusal) = refusal_text refusal

-- one line on some bytes
abbrev pub brief : List ℕ → List ℕ
brief bytes = brief_of (summary_of bytes)
