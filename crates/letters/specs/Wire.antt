-- The 32 bytes of a letter: how it is written, what is wrong with bytes that are no letter's, and what reading answers.
use Rattle.std.specs.Prelude.{◌≡◌, ℕ, IsTrue, List, length, drop, Some, None, Ok, Err, Option, Result, ◌==◌, ◌≢◌}
use Rattle.std.specs.Option.{ok_or, unwrap_or}
use Rattle.refusals.specs.Choice.{if_so, exact, wrong_at}
use Rattle.orders.specs.Fault.{unreadable_at}
use Rattle.orders.specs.Kinds.{Meaning}
use Rattle.letters.specs.Heads.{head_bytes, head_in, head_fits, head_wrong, rule_broken}
use Rattle.letters.specs.declared.fault.LetterFault.{LetterFault}
use Rattle.letters.specs.declared.fault.LetterFault.TheVariants.{Garbled, Order}
use Rattle.letters.specs.declared.letter.Content.{Content}
use Rattle.letters.specs.declared.letter.Letter.{Letter}
use Rattle.letters.specs.declared.head.Head.{Head}

-- what a letter of these parts says besides its estimate
abbrev pub head_for : {V : Type 0} → (size sender round : ℕ) → Content V → Head
head_for n from k content = record {
  phase = content.phase;
  size = n;
  sender = from;
  leader = content.leader;
  approved = content.approved;
  round = k;
  timestamp = content.timestamp;
}

-- the same of a letter
abbrev pub head_of : {V : Type 0} → Letter V → Head
head_of m = head_for m.size m.sender m.round m.content

-- the first wrong place of bytes of any number, for a kind of this width: 32 where there are not 32 of them
abbrev pub first_wrong : ℕ → List ℕ → Option ℕ
first_wrong wide bytes = wrong_at (length bytes == 32) 32 (head_wrong wide bytes)

-- the letter with this head, which keeps the rules, and this estimate
abbrev pub letter_as : {V : Type 0} (h : Head) → V → IsTrue (head_fits h) → Letter V
letter_as h v fits = record {
  size = h.size;
  sender = h.sender;
  round = h.round;
  content = record { phase = h.phase; leader = h.leader; approved = h.approved; timestamp = h.timestamp; estimate = v };
  ok = fits;
}

-- the same, where the head keeps the rules and there is an estimate
abbrev pub letter_with : {V : Type 0} → Head → Option V → Option (Letter V)
letter_with h None = None
letter_with h (Some v) = if_so (head_fits h) (letter_as h v)

-- what making a letter of a head and an estimate answers
unfoldable pub making : {V : Type 0} → Head → V → Result (Letter V) LetterFault
making h v = ok_or (letter_with h (Some v)) (Garbled (unwrap_or (rule_broken h) 0))

-- a fault, unless a place is wrong: then the fault there
abbrev pub fault_unless : Option ℕ → LetterFault → LetterFault
fault_unless None fault = fault
fault_unless (Some place) fault = Garbled place

module _ {V : Type 0} (kind : Meaning V) where
  -- the bytes of a letter: its head, and the field of its estimate
  unfoldable pub letter_bytes : Letter V → List ℕ
  letter_bytes m = head_bytes kind.wide (head_of m) (kind.packed m.content.estimate)

  -- the letter that is written as these bytes, where there is one
  unfoldable pub letter_in : List ℕ → Option (Letter V)
  letter_in bytes = exact letter_bytes bytes (letter_with (head_in bytes) (kind.unpacked (drop 16 bytes)))

  -- the fault of bytes that are no letter's: garbled at the first wrong field, else the estimate is unreadable
  unfoldable pub fault_in : List ℕ → LetterFault
  fault_in bytes = fault_unless (first_wrong kind.wide bytes) (Order (unreadable_at (kind.misplaced (drop 16 bytes))))

  -- what reading bytes answers: the letter that is written so, or the fault
  unfoldable pub reading : List ℕ → Result (Letter V) LetterFault
  reading bytes = ok_or (letter_in bytes) (fault_in bytes)

  -- an answer to bytes that is a letter just where one is written as these bytes, and then that one
  abbrev pub ReadExactly : List ℕ → Result (Letter V) LetterFault → Type 0
  ReadExactly bytes (Ok m) = letter_bytes m ≡ bytes
  ReadExactly bytes (Err fault) = (m : Letter V) → letter_bytes m ≢ bytes
