-- Reading gives the letter that is written so, and refuses bytes that no letter is written as.
use Rattle.std.proofs.Common.{◌≡◌, ℕ, ◌≢◌, true, false, IsTrue, List, [], ◌++◌, length, slice_index, drop, Some, None, Ok, Err, Option, Result, ◌==◌, Fits, w8, refl, arith}
use Rattle.std.proofs.lemmas.Bool.Decides.{nat_tests}
use Rattle.std.specs.Option.{ok_or}
use Rattle.std.specs.Result.{result_and}
use Rattle.orders.specs.Fault.{unreadable_at}
use Rattle.orders.specs.Kinds.{Meaning, Lawful, unpacking}
use Rattle.orders.specs.declared.fault.OrderFault.{OrderFault}
use Rattle.refusals.proofs.Choices.{if_so-made, exact_kept, exact_bytes}
use Rattle.letters.specs.Heads.{head_bytes, head_in, head_fits, head_wrong, unless_wrong, rule_broken, head_reading}
use Rattle.letters.specs.Wire.{head_of, first_wrong, letter_as, letter_with, making, letter_bytes, letter_in, fault_in, reading, ReadExactly}
use Rattle.letters.specs.declared.fault.LetterFault.{LetterFault}
use Rattle.letters.specs.declared.fault.LetterFault.TheVariants.{Garbled, Order}
use Rattle.letters.specs.declared.head.Head.{Head}
use Rattle.letters.specs.declared.letter.Letter.{Letter}
use Rattle.letters.proofs.Heads.{head_back, head_right, head_kept, head_bytes-head_in}

-- a letter made of a head and an estimate
letter_made : {V : Type 0} (h : Head) (v : V) (fits : IsTrue (head_fits h)) → letter_with h (Some v) ≡ Some (letter_as h v fits)
letter_made h v fits = if_so-made (head_fits h) (letter_as h v) fits

pub making_letter : {V : Type 0} (h : Head) (v : V) (fits : IsTrue (head_fits h)) → Ok (letter_as h v fits) ≡ making h v
unfolding making
making_letter h v fits = let made = letter_made h v fits in cc

-- a head that breaks a rule makes no letter
pub making_refused : {V : Type 0} (h : Head) (v : V) → making h v ≡ result_and (unless_wrong (rule_broken h) (tt {0})) (making h v)
unfolding making
making_refused h v = grind arith

-- what reading answers to 32 bytes, once their head and the field of their estimate are read
abbrev after_estimate : {V : Type 0} → Head → Result V OrderFault → Result (Letter V) LetterFault
after_estimate h (Ok v) = making h v
after_estimate h (Err f) = Err (Order f)

abbrev after_head : {V : Type 0} → Result Head LetterFault → Result V OrderFault → Result (Letter V) LetterFault
after_head (Ok h) estimate = after_estimate h estimate
after_head (Err f) estimate = Err f

-- the two halves of a letter's bytes
pub letter_halves : {V : Type 0} (kind : Meaning V) (m : Letter V) → letter_bytes kind m ≡ head_bytes kind.wide (head_of m) [] ++ kind.packed m.content.estimate
unfolding letter_bytes
letter_halves kind m = refl

module _ {V : Type 0} (kind : Meaning V) (laws : Lawful kind) where
  letter_back : (m : Letter V) → letter_in kind (letter_bytes kind m) ≡ Some m
  unfolding letter_bytes letter_in
  letter_back m =
      let head = head_back kind.wide (head_of m) (kind.packed m.content.estimate) m.ok in
      let found = laws.back m.content.estimate in
      exact_kept (letter_bytes kind) (letter_bytes kind m) (letter_with (head_in (letter_bytes kind m)) (kind.unpacked (drop 16 (letter_bytes kind m)))) m
      (rw (head, found) (letter_made (head_of m) m.content.estimate m.ok)) refl

  -- a letter has 32 bytes
  pub letter_long : (m : Letter V) → length (letter_bytes kind m) ≡ 32
  unfolding letter_bytes
  letter_long m = let long = laws.long m.content.estimate in omega arith

  letter_right : (m : Letter V) → first_wrong kind.wide (letter_bytes kind m) ≡ None
  unfolding letter_bytes
  letter_right m =
      let long = letter_long m in
      let right = head_right kind.wide (head_of m) (kind.packed m.content.estimate) m.ok in
      grind (arith, nat_tests)

  -- reading the bytes of a letter gives the letter
  pub reading_back : (m : Letter V) → reading kind (letter_bytes kind m) ≡ Ok m
  unfolding reading
  reading_back m = let found = letter_back m in cc

  -- a letter that is found is written as these bytes
  found_bytes : (bytes : List ℕ) (m : Letter V) → letter_in kind bytes ≡ Some m → letter_bytes kind m ≡ bytes
  unfolding letter_in
  found_bytes bytes m e = exact_bytes (letter_bytes kind) bytes (letter_with (head_in bytes) (kind.unpacked (drop 16 bytes))) m e

  exactly : (bytes : List ℕ) (o : Option (Letter V)) → letter_in kind bytes ≡ o → ReadExactly kind bytes (ok_or o (fault_in kind bytes))
  exactly bytes None e = λ m w. (let back = letter_back m in cc)
  exactly bytes (Some m) e = found_bytes bytes m e

  -- what reading answers is a letter just where one is written so, and then that one
  pub reading_exact : (bytes : List ℕ) → ReadExactly kind bytes (reading kind bytes)
  unfolding reading
  reading_exact bytes = exactly bytes (letter_in kind bytes) refl

  -- bytes of which a place is wrong are refused there
  refused : (bytes : List ℕ) (place : ℕ) → first_wrong kind.wide bytes ≡ Some place → (o : Option (Letter V)) → letter_in kind bytes ≡ o → ok_or o (fault_in kind bytes) ≡ Err (Garbled place)
  unfolding fault_in
  refused bytes place wrong None e = rw wrong
  refused bytes place wrong (Some m) e = let right = letter_right m in let written = found_bytes bytes m e in cc

  -- bytes of another length than 32 are refused
  pub reading_wrong_length : (bytes : List ℕ) → length bytes ≢ 32 → reading kind bytes ≡ Err (Garbled 32)
  unfolding reading
  reading_wrong_length bytes other =
      let test : (length bytes == 32) ≡ false = grind (arith, nat_tests) in
      refused bytes 32 (rw test) (letter_in kind bytes) refl

  module _ (bytes : List ℕ) (small : (i : ℕ) → Fits w8 (slice_index bytes i)) where
    by_estimate : length bytes ≡ 32 → head_wrong kind.wide bytes ≡ None → (o : Option V) → kind.unpacked (drop 16 bytes) ≡ o → reading kind bytes ≡ after_estimate (head_in bytes) (ok_or o (unreadable_at (kind.misplaced (drop 16 bytes))))
    unfolding reading letter_in fault_in letter_bytes
    by_estimate long right None e = let test : (length bytes == 32) ≡ true = grind (arith, nat_tests) in rw (e, test, right)
    by_estimate long right (Some v) e =
        let fits : IsTrue (head_fits (head_in bytes)) = head_kept kind.wide bytes right in
        let m : Letter V = letter_as (head_in bytes) v fits in
        let field = laws.exactly (drop 16 bytes) v e in
        let head = head_bytes-head_in kind.wide bytes right long small in
        let written : letter_bytes kind m ≡ bytes = rw field head in
        cc (written, reading_back m, making_letter (head_in bytes) v fits)

    by_place : length bytes ≡ 32 → (o : Option ℕ) → head_wrong kind.wide bytes ≡ o → reading kind bytes ≡ after_head (unless_wrong o (head_in bytes)) (unpacking kind (drop 16 bytes))
    unfolding reading
    by_place long None e = by_estimate long e (kind.unpacked (drop 16 bytes)) refl
    by_place long (Some place) e =
        let test : (length bytes == 32) ≡ true = grind (arith, nat_tests) in
        refused bytes place (rw test e) (letter_in kind bytes) refl

    -- what reading answers to 32 bytes, by their head and the field of their estimate
    pub reading_steps : length bytes ≡ 32 → reading kind bytes ≡ after_head (head_reading kind.wide bytes) (unpacking kind (drop 16 bytes))
    unfolding head_reading
    reading_steps long = by_place long (head_wrong kind.wide bytes) refl
