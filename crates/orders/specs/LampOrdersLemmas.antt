-- The laws of lamp orders.
use Rattle.std.specs.Prelude.{◌≡◌, ℕ, zero, suc, ◌+◌, ◌-◌, ◌*◌, ◌/◌, ◌%◌, ◌<◌, ◌≤◌, true, IsTrue, List, [], ◌∷◌, length, Some, None, Ok, Err, Option, nat_le, slice_index, refl}
use Rattle.std.proofs.Common.{sym, ap, ◌∙◌, mod-lt, div-add-mod', arith}
use Rattle.std.proofs.Math.Arith.{digits_div, digits_mod}
use Rattle.std.proofs.lemmas.Nat.{div_below}
use Rattle.std.proofs.lemmas.Bool.{and_parts, and_from}
use Rattle.std.proofs.lemmas.Bool.Decides.{nat_tests}
use Rattle.std.specs.Option.{ok_or, unwrap_or}
use Rattle.orders.specs.Characters.{code_of, count_of, period_of, character_of, character_wrong, character_fits}
use Rattle.orders.specs.Fault.{unreadable_at, unless_wrong}
use Rattle.orders.specs.Fields.{stray}
use Rattle.orders.specs.Kinds.{Lawful, unpacking}
use Rattle.orders.specs.LampNumbers.{lamp_of}
use Rattle.orders.specs.LampOrders.{order_of, pack_order, period_in, part_wrong, order_wrong, order_in, order_meaning}
use Rattle.orders.specs.Lamps.{is_lamp}
use Rattle.orders.specs.OrderLimits.{order_fits}
use Rattle.orders.specs.declared.character.Character.{Character}
use Rattle.orders.specs.declared.number.LampNumber.{LampNumber}
use Rattle.orders.specs.declared.order.LampOrder.{LampOrder}
use Rattle.orders.specs.CharactersLemmas.{character_back, Limited, limited, Parts, parts_of}
use Rattle.refusals.specs.Choice.{wrong_at}
use Rattle.refusals.proofs.Choices.{if_so-made, if_so-from, exact_kept, exact_bytes, wrong_at-none}
use Rattle.orders.specs.FieldsLemmas.{zero_at, zeros_behind, stray-below}
use Rattle.orders.specs.LampNumbersLemmas.{lamp_limits, lamp_of-number}
use Rattle.orders.specs.Ranking.{total, trans, antisym}
use Rattle.orders.specs.Unpacking.{then_zeros, unpacks, refuses_at}

-- an order is made of its parts, by whatever proof that they fit
pub order_made : (p : ℕ) (l : LampNumber) (c : Character) (h : IsTrue (order_fits p c)) → order_of p (Some l) c ≡ Some (record { priority = p; lamp = l; character = c; ok = h })
order_made p l c h = if_so-made (order_fits p c) (λ t. record { priority = p; lamp = l; character = c; ok = t }) h

-- what the invariant of an order says of its parts
module _ (v : LampOrder) where
  fitting : (nat_le v.priority 9 ≡ true) × (character_fits v.character ≡ true)
  fitting = and_parts (nat_le v.priority 9) (character_fits v.character) v.ok

  limits : Limited v.character
  limits = limited v.character fitting.1

  period_back : period_in (pack_order v) ≡ period_of v.character
  period_back = div-add-mod' (period_of v.character) 256

  packed_back : order_meaning.unpacked (pack_order v) ≡ Some v
  packed_back =
      let character : character_of (code_of v.character) (count_of v.character) (period_in (pack_order v)) ≡ v.character = ap (character_of (code_of v.character) (count_of v.character)) period_back ∙ character_back v.character in
      exact_kept pack_order (pack_order v)
      (order_of v.priority (lamp_of v.lamp.number) (character_of (code_of v.character) (count_of v.character) (period_in (pack_order v)))) v
      (rw (character, lamp_of-number v.lamp) (order_made v.priority v.lamp v.character v.ok)) refl

  packed_bytes : (i : ℕ) → slice_index (pack_order v) i < 256
  packed_bytes zero = let h = fitting.0 in grind (arith, nat_tests)
  packed_bytes (suc zero) = let h = lamp_limits v.lamp in omega arith
  packed_bytes (suc (suc zero)) = let h = limits in omega arith
  packed_bytes (suc (suc (suc zero))) = let h = limits in omega arith
  packed_bytes (suc (suc (suc (suc zero)))) = let h = limits in div_below (period_of v.character) 256 256 (omega arith) (omega arith)
  packed_bytes (suc (suc (suc (suc (suc zero))))) = mod-lt (period_of v.character) (omega arith)
  packed_bytes (suc (suc (suc (suc (suc (suc i)))))) = let z = zero_at 10 i in omega arith

  packed_zeros : (i : ℕ) → 6 ≤ i → slice_index (pack_order v) i ≡ 0
  packed_zeros i h = let e : i ≡ suc (suc (suc (suc (suc (suc (i - 6)))))) = omega arith in rw e (zero_at 10 (i - 6))

  packed_right : order_wrong (pack_order v) ≡ None
  packed_right = rw (period_back, fitting.0, v.lamp.ok, limits.right) refl

-- a wrong place lies in the field
place_below : (field : List ℕ) → length field ≡ 16 → unwrap_or (order_wrong field) 0 < 16
place_below field long = let rest = stray-below 6 16 field long (omega arith) in grind arith

same_packed : (x y : LampOrder) → pack_order x ≡ pack_order y → x ≡ y
same_packed x y e =
    let a = packed_back x in
    let b = packed_back y in
    let c : order_meaning.unpacked (pack_order x) ≡ order_meaning.unpacked (pack_order y) = ap order_meaning.unpacked e in
    cc

pub order_lawful : Lawful order_meaning
order_lawful = record {
  narrowest = omega arith;
  widest = omega arith;
  long = λ v. refl;
  bytes = packed_bytes;
  zeros = packed_zeros;
  back = packed_back;
  exactly = λ field v e. exact_bytes pack_order field _ v e;
  placed = place_below;
  total = λ x y. total (pack_order x) (pack_order y);
  trans = λ x y z. trans (pack_order x) (pack_order y) (pack_order z) refl refl;
  antisym = λ x y p q. same_packed x y (antisym (pack_order x) (pack_order y) refl p q);
}

none_from : {V : Type 0} (o : Option ℕ) (u v : V) → unless_wrong o (Ok u) ≡ Ok v → (o ≡ None) × (u ≡ v)
none_from None u v e = (refl, cc)
none_from (Some p) u v e = cc

-- the order of parts that were found right, one after the other
pub order_read : (field : List ℕ) (l : LampNumber) (c : Character) (v : LampOrder) (period : ℕ) → unless_wrong {V = Unit {0}} (wrong_at (nat_le (slice_index field 0) 9) 0 None) (Ok (tt {0})) ≡ Ok (tt {0}) → lamp_of (slice_index field 1) ≡ Some l → period ≡ period_in field → unless_wrong (character_wrong (slice_index field 2) (slice_index field 3) period) (Ok (character_of (slice_index field 2) (slice_index field 3) period)) ≡ Ok c → order_of (slice_index field 0) (Some l) c ≡ Some v → Ok v ≡ order_in field
unfolding order_in
order_read field l c v period first second same third made =
    let priority = (wrong_at-none (nat_le (slice_index field 0) 9) 0 None (none_from _ (tt {0}) (tt {0}) first).0).0 in
    let lamp = (if_so-from (is_lamp (slice_index field 1)) _ l second).0 in
    let character = none_from _ _ c (rw same at third) in
    sym (rw (priority, second, character.0, character.1) (rw lamp (ap (λ o. ok_or o (unreadable_at 0)) made)))

-- a field by its first six bytes
module _ (priority number code count high low : ℕ) (rest : List ℕ) where
  abbrev field : List ℕ
  field = priority ∷ number ∷ code ∷ count ∷ high ∷ low ∷ rest

  abbrev period : ℕ
  period = high * 256 + low

  -- bytes of which none is wrong hold an order
  module _ (right : part_wrong priority number code count period ≡ None) where
    record Passed : Type 0 where
      priority_fits : nat_le priority 9 ≡ true
      lamp_fits : is_lamp number ≡ true
      character_right : character_wrong code count period ≡ None

    passed : Passed
    passed =
        let first = wrong_at-none (nat_le priority 9) 0 _ right in
        let second = wrong_at-none (is_lamp number) 1 _ first.1 in
        record { priority_fits = first.0; lamp_fits = second.0; character_right = second.1 }

    parts : Parts (character_of code count period) code count period
    parts = parts_of code count period passed.character_right

    abbrev held : LampOrder
    held = record {
      priority = priority;
      lamp = record { number = number; ok = passed.lamp_fits };
      character = character_of code count period;
      ok = and_from (nat_le priority 9) (character_fits (character_of code count period)) passed.priority_fits parts.fits;
    }

    read : order_in field ≡ Ok held
    unfolding order_in
    read = rw (right, lamp_of-number held.lamp) (ap (λ o. ok_or o (unreadable_at 0)) (order_made priority held.lamp held.character held.ok))

    packs : length field ≡ 16 → low < 256 → stray 6 field ≡ None → pack_order held ≡ field
    packs long small clean =
        let code_byte = parts.code_is in
        let count_byte = parts.count_is in
        let high_byte : period_of held.character / 256 ≡ high = ap (λ n. n / 256) parts.period_is ∙ digits_div high small in
        let low_byte : period_of held.character % 256 ≡ low = ap (λ n. n % 256) parts.period_is ∙ digits_mod high small in
        let zeros = zeros_behind 6 10 field long clean in
        cc

  refused : (p : ℕ) → order_wrong field ≡ Some p → unpacking order_meaning field ≡ Err (unreadable_at p)
  refused p wrong = refuses_at order_meaning order_lawful order_wrong packed_right (λ _. refl) field p wrong

  not_read : (p : ℕ) → part_wrong priority number code count period ≡ Some p → order_in field ≡ Err (unreadable_at p)
  unfolding order_in
  not_read p wrong = rw wrong refl

  by_place : length field ≡ 16 → low < 256 → (first later : Option ℕ) → part_wrong priority number code count period ≡ first → stray 6 field ≡ later → unpacking order_meaning field ≡ then_zeros (order_in field) later
  by_place long small None None right clean =
      unpacks order_meaning order_lawful field (held right) (packs right long small clean) ∙ sym (ap (λ r. then_zeros r None) (read right))
  by_place long small None (Some p) right wrong = refused p (rw right wrong) ∙ sym (ap (λ r. then_zeros r (Some p)) (read right))
  by_place long small (Some p) later wrong e = refused p (rw wrong refl) ∙ sym (ap (λ r. then_zeros r later) (not_read p wrong))

-- unpacking reads the order, and then the zeros
pub order_unpacking : (field : List ℕ) → length field ≡ 16 → slice_index field 5 < 256 → unpacking order_meaning field ≡ then_zeros (order_in field) (stray 6 field)
order_unpacking [] long small = absurd (omega arith)
order_unpacking (a ∷ []) long small = absurd (omega arith)
order_unpacking (a ∷ b ∷ []) long small = absurd (omega arith)
order_unpacking (a ∷ b ∷ c ∷ []) long small = absurd (omega arith)
order_unpacking (a ∷ b ∷ c ∷ d ∷ []) long small = absurd (omega arith)
order_unpacking (a ∷ b ∷ c ∷ d ∷ f ∷ []) long small = absurd (omega arith)
order_unpacking (a ∷ b ∷ c ∷ d ∷ f ∷ g ∷ rest) long small = by_place a b c d f g rest long small _ _ refl refl
