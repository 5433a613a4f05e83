-- The laws of lamp numbers.
use Rattle.std.specs.Prelude.{◌≡◌, ℕ, zero, suc, ◌<◌, ◌≤◌, Bool, true, false, IsTrue, List, [], ◌∷◌, length, Some, None, Ok, Err, Option, Result, slice_index, refl}
use Rattle.std.proofs.Common.{sym, ap, arith}
use Rattle.std.proofs.lemmas.Bool.Decides.{nat_tests}
use Rattle.std.specs.Option.{ok_or, unwrap_or}
use Rattle.orders.specs.Fault.{unreadable_at, unless_wrong}
use Rattle.orders.specs.Fields.{stray}
use Rattle.orders.specs.Kinds.{Lawful, unpacking}
use Rattle.orders.specs.LampNumbers.{lamp_of, pack_lamp, lamp_wrong, lamp_meaning}
use Rattle.orders.specs.Lamps.{is_lamp}
use Rattle.orders.specs.declared.fault.OrderFault.{OrderFault}
use Rattle.orders.specs.declared.number.LampNumber.{LampNumber}
use Rattle.refusals.specs.Choice.{if_so}
use Rattle.refusals.proofs.Choices.{if_so-made, exact_kept, exact_bytes}
use Rattle.orders.specs.FieldsLemmas.{zero_at, zeros_behind, stray-below}
use Rattle.orders.specs.Unpacking.{then_zeros, unpacks, refuses_at}

-- a lamp is made of its number, by whatever proof that it is one
lamp_kept : (n : ℕ) (h : IsTrue (is_lamp n)) → lamp_of n ≡ Some (record { number = n; ok = h })
lamp_kept n h = if_so-made (is_lamp n) (λ t. record { number = n; ok = t }) h

pub lamp_made : (n : ℕ) (h : IsTrue (is_lamp n)) (f : OrderFault) → Ok (record { number = n; ok = h }) ≡ ok_or (lamp_of n) f
lamp_made n h f = sym (ap (λ o. ok_or o f) (lamp_kept n h))

pub lamp_of-number : (v : LampNumber) → lamp_of v.number ≡ Some v
lamp_of-number v = lamp_kept v.number v.ok

pub lamp_limits : (v : LampNumber) → (1 ≤ v.number) × (v.number ≤ 12)
lamp_limits v = let fits = v.ok in (grind (arith, nat_tests), grind (arith, nat_tests))

same_number : (x y : LampNumber) → x.number ≡ y.number → x ≡ y
same_number x y e =
    let a = lamp_of-number x in
    let b = lamp_of-number y in
    let c : lamp_of x.number ≡ lamp_of y.number = ap lamp_of e in
    cc

packed_bytes : (v : LampNumber) (i : ℕ) → slice_index (pack_lamp v) i < 256
packed_bytes v zero = let l = lamp_limits v in omega arith
packed_bytes v (suc i) = let z = zero_at 15 i in omega arith

packed_zeros : (v : LampNumber) (i : ℕ) → 1 ≤ i → slice_index (pack_lamp v) i ≡ 0
packed_zeros v zero h = absurd (omega arith)
packed_zeros v (suc i) h = zero_at 15 i

pub packed_right : (v : LampNumber) → lamp_wrong (pack_lamp v) ≡ None
packed_right v = let good = v.ok in rw good refl

place_below : (field : List ℕ) → length field ≡ 16 → unwrap_or (lamp_wrong field) 0 < 16
place_below field long = let rest = stray-below 1 16 field long (omega arith) in grind arith

pub lamp_lawful : Lawful lamp_meaning
lamp_lawful = record {
  narrowest = omega arith;
  widest = omega arith;
  long = λ v. refl;
  bytes = packed_bytes;
  zeros = packed_zeros;
  back = λ v. exact_kept pack_lamp (pack_lamp v) (lamp_of v.number) v (lamp_of-number v) refl;
  exactly = λ field v e. exact_bytes pack_lamp field (lamp_of (slice_index field 0)) v e;
  placed = place_below;
  total = λ x y. grind (arith, nat_tests);
  trans = λ x y z p q. grind (arith, nat_tests);
  antisym = λ x y p q. same_number x y (grind (arith, nat_tests));
}

-- what an answer is that is made only where a test passes, by whether it does
by_test : {V : Type 0} (u : Result V OrderFault) (later : Option ℕ) (b : Bool) (make : IsTrue b → V) → ((h : IsTrue b) → u ≡ unless_wrong later (Ok (make h))) → (b ≡ false → u ≡ Err (unreadable_at 0)) → u ≡ then_zeros (ok_or (if_so b make) (unreadable_at 0)) later
by_test u later true make passed failed = passed refl
by_test u later false make passed failed = failed refl

-- a field by its first byte
module _ (n : ℕ) (rest : List ℕ) where
  refused : (p : ℕ) → lamp_wrong (n ∷ rest) ≡ Some p → unpacking lamp_meaning (n ∷ rest) ≡ Err (unreadable_at p)
  refused = refuses_at lamp_meaning lamp_lawful lamp_wrong packed_right (λ _. refl) (n ∷ rest)

  held : length (n ∷ rest) ≡ 16 → (later : Option ℕ) → stray 1 (n ∷ rest) ≡ later → (h : IsTrue (is_lamp n)) → unpacking lamp_meaning (n ∷ rest) ≡ unless_wrong later (Ok (record { number = n; ok = h }))
  held long None clean h = let zeros = zeros_behind 1 15 (n ∷ rest) long clean in unpacks lamp_meaning lamp_lawful (n ∷ rest) _ cc
  held long (Some p) wrong h = refused p (rw h wrong)

-- unpacking reads the lamp, and then the zeros
pub lamp_unpacking : (field : List ℕ) → length field ≡ 16 → unpacking lamp_meaning field ≡ then_zeros (ok_or (lamp_of (slice_index field 0)) (unreadable_at 0)) (stray 1 field)
lamp_unpacking [] long = absurd (omega arith)
lamp_unpacking (n ∷ rest) long =
    by_test _ _ (is_lamp n) (λ h. record { number = n; ok = h }) (held n rest long _ refl) (λ bad. refused n rest 0 (rw bad refl))
