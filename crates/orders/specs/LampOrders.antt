-- The kind 'lamp order': priority, lamp, character code, count and period in six bytes, ranked by the first that differs.
use Rattle.std.specs.Prelude.{ℕ, ◌+◌, ◌*◌, ◌/◌, ◌%◌, Bool, true, List, [], ◌∷◌, replicate, Some, None, Option, Result, ◌==◌, nat_le, nat_lt, slice_index, if◌then◌else◌}
use Rattle.std.specs.Option.{ok_or, unwrap_or, option_or}
use Rattle.orders.specs.Characters.{code_of, count_of, period_of, character_of, character_wrong}
use Rattle.refusals.specs.Choice.{if_so, exact, wrong_at}
use Rattle.orders.specs.Fault.{unreadable_at, unless_wrong}
use Rattle.orders.specs.Fields.{stray}
use Rattle.orders.specs.Kinds.{Meaning}
use Rattle.orders.specs.Lamps.{is_lamp}
use Rattle.orders.specs.LampNumbers.{lamp_of}
use Rattle.orders.specs.OrderLimits.{order_fits}
use Rattle.orders.specs.declared.character.Character.{Character}
use Rattle.orders.specs.declared.fault.OrderFault.{OrderFault}
use Rattle.orders.specs.declared.number.LampNumber.{LampNumber}
use Rattle.orders.specs.declared.order.LampOrder.{LampOrder}

-- the order of these parts, where they are within their limits
abbrev pub order_of : ℕ → Option LampNumber → Character → Option LampOrder
order_of p None c = None
order_of p (Some l) c = if_so (order_fits p c) (λ h. record { priority = p; lamp = l; character = c; ok = h })

-- the field: the parts, the period high byte first, then zeros
abbrev pub pack_order : LampOrder → List ℕ
pack_order v =
    v.priority ∷ v.lamp.number ∷ code_of v.character ∷ count_of v.character ∷ period_of v.character / 256
    ∷ period_of v.character % 256
    ∷ replicate 10 0

-- the period that two bytes of a field hold
abbrev pub period_in : List ℕ → ℕ
period_in field = slice_index field 4 * 256 + slice_index field 5

-- the place of the first part that is wrong: priority, lamp, code, count, period
abbrev pub part_wrong : ℕ → ℕ → ℕ → ℕ → ℕ → Option ℕ
part_wrong priority lamp code count period =
    wrong_at (nat_le priority 9) 0
    (wrong_at (is_lamp lamp) 1 (character_wrong code count period))

-- what making an order of its parts answers: the order, or the refusal at the first part that is wrong
abbrev pub order_making : ℕ → LampNumber → Character → Result LampOrder OrderFault
order_making p l c =
    ok_or (order_of p (Some l) c)
    (unreadable_at (unwrap_or (part_wrong p l.number (code_of c) (count_of c) (period_of c)) 0))

-- what the first six bytes of a field answer: their order, or the refusal at the first part that is wrong
unfoldable pub order_in : List ℕ → Result LampOrder OrderFault
order_in field =
    unless_wrong (part_wrong (slice_index field 0) (slice_index field 1) (slice_index field 2) (slice_index field 3) (period_in field))
    (ok_or (order_of (slice_index field 0) (lamp_of (slice_index field 1)) (character_of (slice_index field 2) (slice_index field 3) (period_in field))) (unreadable_at 0))

-- the first wrong place of a field: that of a part, else the first byte after the six that is not zero
abbrev pub order_wrong : List ℕ → Option ℕ
order_wrong field =
    option_or (part_wrong (slice_index field 0) (slice_index field 1) (slice_index field 2) (slice_index field 3) (period_in field)) (stray 6 field)

-- of two rows of bytes, whether the first is higher where they first differ, or they do not differ
abbrev pub at_least : List ℕ → List ℕ → Bool
at_least [] ys = true
at_least (x ∷ xs) [] = true
at_least (x ∷ xs) (y ∷ ys) = if x == y then at_least xs ys else nat_lt y x

-- the kind: a field is unpacked to the order that packs to it
abbrev pub order_meaning : Meaning LampOrder
order_meaning = record {
  wide = 6;
  packed = pack_order;
  unpacked = λ field.
      exact pack_order field
      (order_of (slice_index field 0) (lamp_of (slice_index field 1)) (character_of (slice_index field 2) (slice_index field 3) (period_in field)));
  misplaced = λ field. unwrap_or (order_wrong field) 0;
  ranks = λ x y. at_least (pack_order x) (pack_order y);
}
