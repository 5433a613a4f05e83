-- The kind 'lamp number': one byte, 1 to 12, ranked as a number.
use Rattle.std.specs.Prelude.{ℕ, List, ◌∷◌, replicate, Option, nat_le, slice_index}
use Rattle.std.specs.Option.{unwrap_or}
use Rattle.refusals.specs.Choice.{if_so, exact, wrong_at}
use Rattle.orders.specs.Fields.{stray}
use Rattle.orders.specs.Kinds.{Meaning}
use Rattle.orders.specs.Lamps.{is_lamp}
use Rattle.orders.specs.declared.number.LampNumber.{LampNumber}

-- the lamp with this number, where there is one
abbrev pub lamp_of : ℕ → Option LampNumber
lamp_of n = if_so (is_lamp n) (λ h. record { number = n; ok = h })

-- the field: the number, then zeros
abbrev pub pack_lamp : LampNumber → List ℕ
pack_lamp v = v.number ∷ replicate 15 0

-- the first wrong place of a field: the number's, else the first byte after it that is not zero
abbrev pub lamp_wrong : List ℕ → Option ℕ
lamp_wrong field = wrong_at (is_lamp (slice_index field 0)) 0 (stray 1 field)

-- the kind: a field is unpacked to the lamp that packs to it
abbrev pub lamp_meaning : Meaning LampNumber
lamp_meaning = record {
  wide = 1;
  packed = pack_lamp;
  unpacked = λ field. exact pack_lamp field (lamp_of (slice_index field 0));
  misplaced = λ field. unwrap_or (lamp_wrong field) 0;
  ranks = λ x y. nat_le y.number x.number;
}
