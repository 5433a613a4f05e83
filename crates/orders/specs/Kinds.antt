-- What a kind of order is, and the laws that every kind shows.
use Rattle.std.specs.Prelude.{◌≡◌, ℕ, ◌<◌, ◌≤◌, Bool, true, ◌⊎◌, List, length, Some, Option, Result, slice_index}
use Rattle.std.specs.Option.{ok_or}
use Rattle.orders.specs.Fault.{unreadable_at}
use Rattle.orders.specs.declared.fault.OrderFault.{OrderFault}

-- the meaning of a kind with the values V
pub record Meaning (V : Type 0) : Type 0 where
  -- how many bytes of the field a value takes
  pub wide : ℕ
  -- the field of a value
  pub packed : V → List ℕ
  -- the value of a field, where it has one
  pub unpacked : List ℕ → Option V
  -- the place at which a field that has none is refused
  pub misplaced : List ℕ → ℕ
  -- whether the first value ranks at least as high as the second
  pub ranks : V → V → Bool

-- the laws of a kind
pub record Lawful {V : Type 0} (m : Meaning V) : Type 0 where
  -- a value takes 1 to 16 bytes
  pub narrowest : 1 ≤ m.wide
  pub widest : m.wide ≤ 16
  -- a field has 16 bytes, with zeros from the width on
  pub long : (v : V) → length (m.packed v) ≡ 16
  pub bytes : (v : V) (i : ℕ) → slice_index (m.packed v) i < 256
  pub zeros : (v : V) (i : ℕ) → m.wide ≤ i → slice_index (m.packed v) i ≡ 0
  -- unpacking a packed value gives that value, and what unpacks packs to the field it came from
  pub back : (v : V) → m.unpacked (m.packed v) ≡ Some v
  pub exactly : (field : List ℕ) (v : V) → m.unpacked field ≡ Some v → m.packed v ≡ field
  -- the place of a refusal lies in the field
  pub placed : (field : List ℕ) → length field ≡ 16 → m.misplaced field < 16
  -- the ranking is total, transitive and antisymmetric
  pub total : (x y : V) → (m.ranks x y ≡ true) ⊎ (m.ranks y x ≡ true)
  pub trans : (x y z : V) → m.ranks x y ≡ true → m.ranks y z ≡ true → m.ranks x z ≡ true
  pub antisym : (x y : V) → m.ranks x y ≡ true → m.ranks y x ≡ true → x ≡ y

-- what unpacking a field answers: its value, or the refusal at the kind's place
abbrev pub unpacking : {V : Type 0} → Meaning V → List ℕ → Result V OrderFault
unpacking m field = ok_or (m.unpacked field) (unreadable_at (m.misplaced field))
