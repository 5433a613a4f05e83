-- What the laws of a kind say of unpacking: the value that packs to the field, refused where there is none.
use Rattle.std.specs.Prelude.{◌≡◌, ℕ, List, Some, None, Ok, Err, Option, Result, ◌≢◌, refl}
use Rattle.std.proofs.Common.{sym, ap, ◌∙◌}
use Rattle.std.specs.Option.{unwrap_or}
use Rattle.orders.specs.Fault.{unreadable_at, unless_wrong}
use Rattle.orders.specs.declared.fault.OrderFault.{OrderFault}
use Rattle.orders.specs.Kinds.{Meaning, Lawful, unpacking}

-- what the bytes of a value answer, unless a byte behind them is stray
abbrev pub then_zeros : {V : Type 0} → Result V OrderFault → Option ℕ → Result V OrderFault
then_zeros (Ok v) later = unless_wrong later (Ok v)
then_zeros (Err e) later = Err e

module _ {V : Type 0} (m : Meaning V) (laws : Lawful m) where
  pub unpacks : (field : List ℕ) (v : V) → m.packed v ≡ field → unpacking m field ≡ Ok v
  unpacks field v e = let found : m.unpacked field ≡ Some v = ap m.unpacked (sym e) ∙ laws.back v in rw found

  none : (field : List ℕ) (o : Option V) → m.unpacked field ≡ o → ((v : V) → m.packed v ≢ field) → o ≡ None
  none field None e never = refl
  none field (Some v) e never = absurd (never v (laws.exactly field v e))

  pub refuses : (field : List ℕ) → ((v : V) → m.packed v ≢ field) → unpacking m field ≡ Err (unreadable_at (m.misplaced field))
  refuses field never = let missing = none field (m.unpacked field) refl never in rw missing

  -- a kind whose place is that of the first wrong byte, in a field of which no value is the packing
  pub refuses_at : (wrong : List ℕ → Option ℕ) → ((v : V) → wrong (m.packed v) ≡ None) → ((field : List ℕ) → m.misplaced field ≡ unwrap_or (wrong field) 0) → (field : List ℕ) (p : ℕ) → wrong field ≡ Some p → unpacking m field ≡ Err (unreadable_at p)
  refuses_at wrong right place field p e =
      let at : m.misplaced field ≡ p = place field ∙ ap (λ o. unwrap_or o 0) e in
      let never : (v : V) → m.packed v ≡ field → ⊥ = λ v w. (let r = right v in absurd cc) in
      refuses field never ∙ ap (λ n. Err (unreadable_at n)) at
