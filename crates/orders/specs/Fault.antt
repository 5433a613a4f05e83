-- What the order layer refuses: a field that is not a value of the kind.
use Rattle.std.specs.Prelude.{ℕ, Some, None, Err, Option, Result}
use Rattle.refusals.specs.Refusals.{refusal_at}
use Rattle.refusals.specs.declared.Reason.TheVariants.{Unreadable}
use Rattle.refusals.specs.declared.Refusal.{Refusal}
use Rattle.orders.specs.declared.fault.OrderFault.{OrderFault}

-- the fault at a place of the field
abbrev pub unreadable_at : ℕ → OrderFault
unreadable_at p = record { place = p }

-- an answer, unless a place is wrong: then the refusal there
abbrev pub unless_wrong : {V : Type 0} → Option ℕ → Result V OrderFault → Result V OrderFault
unless_wrong None answer = answer
unless_wrong (Some p) answer = Err (unreadable_at p)

-- the refusal that the fault comes to
abbrev pub order_refusal : OrderFault → Refusal
order_refusal f = refusal_at Unreadable f.place
