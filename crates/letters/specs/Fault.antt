-- What the letter layer refuses: a broken layout, or what the order layer refused.
use Rattle.refusals.specs.Refusals.{refusal_at}
use Rattle.refusals.specs.declared.Reason.TheVariants.{Garbled as GarbledLetter}
use Rattle.refusals.specs.declared.Refusal.{Refusal}
use Rattle.orders.specs.Fault.{order_refusal}
use Rattle.letters.specs.declared.fault.LetterFault.{LetterFault}
use Rattle.letters.specs.declared.fault.LetterFault.TheVariants.{Garbled, Order}

-- the refusal that the fault comes to; one from below keeps its number and place
abbrev pub letter_refusal : LetterFault → Refusal
letter_refusal (Garbled place) = refusal_at GarbledLetter place
letter_refusal (Order fault) = order_refusal fault
