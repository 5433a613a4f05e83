-- The refusals of the unit: the number, the word and the layer of each reason.
use Rattle.std.specs.Prelude.{ℕ, List, ◌++◌, codes, decimal}
use Rattle.refusals.specs.declared.Layer.{Layer}
use Rattle.refusals.specs.declared.Layer.TheVariants.{Order, Letter, Rule, End}
use Rattle.refusals.specs.declared.Reason.{Reason}
use Rattle.refusals.specs.declared.Reason.TheVariants.{Size, Number, Garbled, Unreadable, Ballot}
use Rattle.refusals.specs.declared.Refusal.{Refusal}

-- the number by which a reason is printed
abbrev pub number_of : Reason → ℕ
number_of Size = 1
number_of Number = 2
number_of Garbled = 5
number_of Unreadable = 11
number_of Ballot = 12

-- the word by which people speak of it
abbrev pub word_of : Reason → List ℕ
word_of Size = codes "size"
word_of Number = codes "number"
word_of Garbled = codes "garbled"
word_of Unreadable = codes "unreadable"
word_of Ballot = codes "ballot"

-- the layer that turns something down for this reason
abbrev pub layer_of : Reason → Layer
layer_of Size = End
layer_of Number = End
layer_of Garbled = Letter
layer_of Unreadable = Order
layer_of Ballot = Rule

-- a refusal for a reason, at a place of what its layer reads
abbrev pub refusal_at : Reason → ℕ → Refusal
refusal_at why where' = record { reason = why; place = where' }

-- a refusal as programs print it: its number and its place
abbrev pub refusal_text : Refusal → List ℕ
refusal_text r = codes "refused " ++ (decimal (number_of r.reason) ++ (codes " " ++ decimal r.place))
