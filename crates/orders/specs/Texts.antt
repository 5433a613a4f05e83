-- The texts of the shipped kinds, byte for byte.
use Rattle.std.specs.Prelude.{ℕ, List, ◌++◌, codes, decimal}
use Rattle.orders.specs.declared.character.Character.{Character}
use Rattle.orders.specs.declared.character.Character.TheVariants.{Fixed, Flashing, Isophase, GroupFlashing}
use Rattle.orders.specs.declared.number.LampNumber.{LampNumber}
use Rattle.orders.specs.declared.order.LampOrder.{LampOrder}

-- a lamp number is its decimal digits
abbrev pub text_of_lamp : LampNumber → List ℕ
text_of_lamp v = decimal v.number

-- a character is its abbreviation on charts, with the count of a group in brackets, and its period
abbrev pub text_of_character : Character → List ℕ
text_of_character Fixed = codes "F"
text_of_character (Flashing period) = codes "Fl" ++ decimal period
text_of_character (Isophase period) = codes "Iso" ++ decimal period
text_of_character (GroupFlashing count period) = codes "Fl(" ++ (decimal count ++ (codes ")" ++ decimal period))

-- a lamp order is its priority, lamp and character, with a stroke between them
abbrev pub text_of_order : LampOrder → List ℕ
text_of_order v = decimal v.priority ++ (codes "/" ++ (decimal v.lamp.number ++ (codes "/" ++ text_of_character v.character)))
