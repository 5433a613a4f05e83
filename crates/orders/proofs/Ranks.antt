-- The order that is derived for lamp orders is the ranking of their packed bytes.
use Rattle.std.specs.Prelude.{◌≡◌, ℕ, ◌/◌, ◌%◌, Bool, true, ◌==◌, List, ◌∷◌, replicate, Some, Option, nat_lt, refl, if◌then◌else◌}
use Rattle.std.proofs.Common.{Ordering, arith}
use Rattle.std.proofs.lemmas.Bool.Decides.{nat_tests}
use Rattle.std.specs.Ordering.{partial_ge, is_some_and, is_ge, nat_cmp, partial_ordering_then}
use Rattle.orders.specs.Characters.{code_of, count_of, period_of}
use Rattle.orders.specs.LampOrders.{at_least, pack_order}
use Rattle.orders.specs.declared.order.LampOrder.{LampOrder}
use Rattle.orders.specs.declared.character.Character.{Character}
use Rattle.orders.specs.declared.character.Character.TheVariants.{Fixed, Flashing, Isophase, GroupFlashing}
use Rattle.orders.specs.contracts.order.LampOrderPartialOrd.TheImpl.{ghosts as of_orders}
use Rattle.orders.specs.contracts.character.CharacterPartialOrd.TheImpl.{ghosts as of_characters}

-- a number ranks as its two digits to base 256 do
digits_rank : (p q : ℕ) → is_ge (nat_cmp p q) ≡ (if p / 256 == q / 256 then (if p % 256 == q % 256 then true else nat_lt (q % 256) (p % 256)) else nat_lt (q / 256) (p / 256))
digits_rank p q = grind (arith, nat_tests)

-- where the first two differ they rank, and else what follows does
then_rank : (x y : ℕ) (o : Option Ordering) (b : Bool) → is_some_and is_ge o ≡ b → is_some_and is_ge (partial_ordering_then (Some (nat_cmp x y)) o) ≡ (if x == y then b else nat_lt y x)
then_rank x y o b e = grind (arith, nat_tests)

-- the bytes of a character, and the zeros behind them
abbrev bytes_of : Character → List ℕ
bytes_of c = code_of c ∷ count_of c ∷ period_of c / 256 ∷ period_of c % 256 ∷ replicate 10 0

characters_rank : (x y : Character) → partial_ge of_characters.partial_cmp x y ≡ at_least (bytes_of x) (bytes_of y)
characters_rank Fixed Fixed = refl
characters_rank Fixed (Flashing q) = refl
characters_rank Fixed (Isophase q) = refl
characters_rank Fixed (GroupFlashing m q) = refl
characters_rank (Flashing p) Fixed = refl
characters_rank (Flashing p) (Flashing q) = digits_rank p q
characters_rank (Flashing p) (Isophase q) = refl
characters_rank (Flashing p) (GroupFlashing m q) = refl
characters_rank (Isophase p) Fixed = refl
characters_rank (Isophase p) (Flashing q) = refl
characters_rank (Isophase p) (Isophase q) = digits_rank p q
characters_rank (Isophase p) (GroupFlashing m q) = refl
characters_rank (GroupFlashing n p) Fixed = refl
characters_rank (GroupFlashing n p) (Flashing q) = refl
characters_rank (GroupFlashing n p) (Isophase q) = refl
characters_rank (GroupFlashing n p) (GroupFlashing m q) = then_rank n m _ _ (digits_rank p q)

pub orders_rank : (x y : LampOrder) → partial_ge of_orders.partial_cmp x y ≡ at_least (pack_order x) (pack_order y)
orders_rank x y =
    then_rank x.priority y.priority _ _ (then_rank x.lamp.number y.lamp.number _ _ (characters_rank x.character y.character))
