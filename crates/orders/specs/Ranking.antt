-- Ranking by the first byte that differs is total, transitive and antisymmetric on rows of one length.
use Rattle.std.specs.Prelude.{◌≡◌, ℕ, true, ◌⊎◌, List, [], ◌∷◌, length, refl}
use Rattle.std.proofs.Common.{inl, arith}
use Rattle.std.proofs.lemmas.Bool.Decides.{nat_tests}
use Rattle.orders.specs.LampOrders.{at_least}

pub total : (xs ys : List ℕ) → (at_least xs ys ≡ true) ⊎ (at_least ys xs ≡ true)
total [] ys = inl refl
total (x ∷ xs) [] = inl refl
total (x ∷ xs) (y ∷ ys) = let rest = total xs ys in grind (arith, nat_tests)

pub trans : (xs ys zs : List ℕ) → length xs ≡ length ys → length ys ≡ length zs → at_least xs ys ≡ true → at_least ys zs ≡ true → at_least xs zs ≡ true
trans [] ys zs m n p q = refl
trans (x ∷ xs) [] zs m n p q = absurd (omega arith)
trans (x ∷ xs) (y ∷ ys) [] m n p q = refl
trans (x ∷ xs) (y ∷ ys) (z ∷ zs) m n p q =
    let rest = trans xs ys zs (omega arith) (omega arith) in
    grind (arith, nat_tests)

pub antisym : (xs ys : List ℕ) → length xs ≡ length ys → at_least xs ys ≡ true → at_least ys xs ≡ true → xs ≡ ys
antisym [] [] n p q = refl
antisym [] (y ∷ ys) n p q = absurd (omega arith)
antisym (x ∷ xs) [] n p q = absurd (omega arith)
antisym (x ∷ xs) (y ∷ ys) n p q =
    let first : x ≡ y = grind (arith, nat_tests) in
    let rest = antisym xs ys (omega arith) (grind (arith, nat_tests)) (grind (arith, nat_tests)) in
    cc
