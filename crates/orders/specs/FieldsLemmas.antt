-- The bytes of a field behind the value: where none is stray all are zeros, and a stray byte lies in the field.
use Rattle.std.specs.Prelude.{◌≡◌, ℕ, zero, suc, ◌+◌, ◌-◌, ◌<◌, Bool, true, false, not, ◌==◌, List, [], ◌∷◌, length, replicate, Some, None, Option, slice_index, drop, refl, if◌then◌else◌}
use Rattle.std.proofs.Common.{arith, length-drop}
use Rattle.std.proofs.lemmas.Bool.{eqb-true}
use Rattle.std.specs.List.{position_from}
use Rattle.std.specs.Option.{unwrap_or, option_map}
use Rattle.orders.specs.Fields.{is_nonzero, stray}

pub zero_at : (n i : ℕ) → slice_index (replicate n 0) i ≡ 0
zero_at zero i = refl
zero_at (suc n) zero = refl
zero_at (suc n) (suc i) = zero_at n i

-- a list in which no byte is found that is not zero
zeros_test : (b : Bool) (i x n : ℕ) (xs : List ℕ) → (x == 0) ≡ b → (position_from is_nonzero (i + 1) xs ≡ None → xs ≡ replicate n 0) → (if not b then Some i else position_from is_nonzero (i + 1) xs) ≡ None → x ∷ xs ≡ replicate (suc n) 0
zeros_test true i x n xs t rest e = let here = eqb-true x 0 t in let more = rest e in cc
zeros_test false i x n xs t rest e = cc

all_zeros : (i n : ℕ) (xs : List ℕ) → length xs ≡ n → position_from is_nonzero i xs ≡ None → xs ≡ replicate n 0
all_zeros i zero [] long e = refl
all_zeros i (suc n) [] long e = absurd (omega arith)
all_zeros i zero (x ∷ xs) long e = absurd (omega arith)
all_zeros i (suc n) (x ∷ xs) long e = zeros_test (x == 0) i x n xs refl (all_zeros (i + 1) n xs (omega arith)) e

moved-none : (i : ℕ) (found : Option ℕ) → option_map (λ k. i + k) found ≡ None → found ≡ None
moved-none i None e = refl
moved-none i (Some k) e = cc

-- with no stray byte, what stands from a place on is zeros
pub zeros_behind : (i n : ℕ) (field : List ℕ) → length field ≡ i + n → stray i field ≡ None → drop i field ≡ replicate n 0
zeros_behind i n field long e =
    let behind : length (drop i field) ≡ n = simp length-drop (omega arith) in
    all_zeros 0 n (drop i field) behind (moved-none i _ e)

within_test : (b : Bool) (i k n : ℕ) (later : Option ℕ) → (later ≡ Some k → k < i + 1 + n) → (if b then Some i else later) ≡ Some k → k < i + suc n
within_test true i k n later rest e = grind arith
within_test false i k n later rest e = let there = rest e in omega arith

-- what is found stands in the list
found_within : (i k : ℕ) (xs : List ℕ) → position_from is_nonzero i xs ≡ Some k → k < i + length xs
found_within i k [] e = absurd cc
found_within i k (x ∷ xs) e = within_test (is_nonzero x) i k (length xs) (position_from is_nonzero (i + 1) xs) (found_within (i + 1) k xs) e

moved-below : (i n : ℕ) (found : Option ℕ) → 0 < n → ((k : ℕ) → found ≡ Some k → i + k < n) → unwrap_or (option_map (λ k. i + k) found) 0 < n
moved-below i n None some within = some
moved-below i n (Some k) some within = within k refl

-- a stray byte lies in the field
pub stray-below : (i n : ℕ) (field : List ℕ) → length field ≡ n → 0 < n → unwrap_or (stray i field) 0 < n
stray-below i n field long some =
    moved-below i n (position_from is_nonzero 0 (drop i field)) some
    (λ k e. (let there = found_within 0 k (drop i field) e in let behind : length (drop i field) ≡ length field - i = length-drop i field in omega arith))
