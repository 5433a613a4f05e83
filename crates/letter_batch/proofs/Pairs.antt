-- One byte more of a line in hexadecimal.
use Rattle.std.proofs.Common.{◌≡◌, ℕ, ◌+◌, ◌*◌, ◌≤◌, List, [], ◌∷◌, ◌++◌, length, slice_index, drop, Some, None, Option, sym, refl, ap, ◌∙◌, append_assoc, arith}
use Rattle.letter_batch.specs.Hex.{digit_of, before, unhex}

before_before : (xs ys : List ℕ) (o : Option (List ℕ)) → before xs (before ys o) ≡ before (xs ++ ys) o
before_before xs ys None = refl
before_before xs ys (Some zs) = ap Some (sym (append_assoc xs ys zs))

first_byte : (rest : List ℕ) (a b : ℕ) → 2 ≤ length rest → Some a ≡ digit_of (slice_index rest 0) → Some b ≡ digit_of (slice_index rest 1) → unhex rest ≡ before ((16 * a + b) ∷ []) (unhex (drop 2 rest))
first_byte [] a b long p q = absurd (omega arith)
first_byte (x ∷ []) a b long p q = absurd (omega arith)
first_byte (x ∷ y ∷ more) a b long p q = let high = sym p in let low = sym q in rw (high, low)

pub byte_more : (line rest done : List ℕ) (a b : ℕ) → 2 ≤ length rest → Some a ≡ digit_of (slice_index rest 0) → Some b ≡ digit_of (slice_index rest 1) → before done (unhex rest) ≡ unhex line → before (done ++ ((16 * a + b) ∷ [])) (unhex (drop 2 rest)) ≡ unhex line
byte_more line rest done a b long p q inv =
    sym (before_before done ((16 * a + b) ∷ []) (unhex (drop 2 rest))) ∙ ap (before done) (sym (first_byte rest a b long p q)) ∙ inv
