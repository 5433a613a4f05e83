-- Bytes in hexadecimal: two digits each, the high one first, with the letters a to f.
use Rattle.std.specs.Prelude.{ℕ, ◌+◌, ◌-◌, ◌*◌, ◌&&◌, List, [], ◌∷◌, ◌++◌, Some, None, Option, nat_le, if◌then◌else◌}
use Rattle.std.specs.Bool.{then_some}

-- the value of a digit, where it is one
abbrev pub digit_of : ℕ → Option ℕ
digit_of c = if nat_le 48 c && nat_le c 57 then Some (c - 48) else then_some (nat_le 97 c && nat_le c 102) (c - 97 + 10)

-- bytes in front of what follows, where anything does
abbrev pub before : List ℕ → Option (List ℕ) → Option (List ℕ)
before xs None = None
before xs (Some ys) = Some (xs ++ ys)

-- the byte of two digits in front of what follows
abbrev pub byte_before : Option ℕ → Option ℕ → Option (List ℕ) → Option (List ℕ)
byte_before (Some high) (Some low) rest = before ((16 * high + low) ∷ []) rest
byte_before (Some high) None rest = None
byte_before None low rest = None

-- the bytes that a line of digits stands for, two digits each
abbrev pub unhex : List ℕ → Option (List ℕ)
unhex [] = Some []
unhex (high ∷ []) = None
unhex (high ∷ low ∷ rest) = byte_before (digit_of high) (digit_of low) (unhex rest)
