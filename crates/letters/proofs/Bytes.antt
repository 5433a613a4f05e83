-- Each field of a letter and its bytes determine each other, and two halves of 16 bytes fill a row of 32.
use Rattle.std.proofs.Common.{◌≡◌, ℕ, ◌+◌, ◌*◌, ◌/◌, ◌%◌, ◌<◌, Bool, true, nat_le, ◌==◌, Fits, w8, List, [], ◌∷◌, ◌++◌, length, take, drop, sym, refl, ◌∙◌, arith, length-append}
use borrow.Rule.Slice.PartMut.{put_mid}
use Rattle.std.proofs.lemmas.Slice.{put_mid-paste}
use Rattle.std.proofs.lemmas.List.{append-nil, take_at, take_all, drop_all}
use Rattle.std.proofs.lemmas.Bool.Decides.{nat_tests}
use Rattle.letters.specs.Phases.{phase_byte, is_phase, phase_at}
use Rattle.letters.specs.Heads.{flag_byte, four_bytes}
use Rattle.letters.specs.declared.phase.Phase.{Phase}

pub phase_back : (p : Phase) → phase_at (phase_byte p) ≡ p
phase_back p = grind arith

pub phase_byte-phase_at : (b : ℕ) → is_phase b ≡ true → phase_byte (phase_at b) ≡ b
phase_byte-phase_at b e = grind (arith, nat_tests)

pub flag_back : (b : Bool) → (flag_byte b == 1) ≡ b
flag_back b = grind arith

pub flag_byte-test : (b : ℕ) → nat_le b 1 ≡ true → flag_byte (b == 1) ≡ b
flag_byte-test b e = grind (arith, nat_tests)

-- four bytes hold every number below 2 ^ 32, and the number they hold is written in them
pub number_back : (n : ℕ) → n < 4294967296 → (n / 16777216 % 256) * 16777216 + (n / 65536 % 256) * 65536 + (n / 256 % 256) * 256 + n % 256 ≡ n
number_back n small = omega arith

module _ (a b c d : ℕ) (a_byte : Fits w8 a) (b_byte : Fits w8 b) (c_byte : Fits w8 c) (d_byte : Fits w8 d) where
  pub number_bytes : (rest : List ℕ) → four_bytes (a * 16777216 + b * 65536 + c * 256 + d) rest ≡ a ∷ b ∷ c ∷ d ∷ rest
  number_bytes rest =
      let p : (a * 16777216 + b * 65536 + c * 256 + d) / 16777216 % 256 ≡ a = omega arith in
      let q : (a * 16777216 + b * 65536 + c * 256 + d) / 65536 % 256 ≡ b = omega arith in
      let r : (a * 16777216 + b * 65536 + c * 256 + d) / 256 % 256 ≡ c = omega arith in
      let s : (a * 16777216 + b * 65536 + c * 256 + d) % 256 ≡ d = omega arith in
      cc

-- two halves written into a row of 32 bytes fill it
pub halves : (xs ys zs : List ℕ) → length xs ≡ 16 → length ys ≡ 16 → length zs ≡ 16 → put_mid 16 16 (xs ++ zs) ys ≡ xs ++ ys
halves xs ys zs m n k =
    let front : take 16 (xs ++ zs) ≡ xs = take_at xs zs 16 m in
    let middle : take 16 ys ≡ ys = take_all 16 ys (omega arith) in
    let past : drop 32 (xs ++ zs) ≡ [] = drop_all 32 (xs ++ zs) (simp length-append (omega arith)) in
    put_mid-paste 16 16 (xs ++ zs) ys ys 16 refl refl (sym n)
    ∙ rw (front, middle, past) (append-nil (xs ++ ys))
