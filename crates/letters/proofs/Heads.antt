-- A head that keeps the rules and its 16 bytes determine each other.
use Rattle.std.proofs.Common.{◌≡◌, ℕ, ◌≤◌, Bool, true, IsTrue, nat_le, Fits, w8, List, ◌++◌, length, map, take, slice_index, drop, None, sym, ap, ◌∙◌, arith}
use Rattle.std.proofs.lemmas.Grind.{common_steps}
use Rattle.std.proofs.lemmas.List.{take-append-drop}
use Rattle.std.proofs.lemmas.List.FromFn.{fill_by_all}
use Rattle.std.specs.List.{range_with_len}
use Rattle.std.proofs.lemmas.Bool.Decides.{nat_tests}
use Rattle.letters.specs.Phases.{phase_byte, is_phase}
use Rattle.letters.specs.Heads.{flag_byte, four_bytes, number_at, head_bytes, head_in, head_fits, head_wrong}
use Rattle.letters.specs.declared.head.Head.{Head}
use Rattle.letters.specs.declared.phase.Phase.{Phase}
use Rattle.letters.proofs.Bytes.{phase_back, phase_byte-phase_at, flag_back, flag_byte-test, number_back, number_bytes}

-- rounds and timestamps that keep the rules fit in four bytes
round_small : (h : Head) → head_fits h ≡ true → h.round ≤ 1000000
round_small h fits = grind (arith, nat_tests)

time_small : (h : Head) → head_fits h ≡ true → h.timestamp ≤ h.round
time_small h fits = grind (arith, nat_tests)

-- the head that bytes hold of which none is wrong keeps the rules
pub head_kept : (wide : ℕ) (bytes : List ℕ) → head_wrong wide bytes ≡ None → IsTrue (head_fits (head_in bytes))
head_kept wide bytes right = grind arith

is_phase-phase_byte : (p : Phase) → is_phase (phase_byte p) ≡ true
is_phase-phase_byte p = grind arith

is_flag : (b : Bool) → nat_le (flag_byte b) 1 ≡ true
is_flag b = grind arith

-- a head that keeps the rules, written
module _ (wide : ℕ) (h : Head) (rest : List ℕ) (fits : head_fits h ≡ true) where
  round_back : number_at (head_bytes wide h rest) 8 ≡ h.round
  round_back = number_back h.round (omega (arith, round_small h fits))

  time_back : number_at (head_bytes wide h rest) 12 ≡ h.timestamp
  time_back = number_back h.timestamp (omega (arith, round_small h fits, time_small h fits))

  pub head_back : head_in (head_bytes wide h rest) ≡ h
  head_back = rw (phase_back h.phase, flag_back h.approved, round_back, time_back)

  pub head_right : head_wrong wide (head_bytes wide h rest) ≡ None
  head_right =
      let phase = is_phase-phase_byte h.phase in
      let flag = is_flag h.approved in
      rw (phase_back h.phase, round_back, time_back) (grind arith)

-- a list of at least n bytes begins with these
begins : (n : ℕ) (bytes : List ℕ) → n ≤ length bytes → map (slice_index bytes) (range_with_len 0 n) ++ drop n bytes ≡ bytes
begins n bytes long =
    let front : take n bytes ≡ map (slice_index bytes) (range_with_len 0 n) = fill_by_all (slice_index bytes) (take n bytes) n 0 (grind (arith, common_steps)) (λ k lt. grind (arith, common_steps)) in
    ap (λ xs. xs ++ drop n bytes) (sym front) ∙ take-append-drop n bytes

pub head_bytes-head_in : (wide : ℕ) (bytes : List ℕ) → head_wrong wide bytes ≡ None → length bytes ≡ 32 → ((i : ℕ) → Fits w8 (slice_index bytes i)) → head_bytes wide (head_in bytes) (drop 16 bytes) ≡ bytes
head_bytes-head_in wide bytes right long small =
    let b0 = phase_byte-phase_at (slice_index bytes 0) (grind arith) in
    let b4 = flag_byte-test (slice_index bytes 4) (grind arith) in
    let b5 : wide ≡ slice_index bytes 5 = grind (arith, nat_tests) in
    let b6 : slice_index bytes 6 ≡ 0 = grind (arith, nat_tests) in
    let b7 : slice_index bytes 7 ≡ 0 = grind (arith, nat_tests) in
    let rounds = number_bytes (slice_index bytes 8) (slice_index bytes 9) (slice_index bytes 10) (slice_index bytes 11) (small 8) (small 9) (small 10) (small 11) (four_bytes (number_at bytes 12) (drop 16 bytes)) in
    let times = number_bytes (slice_index bytes 12) (slice_index bytes 13) (slice_index bytes 14) (slice_index bytes 15) (small 12) (small 13) (small 14) (small 15) (drop 16 bytes) in
    let whole = begins 16 bytes (omega arith) in
    cc
