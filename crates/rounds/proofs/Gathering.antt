-- What is gathered is present, and greatest: no timestamp is later, and at that timestamp no estimate ranks higher.
use Rattle.std.proofs.Common.{◌≡◌, ℕ, zero, suc, ◌<◌, ◌≤◌, Bool, true, false, if◌then◌else◌, ◌==◌, nat_lt, Some, None, Option, sym, refl, ap, ◌∙◌, subst, ⊎_elim, arith}
use Rattle.std.proofs.lemmas.Bool.{cases_lt}
use Rattle.std.proofs.lemmas.Bool.Decides.{nat_tests}
use Rattle.letters.specs.declared.letter.Content.{Content}
use Rattle.orders.specs.Kinds.{Meaning, Lawful}
use Rattle.rounds.specs.Next.{View, present, precedes, foremost, gathered}
use Rattle.rounds.specs.Outcomes.{Present, Within, Greatest}
use Rattle.rounds.specs.Terms.{Terms}
use Rattle.rounds.proofs.Presence.{same_letter, own_present}

module _ {V : Type 0} (kind : Meaning V) (laws : Lawful kind) where
  -- the first letter has no earlier a timestamp than the second, and where it has the same it ranks at least as high
  abbrev Tops : Content V → Content V → Type 0
  Tops b c = (c.timestamp ≤ b.timestamp) × (c.timestamp ≡ b.timestamp → kind.ranks b.estimate c.estimate ≡ true)

  pub ranks_itself : (v : V) → kind.ranks v v ≡ true
  ranks_itself v = ⊎_elim (λ so. so) (λ so. so) (laws.total v v)

  tops_itself : (c : Content V) → Tops c c
  tops_itself c = (omega arith, λ e. ranks_itself c.estimate)

  tops_trans : (a b c : Content V) → Tops a b → Tops b c → Tops a c
  tops_trans a b c ab bc = (
    omega arith,
    λ e.
        let b_a : b.timestamp ≡ a.timestamp = omega arith in
        let c_b : c.timestamp ≡ b.timestamp = omega arith in
        laws.trans a.estimate b.estimate c.estimate (ab.1 b_a) (bc.1 c_b),
  )

  -- the two tests of `precedes`, of which the second is made at equal timestamps
  module _ (c b : Content V) where
    abbrev later : Bool
    later = nat_lt b.timestamp c.timestamp

    abbrev equal : Bool
    equal = c.timestamp == b.timestamp

    abbrev higher : Bool
    higher = kind.ranks c.estimate b.estimate

    before : precedes kind c b ≡ true → Tops c b
    before e =
        (grind (arith, nat_tests), λ same. grind (arith, nat_tests))

    not_before : precedes kind c b ≡ false → Tops b c
    not_before e =
        let one = laws.total c.estimate b.estimate in (grind (arith, nat_tests), λ same. grind (arith, nat_tests))

  -- of two letters the foremost tops both, and is one of them
  foremost_tops : (b : Content V) (o : Option (Content V))
      → Tops (foremost kind b o) b × ((c : Content V) → o ≡ Some c → Tops (foremost kind b o) c)
  foremost_tops b None = (tops_itself b, λ c e. absurd cc)
  foremost_tops b (Some d) = here (precedes kind d b) refl where
    here : (x : Bool) → precedes kind d b ≡ x
        → Tops (if x then d else b) b × ((c : Content V) → Some d ≡ Some c → Tops (if x then d else b) c)
    here true e = (before d b e, λ c is. subst (Tops d) (same_letter refl is) (tops_itself d))
    here false e = (tops_itself b, λ c is. subst (Tops b) (same_letter refl is) (not_before d b e))

  foremost_either : (P : Content V → Type 0) (b : Content V) (o : Option (Content V))
      → P b → ((c : Content V) → o ≡ Some c → P c) → P (foremost kind b o)
  foremost_either P b None pb po = pb
  foremost_either P b (Some d) pb po = here (precedes kind d b) where
    here : (x : Bool) → P (if x then d else b)
    here true = po d refl
    here false = pb

module _ {V : Type 0} (terms : Terms V) (laws : Lawful terms.kind) (view : View V) where
  -- the best letter of the senders below n
  abbrev best : ℕ → Content V
  best n = gathered terms view n

  best_there : (n : ℕ) → (s : ℕ) × Present terms view s (best n)
  best_there zero = (view.self, own_present terms view)
  best_there (suc n) =
      foremost_either terms.kind laws (λ c. (s : ℕ) × Present terms view s c) (best n) (present view n) (best_there n)
      (λ c e. (n, e))

  best_tops : (n s : ℕ) (c : Content V) → s < n → Present terms view s c → Tops terms.kind laws (best n) c
  best_tops zero s c lt there = absurd (omega arith)
  best_tops (suc n) s c lt there =
      let tops = foremost_tops terms.kind laws (best n) (present view n) in
      ⊎_elim
      (λ lower. tops_trans terms.kind laws (best (suc n)) (best n) c tops.0 (best_tops n s c lower there))
      (λ (top : n ≤ s). let last : n ≡ s = omega arith in tops.1 c (ap (present view) last ∙ there))
      (cases_lt s n)

  pub gathered_greatest : Within terms view
      → Greatest terms view (gathered terms view terms.size).timestamp (gathered terms view terms.size).estimate
  gathered_greatest within =
      record {
        sender = (best_there terms.size).0;
        letter = best terms.size;
        there = (best_there terms.size).1;
        stamp = refl;
        says = refl;
        latest = λ s c there. (best_tops terms.size s c (within s c there) there).0;
        highest = λ s c there. (best_tops terms.size s c (within s c there) there).1;
      }

  -- only one timestamp and one estimate are greatest
  pub greatest_one : {k l : ℕ} {v w : V} → Greatest terms view k v → Greatest terms view l w → (k ≡ l) × (v ≡ w)
  greatest_one {k} {l} {v} {w} a b =
      let a_l : a.letter.timestamp ≤ l = b.latest a.sender a.letter a.there in
      let b-k : b.letter.timestamp ≤ k = a.latest b.sender b.letter b.there in
      let same : k ≡ l = omega (arith, a.stamp, b.stamp) in
      let over = a.highest b.sender b.letter b.there (b.stamp ∙ sym same) in
      let under = b.highest a.sender a.letter a.there (a.stamp ∙ same) in (
        same,
        laws.antisym v w (ap (terms.kind.ranks v) (sym b.says) ∙ over)
            (ap (terms.kind.ranks w) (sym a.says) ∙ under),
      )
