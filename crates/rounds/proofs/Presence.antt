-- What is present in a round: the own letter, the lowest DECIDE, and the senders who pass a test.
use Rattle.std.proofs.Common.{◌≡◌, ℕ, zero, suc, ◌<◌, ◌≤◌, Bool, true, false, ◌≢◌, ◌↔◌, Some, None, Option, refl, ap, ◌∙◌, ⊎_elim, arith}
use Rattle.std.proofs.lemmas.Bool.{cases_lt}
use Rattle.std.proofs.lemmas.Bool.Decides.{nat_tests}
use Rattle.std.specs.Option.{option_or}
use Rattle.letters.specs.declared.letter.Content.{Content}
use Rattle.letters.specs.declared.phase.Phase.TheVariants.{Decide}
use Rattle.voting.proofs.Quorums.{tested_quorum}
use Rattle.rounds.specs.Next.{View, is_decide, present, passes, passing, senders, first_decide}
use Rattle.rounds.specs.Outcomes.{Present, Within, Backed, NoDecide, Adopts}
use Rattle.rounds.specs.Terms.{Terms}
use Rattle.rounds.proofs.Phases.{decides, not_decides}

-- two letters of one sender say the same
pub same_letter : {A : Type 0} {o : Option A} {x y : A} → o ≡ Some x → o ≡ Some y → x ≡ y
same_letter a b = cc

module _ {V : Type 0} (test : Content V → Bool) where
  pub passing_some : (o : Option (Content V)) (c : Content V) → passing test o ≡ Some c → (o ≡ Some c) × (test c ≡ true)
  passing_some o c e = (grind arith, grind arith)

  pub passing_none : (o : Option (Content V)) (c : Content V) → passing test o ≡ None → o ≡ Some c → test c ≡ false
  passing_none o c e is = grind arith

  passes_some : (o : Option (Content V)) → passes test o ≡ true → (c : Content V) × (o ≡ Some c) × (test c ≡ true)
  passes_some None e = absurd cc
  passes_some (Some c) e = (c, refl, e)

module _ {V : Type 0} (terms : Terms V) (view : View V) where
  pub own_present : Present terms view view.self view.own
  own_present = grind (arith, nat_tests)

  -- the lowest sender's DECIDE is the first one found, and none is found just where none is there
  module _ (n : ℕ) where
    abbrev here : Option (Content V)
    here = passing (λ d. is_decide d.phase) (present view n)

  none_below : (n : ℕ) → first_decide terms view n ≡ None
      → (s : ℕ) (c : Content V) → s < n → Present terms view s c → c.phase ≢ Decide
  none_below zero e s c lt there = absurd (omega arith)
  none_below (suc n) e s c lt there = by (first_decide terms view n) refl e (λ none. none_below n none s c) where
    at_last : here n ≡ None → n ≤ s → c.phase ≢ Decide
    at_last none top =
        let last : n ≡ s = omega arith in
        not_decides c.phase
        (passing_none (λ d. is_decide d.phase) (present view n) c none (ap (present view) last ∙ there))

    by : (o : Option (Content V)) → first_decide terms view n ≡ o → option_or o (here n) ≡ None
        → (first_decide terms view n ≡ None → s < n → Present terms view s c → c.phase ≢ Decide) → c.phase ≢ Decide
    by None is none below = ⊎_elim (λ lower. below is lower there) (at_last none) (cases_lt s n)
    by (Some d) is none below = absurd cc

  first_adopts : (n : ℕ) (c : Content V) → first_decide terms view n ≡ Some c → Adopts terms view c.estimate
  first_adopts zero c e = absurd cc
  first_adopts (suc n) c e = by (first_decide terms view n) refl e (first_adopts n c) where
    by : (o : Option (Content V)) → first_decide terms view n ≡ o → option_or o (here n) ≡ Some c
        → (first_decide terms view n ≡ Some c → Adopts terms view c.estimate) → Adopts terms view c.estimate
    by None none found below =
        let last = passing_some (λ d. is_decide d.phase) (present view n) c found in
        record {
          sender = n;
          letter = c;
          there = last.0;
          decides = decides c.phase last.1;
          says = refl;
          lowest = λ s d there so.
              ⊎_elim (λ lower. absurd (none_below n none s d lower there so)) (λ le. le) (cases_lt s n);
        }
    by (Some d) is found below = below (is ∙ found)

  pub adopted : (c : Content V) → first_decide terms view terms.size ≡ Some c → Adopts terms view c.estimate
  adopted c e = first_adopts terms.size c e

  module _ (within : Within terms view) where
    pub no_decide : first_decide terms view terms.size ≡ None → NoDecide terms view
    no_decide none s c there = none_below terms.size none s c (within s c there) there

    -- the senders who pass a test are accepted just if an accepted set sent what the test looks for
    pub senders_backed : (test : Content V → Bool) (P : Content V → Type 0)
        → ((c : Content V) → (test c ≡ true) ↔ P c)
        → (terms.accepts (senders terms view test) ≡ true) ↔ Backed terms view P
    senders_backed test P tells =
        tested_quorum terms.size (λ s. passes test (present view s)) (λ s. (c : Content V) × Present terms view s c × P c)
        (λ s lt pass. let one = passes_some test (present view s) pass in (one.0, one.1, (tells one.0).0 one.2))
        (λ s found. (within s found.0 found.1, ap (passes test) found.1 ∙ (tells found.0).1 found.2))
        terms.accepts
