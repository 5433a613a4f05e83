-- Validity: what is decided was proposed, and an accepted set of controllers made proposals that rank no higher.
use Rattle.std.proofs.Common.{◌≡◌, ℕ, ◌<◌, ◌≤◌, Bool, true, false, ◌≢◌, ◌⊎◌, Some, None, Option, sym, refl, ap, ◌∙◌, subst, inl, inr, ⊎_elim, arith}
use Rattle.std.proofs.lemmas.Bool.{cases_lt}
use Rattle.letters.specs.declared.letter.Content.{Content}
use Rattle.letters.specs.declared.phase.Phase.TheVariants.{Prepare, Decide}
use Rattle.voting.specs.Voting.{Quorum}
use Rattle.voting.proofs.Quorums.{tested_quorum, quorum_more}
use Rattle.rounds.specs.History.{account_of}
use Rattle.rounds.specs.Next.{initial}
use Rattle.rounds.specs.Outcomes.{adopts, reaches, follows, prepares, NoDecide, Ended, Greatest}
use Rattle.rounds.specs.Promises.{Validity}
use Rattle.rounds.proofs.Gathering.{ranks_itself}
use Rattle.rounds.proofs.Phases.{prepare_open, prepare_no_commit}
use Rattle.rounds.proofs.Steps.{Course, Made, Sees, sight, sees_itself, Carried, by_rounds}

module _ {V : Type 0} (g : Course V) where
  -- v was proposed
  abbrev Proposed : V → Type 0
  Proposed v = (i : ℕ) × (g.past.proposal i ≡ Some v)

  -- v ranks at least as high as what i proposed
  abbrev Over : V → ℕ → Type 0
  Over v i = (p : V) × (g.past.proposal i ≡ Some p) × (g.terms.kind.ranks v p ≡ true)

  -- the controllers whose proposals rank no higher than v are an accepted set
  abbrev Good : V → Type 0
  Good v = Quorum g.terms.accepts (Over v)

  -- a letter that is more than a PREPARE, or was committed to, or is approved
  abbrev Weighty : Content V → Type 0
  Weighty c = (c.phase ≢ Prepare) ⊎ ((0 < c.timestamp) ⊎ (c.approved ≡ true))

  -- what holds of a letter that i made: its estimate was proposed; while nobody has committed to it, it ranks at least as
  -- high as what i proposed; and where it is weighty, an accepted set stands behind it
  record Sound (i : ℕ) (c : Content V) : Type 0 where
    proposed : Proposed c.estimate
    over : c.phase ≢ Decide → c.timestamp ≡ 0 → Over c.estimate i
    good : Weighty c → Good c.estimate

  -- `Over` as a test
  abbrev over_test : V → Option V → Bool
  over_test v None = false
  over_test v (Some p) = g.terms.kind.ranks v p

  over_passes : (v : V) (i : ℕ) → Over v i → over_test v (g.past.proposal i) ≡ true
  over_passes v i o = ap (over_test v) o.1 ∙ o.2

  passes_over : (v : V) (i : ℕ) → over_test v (g.past.proposal i) ≡ true → Over v i
  passes_over v i pass = by (g.past.proposal i) refl pass where
    by : (o : Option V) → g.past.proposal i ≡ o → over_test v o ≡ true → Over v i
    by None is e = absurd cc
    by (Some p) is e = (p, is, e)

  -- v is good if it ranks at least as high as the proposals of a quorum
  makes_good : (v : V) (P : ℕ → Type 0) → Quorum g.terms.accepts P → ((i : ℕ) → P i → Over v i) → Good v
  makes_good v P quorum all =
      let test : ℕ → Bool = λ i. over_test v (g.past.proposal i) in
      (tested_quorum g.terms.size test (Over v) (λ i lt. passes_over v i)
      (λ i o. (g.abides.proposer i o.0 o.1, over_passes v i o)) g.terms.accepts).0
      (quorum_more g.terms.size g.terms.accepts g.laws.rule P test quorum (λ i p. over_passes v i (all i p)))

  over_trans : (v w : V) (i : ℕ) → g.terms.kind.ranks v w ≡ true → Over w i → Over v i
  over_trans v w i higher o = (o.0, o.1, g.laws.kind.trans v w o.0 higher o.2)

  sound_first : (i : ℕ) (c : Content V) → Made g i 1 c → Sound i c
  sound_first i c made =
      let (v, proposed, is) = g.abides.first i c made in
      subst (Sound i) (sym is) (record {
        proposed = (i, proposed);
        over = λ undecided stamp. (v, proposed, ranks_itself g.terms.kind g.laws.kind v);
        good = λ weight. absurd (light (g.past.told i 0) v weight);
      }) where
        light : (told : ℕ) (v : V) → Weighty (initial told v) → ⊥
        light told v (inl isnt) = isnt refl
        light told v (inr (inl lt)) = omega arith
        light told v (inr (inr yea)) = cc

  -- what comes of a round in which all that was seen is sound
  module _ (k i : ℕ) (own c : Content V) (seen : (s : ℕ) (d : Content V) → Sees g i k own s d → Sound s d) where
    -- a weighty estimate that was taken over stays good
    taken : (s : ℕ) (d : Content V) → Sees g i k own s d → d.estimate ≡ c.estimate → Weighty d
        → (c.phase ≡ Decide) ⊎ (0 < c.timestamp) → Sound i c
    taken s d sees same weight final =
        record {
          proposed = subst Proposed same (seen s d sees).proposed;
          over = λ undecided stamp. absurd (⊎_elim undecided (λ lt. omega arith) final);
          good = λ any. subst Good same ((seen s d sees).good weight);
        }

    module _ (e : Ended g.terms (sight g i k own) k (g.past.told i k) c) (is : c.phase ≡ Prepare)
        (best : Greatest g.terms (sight g i k own) c.timestamp c.estimate)
        (none : NoDecide g.terms (sight g i k own)) where
      -- where nobody seen has committed, the gathered estimate ranks at least as high as what each of them proposed
      over_all : c.timestamp ≡ 0 → (s : ℕ) (d : Content V) → Sees g i k own s d → Over c.estimate s
      over_all stamp s d sees =
          let zero_stamp : d.timestamp ≡ 0 = omega (arith, best.latest s d sees) in
          over_trans c.estimate d.estimate s (best.highest s d sees (zero_stamp ∙ sym stamp))
          ((seen s d sees).over (none s d sees) zero_stamp)

      -- so if an accepted set named the maker leader, an accepted set stands behind that estimate
      good_approved : c.timestamp ≡ 0 → c.approved ≡ true → Good c.estimate
      good_approved stamp yea =
          makes_good c.estimate (λ s. (d : Content V) × Sees g i k own s d × (d.leader ≡ i)) (e.approved.0 yea)
          (λ s named. over_all stamp s named.0 named.1)

      good_committed : 0 < c.timestamp → Good c.estimate
      good_committed lt =
          subst Good best.says
          ((seen best.sender best.letter best.there).good (inr (inl (omega (arith, best.stamp)))))

      good_prepared : Weighty c → Good c.estimate
      good_prepared (inl isnt) = absurd (isnt is)
      good_prepared (inr (inl lt)) = good_committed lt
      good_prepared (inr (inr yea)) =
          ⊎_elim good_committed (λ (le : c.timestamp ≤ 0). good_approved (omega arith) yea) (cases_lt 0 c.timestamp)

      sound_prepared : Sound i c
      sound_prepared =
          record {
            proposed = subst Proposed best.says (seen best.sender best.letter best.there).proposed;
            over = λ undecided stamp. over_all stamp i own (sees_itself g i k own);
            good = good_prepared;
          }

  sound : (k i : ℕ) (c : Content V) → Made g i k c → Sound i c
  sound = by_rounds g (λ k i c. Sound i c) sound_first (λ k i c is so. so) carried where
    carried : Carried g (λ k i c. Sound i c)
    carried k i own c from mine seen e adopts (is, stamp, a) =
        taken k i own c seen a.sender a.letter a.there a.says
        (inl (λ prepare. prepare_open a.letter.phase prepare a.decides)) (inl is)
    carried k i own c from mine seen e reaches (is, stamp, says, none, r) =
        taken k i own c seen i own (sees_itself g i k own) (sym says)
        (inl (λ prepare. prepare_no_commit own.phase prepare r.commit)) (inl is)
    carried k i own c from mine seen e follows (is, stamp, f, none, unreached) =
        taken k i own c seen own.leader f.letter f.there f.says (inr (inr f.approved)) (inr (omega arith))
    carried k i own c from mine seen e prepares (is, best, none, unreached, alone) =
        sound_prepared k i own c seen e is best none

  pub validity : Validity g.terms (account_of g.past)
  validity i v (k, c, made, is, says) =
      let s = sound k i c made in
      let weight : Weighty c = inl (λ prepare. prepare_open c.phase prepare is) in
      (subst Proposed says s.proposed, subst Good says (s.good weight))
