-- Agreement: once a decision is reached, no undecided controller with as late a timestamp holds another estimate.
use Rattle.std.proofs.Common.{◌≡◌, ℕ, zero, suc, ◌<◌, ◌≤◌, ◌≢◌, sym, refl, ap, ◌∙◌, subst, ⊎_elim, arith}
use Rattle.std.proofs.lemmas.Bool.{cases_lt}
use Rattle.letters.specs.declared.letter.Content.{Content}
use Rattle.letters.specs.declared.phase.Phase.{Phase}
use Rattle.letters.specs.declared.phase.Phase.TheVariants.{Prepare, Commit, Decide}
use Rattle.voting.proofs.Quorums.{quorums_meet}
use Rattle.rounds.specs.History.{account_of}
use Rattle.rounds.specs.Outcomes.{adopts, reaches, follows, prepares, Reaches}
use Rattle.rounds.specs.Promises.{Agreement}
use Rattle.rounds.proofs.Phases.{commit_open, prepare_open}
use Rattle.rounds.proofs.Presence.{same_letter}
use Rattle.rounds.proofs.Steps.{Course, Made, Sees, sight, sees_itself, seen_made, Carried, by_rounds, quiet}
use Rattle.rounds.proofs.Voices.{Voice, first_prepares, prepared_before, no_first_commit, one_voice, ground, one_commit}

module _ {V : Type 0} (g : Course V) where
  -- in finishing round k, controller i reached the decision v
  record Reached (k i : ℕ) (v : V) : Type 0 where
    own : Content V
    mine : Made g i k own
    by : Reaches g.terms (sight g i k own)
    says : own.estimate ≡ v

  -- somebody reached the decision v
  record Origin (v : V) : Type 0 where
    round : ℕ
    maker : ℕ
    reached : Reached round maker v

  -- whatever is decided was reached by somebody
  origin : (k i : ℕ) (c : Content V) → Made g i k c → c.phase ≡ Decide → Origin c.estimate
  origin = by_rounds g (λ k i c. c.phase ≡ Decide → Origin c.estimate) first (λ k i c is before. before) carried where
    first : (i : ℕ) (c : Content V) → Made g i 1 c → c.phase ≡ Decide → Origin c.estimate
    first i c made is = absurd (prepare_open c.phase (first_prepares g i c made) is)

    carried : Carried g (λ k i c. c.phase ≡ Decide → Origin c.estimate)
    carried k i own c from mine before e adopts x is =
        let a = x.2 in subst Origin a.says (before a.sender a.letter a.there a.decides)
    carried k i own c from mine before e reaches x is =
        record { round = k; maker = i; reached = record { own = own; mine = mine; by = x.4; says = sym x.2 } }
    carried k i own c from mine before e follows x is = absurd (commit_open c.phase x.0 is)
    carried k i own c from mine before e prepares x is = absurd (prepare_open c.phase x.0 is)

  module _ (k i : ℕ) (v : V) (r : Reached k i v) where
    -- the controllers on whose commits the decision stood
    abbrev Base : ℕ → Type 0
    Base s = (c : Content V) × Sees g i k r.own s c × (c.phase ≡ Commit)

    -- a timestamp as late as that of these commits
    abbrev Late : Content V → Type 0
    Late c = k ≤ suc c.timestamp

    -- what holds in round m of undecided controllers: who is late, or is approved, has the estimate v; and the base is late
    record Firm (m : ℕ) : Type 0 where
      late : (j : ℕ) (c : Content V) → Made g j m c → c.phase ≢ Decide → Late c → c.estimate ≡ v
      base : (s : ℕ) (c : Content V) → Base s → Made g s m c → c.phase ≢ Decide → Late c
      voice : (j : ℕ) (c : Content V) → Voice g m j c → c.estimate ≡ v

    some_round : 1 ≤ k
    some_round = (g.abides.maker i k r.own r.mine).1

  -- in the round of the decision all commits have one estimate, and no other letter is late
  module _ (k i : ℕ) (v : V) (r : Reached (suc k) i v) (from : 1 ≤ k) where
    late_first : (j : ℕ) (c : Content V) (p : Phase) → c.phase ≡ p → Made g j (suc k) c → c.phase ≢ Decide
        → Late (suc k) i v r c → c.estimate ≡ v
    late_first j c Prepare is made isnt le = absurd (omega (arith, prepared_before g j k c from made is))
    late_first j c Commit is made isnt le =
        one_commit g k j i c r.own from made r.mine is r.by.commit ∙ r.says
    late_first j c Decide is made isnt le = absurd (isnt is)

    base_first : (s : ℕ) (c : Content V) → Base (suc k) i v r s → Made g s (suc k) c → Late (suc k) i v r c
    base_first s c (d, sees, commit) made =
        let same = same_letter (seen_made g i (suc k) r.own r.mine s d sees) made in
        omega (arith, (ground g s k c from made (ap (λ x. x.phase) (sym same) ∙ commit)).stamp)

    own_voice : Voice g (suc k) i r.own
    own_voice =
        record {
          made = r.mine;
          undecided = commit_open r.own.phase r.by.commit;
          approved = r.by.approved;
        }

    firm_first : Firm (suc k) i v r (suc k)
    firm_first =
        record {
          late = λ j c. late_first j c c.phase refl;
          base = λ s c member made isnt. base_first s c member made;
          voice = λ j c voice. ap (λ x. x.estimate) (one_voice g (suc k) j i c r.own voice own_voice) ∙ r.says;
        }

  -- a round carries it to the next: only letters of undecided controllers count for one who stays undecided
  module _ (k i : ℕ) (v : V) (r : Reached k i v) (m : ℕ) (from : 1 ≤ m) (le : k ≤ m) (before : Firm k i v r m) where
    late_next : (j : ℕ) (c : Content V) → Made g j (suc m) c → c.phase ≢ Decide → Late k i v r c → c.estimate ≡ v
    late_next j c made isnt late =
        let q = quiet g j m c from made isnt in
        ⊎_elim
        (λ so.
        let led = so.leader in
        let (theirs, open_phase) = q.seen q.own.leader led.letter led.there in
        sym led.says
        ∙ before.voice q.own.leader led.letter
        (record { made = theirs; undecided = open_phase; approved = led.approved }))
        (λ so.
        let best = so.best in
        let (theirs, open_phase) = q.seen best.sender best.letter best.there in
        sym best.says ∙ before.late best.sender best.letter theirs open_phase (omega (arith, best.stamp)))
        q.way

    -- whoever sees a late letter, and stays undecided, is late
    late_seen : (j : ℕ) (c : Content V) (made : Made g j (suc m) c) (isnt : c.phase ≢ Decide) (s : ℕ) (d : Content V)
        → Sees g j m (quiet g j m c from made isnt).own s d → Late k i v r d → Late k i v r c
    late_seen j c made isnt s d sees late =
        ⊎_elim (λ so. omega (arith, so.stamp)) (λ so. omega (arith, so.best.latest s d sees))
        (quiet g j m c from made isnt).way

    base_next : (s : ℕ) (c : Content V) → Base k i v r s → Made g s (suc m) c → c.phase ≢ Decide → Late k i v r c
    base_next s c member made isnt =
        let q = quiet g s m c from made isnt in
        let itself = sees_itself g s m q.own in
        late_seen s c made isnt s q.own itself (before.base s q.own member q.mine (q.seen s q.own itself).1)

    -- those who named the speaker leader share a member with the base
    voice_next : (j : ℕ) (c : Content V) → Voice g (suc m) j c → c.estimate ≡ v
    voice_next j c a =
        let q = quiet g j m c from a.made a.undecided in
        let (s, (d, sees, names), member) = quorums_meet g.terms.size g.terms.accepts g.laws.rule
        (q.approved.0 a.approved) r.by.backed in
        let (theirs, open_phase) = q.seen s d sees in
        late_next j c a.made a.undecided
        (late_seen j c a.made a.undecided s d sees (before.base s d member theirs open_phase))

    firm_next : Firm k i v r (suc m)
    firm_next = record { late = late_next; base = base_next; voice = voice_next }

  firm_start : (k i : ℕ) (v : V) (r : Reached k i v) → Firm k i v r k
  firm_start zero i v r = absurd (omega (arith, some_round 0 i v r))
  firm_start (suc zero) i v r = absurd (no_first_commit g i r.own r.mine r.by.commit)
  firm_start (suc (suc k)) i v r = firm_first (suc k) i v r (omega arith)

  firm : (k i : ℕ) (v : V) (r : Reached k i v) (m : ℕ) → k ≤ m → Firm k i v r m
  firm k i v r zero le = absurd (omega (arith, some_round k i v r))
  firm k i v r (suc m) le = here (firm k i v r m) where
    here : (k ≤ m → Firm k i v r m) → Firm k i v r (suc m)
    here below =
        ⊎_elim
        (λ (lower : k < suc m). firm_next k i v r m (omega (arith, some_round k i v r)) (omega arith) (below (omega arith)))
        (λ (top : suc m ≤ k). let last : k ≡ suc m = omega arith in subst (Firm k i v r) last (firm_start k i v r))
        (cases_lt k (suc m))

  -- a later decision stands on a commit of its round, which is late
  later_same : (k l i j : ℕ) (v w : V) → Reached k i v → Reached l j w → k ≤ l → v ≡ w
  later_same k zero i j v w r t le = absurd (omega (arith, some_round 0 j w t))
  later_same k (suc zero) i j v w r t le = absurd (no_first_commit g j t.own t.mine t.by.commit)
  later_same k (suc (suc l)) i j v w r t le =
      let stamp = (ground g j (suc l) t.own (omega arith) t.mine t.by.commit).stamp in
      let open_phase = commit_open t.own.phase t.by.commit in
      sym ((firm k i v r (suc (suc l)) le).late j t.own t.mine open_phase (omega arith)) ∙ t.says

  same_origin : (v w : V) → Origin v → Origin w → v ≡ w
  same_origin v w a b =
      ⊎_elim (λ lt. later_same a.round b.round a.maker b.maker v w a.reached b.reached (omega arith))
      (λ le. sym (later_same b.round a.round b.maker a.maker w v b.reached a.reached le))
      (cases_lt a.round b.round)

  pub agreement : Agreement g.terms (account_of g.past)
  agreement i j v w (k, c, made, is, says) (l, d, theirs, also, as_well) =
      sym says
      ∙ same_origin c.estimate d.estimate (origin k i c made is) (origin l j d theirs also)
      ∙ as_well
