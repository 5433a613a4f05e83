-- Decision: four settled rounds under one leader make the leader decide in the third, and all others in the fourth.
use Rattle.std.proofs.Common.{◌≡◌, ℕ, zero, suc, ◌+◌, ◌-◌, true, ◌==◌, ◌≢◌, sym, refl, ap, ◌∙◌, subst, inl, inr, ⊎_elim, arith}
use Rattle.std.proofs.lemmas.Bool.{cases_eq}
use Rattle.std.proofs.lemmas.Bool.Decides.{nat_tests}
use Rattle.letters.specs.declared.letter.Content.{Content}
use Rattle.letters.specs.declared.phase.Phase.TheVariants.{Commit, Decide}
use Rattle.voting.specs.Voting.{Quorum}
use Rattle.rounds.specs.History.{account_of}
use Rattle.rounds.specs.Next.{is_commit}
use Rattle.rounds.specs.Outcomes.{Reaches}
use Rattle.rounds.specs.Promises.{Account, Stayer, Settled, Decision}
use Rattle.rounds.proofs.Phases.{commits, decide_or_not}
use Rattle.rounds.proofs.Steps.{Course, Made, Gets, Sees, Quiet, sight, sees_itself, made_seen, backed_by, quiet}

module _ {V : Type 0} (g : Course V) where
  abbrev account : Account V
  account = account_of g.past

  -- an undecided controller names the leader that it was told
  names_told : (i k : ℕ) (c : Content V) → Made g i (suc k) c → c.phase ≢ Decide → c.leader ≡ g.past.told i k
  names_told i zero c made isnt = ap (λ d. d.leader) (g.abides.first i c made).2
  names_told i (suc k) c made isnt = (quiet g i (suc k) c (omega arith) made isnt).leader

  -- who is undecided after a round was so before it
  own_open : {i k : ℕ} {c : Content V} (q : Quiet g i k c) → q.own.phase ≢ Decide
  own_open {i} {k} q = (q.seen i q.own (sees_itself g i k q.own)).1

  -- the four rounds from m on, and their leader l
  module _ (m l : ℕ) where
    abbrev Stays : ℕ → Type 0
    Stays = Stayer g.terms account m

    -- round suc k is settled: each stayer made a letter for it, told l; each gets l's letter; and l gets those of a quorum
    record Calm (k : ℕ) : Type 0 where
      led : (c : ℕ) → Stays c → ((d : Content V) × Made g c (suc k) d) × (g.past.told c k ≡ l)
      hears : (c : ℕ) → Stays c → Gets g c (suc k) l
      heard : Quorum g.terms.accepts (λ s. Stays s × Gets g l (suc k) s)

    calm : (n k : ℕ) → n ≡ suc k → Settled g.terms account m l n → Calm k
    calm n k is settled =
        record {
          led = λ c stays.
              let (d, made, told) = there.led c stays in
              ((d, sym (ap (g.past.made c) again) ∙ made), sym (ap (g.past.told c) before) ∙ told);
          hears = λ c stays.
              ⊎_elim (λ same. inl (sym same)) (λ other. inr (there.hears c stays other)) (cases_eq c l);
          heard = there.heard;
        } where
          there : Settled g.terms account m l (suc k)
          there = subst (Settled g.terms account m l) is settled

          before : suc k - 1 ≡ k
          before = omega arith

          again : suc k - 1 + 1 ≡ suc k
          again = omega arith

    -- a settled round approves a leader that stays undecided: all whom it hears are undecided, and so name it
    approves : (k : ℕ) (e : Content V) → Calm k → Made g l (suc (suc k)) e → e.phase ≢ Decide → e.approved ≡ true
    approves k e round made isnt = by (quiet g l (suc k) e (omega arith) made isnt) where
      by : Quiet g l (suc k) e → e.approved ≡ true
      by q = q.approved.1 (backed_by g l (suc k) q.own q.mine (λ d. d.leader == l) (λ d. d.leader ≡ l)
          (λ d. (λ is. grind (arith, nat_tests), λ is. grind (arith, nat_tests))) _ round.heard named) where
            named : (s : ℕ) → Stays s × Gets g l (suc k) s
                → (d : Content V) × Sees g l (suc k) q.own s d × (d.leader ≡ l)
            named s (stays, gets) =
                let ((d, made_d), told) = round.led s stays in
                let sees = made_seen g l (suc k) q.own q.mine s d gets made_d in
                (d, sees, names_told s k d made_d (q.seen s d sees).1 ∙ told)

    -- in a settled round of an approved leader all commit who stay undecided
    commit_all : (k : ℕ) (e : Content V) → Calm k → Made g l (suc k) e → e.approved ≡ true
        → (s : ℕ) → Stays s → (d : Content V) → Made g s (suc (suc k)) d → d.phase ≢ Decide → d.phase ≡ Commit
    commit_all k e round theirs yea s stays d made isnt =
        let q = quiet g s (suc k) d (omega arith) made isnt in
        let names : q.own.leader ≡ l = names_told s k q.own q.mine (own_open q) ∙ (round.led s stays).1 in
        let sees = made_seen g s (suc k) q.own q.mine l e (round.hears s stays) theirs in
        let there : Sees g s (suc k) q.own q.own.leader e =
        subst (λ x. Sees g s (suc k) q.own x e) (sym names) sees in
        ⊎_elim (λ so. so.phase)
        (λ so. absurd (so.alone e.estimate (record { letter = e; there = there; approved = yea; says = refl })))
        q.way

    -- after two settled rounds in which the leader stayed undecided, all others who did have committed
    all_commit : (k : ℕ) (e : Content V) → Calm k → Calm (suc k) → Made g l (suc (suc (suc k))) e → e.phase ≢ Decide
        → (s : ℕ) → Stays s → (d : Content V) → Made g s (suc (suc (suc k))) d → d.phase ≢ Decide → d.phase ≡ Commit
    all_commit k e one two made isnt =
        let q = quiet g l (suc (suc k)) e (omega arith) made isnt in
        commit_all (suc k) q.own two q.mine (approves k q.own one q.mine (own_open q))

    -- so in a third it hears enough commits
    hears_commits : (k : ℕ) (e : Content V) (q : Quiet g l (suc (suc (suc k))) e)
        → Stays l → Calm k → Calm (suc k) → Calm (suc (suc k)) → Reaches g.terms (sight g l (suc (suc (suc k))) q.own)
    hears_commits k e q stays one two three =
        record {
          commit = commit l stays q.own q.mine (own_open q);
          approved = approves (suc k) q.own two q.mine (own_open q);
          backed = backed_by g l (suc (suc (suc k))) q.own q.mine (λ d. is_commit d.phase) (λ d. d.phase ≡ Commit)
              (λ d. (commits d.phase, λ x. ap is_commit x)) _ three.heard committed;
        } where
          commit : (s : ℕ) → Stays s → (d : Content V) → Made g s (suc (suc (suc k))) d → d.phase ≢ Decide
              → d.phase ≡ Commit
          commit = all_commit k q.own one two q.mine (own_open q)

          committed : (s : ℕ) → Stays s × Gets g l (suc (suc (suc k))) s
              → (d : Content V) × Sees g l (suc (suc (suc k))) q.own s d × (d.phase ≡ Commit)
          committed s (stays_too, gets) =
              let ((d, made), told) = three.led s stays_too in
              let sees = made_seen g l (suc (suc (suc k))) q.own q.mine s d gets made in
              (d, sees, commit s stays_too d made (q.seen s d sees).1)

    -- and decides
    leader_decides : (k : ℕ) (e : Content V) → Stays l → Calm k → Calm (suc k) → Calm (suc (suc k))
        → Made g l (suc (suc (suc (suc k)))) e → e.phase ≡ Decide
    leader_decides k e stays one two three made =
        ⊎_elim (λ is. is)
        (λ isnt.
        let q = quiet g l (suc (suc (suc k))) e (omega arith) made isnt in
        absurd (q.unreached (hears_commits k e q stays one two three)))
        (decide_or_not e.phase)

    -- in the fourth all hear that it has decided
    all_decide : (k : ℕ) → Stays l → Calm k → Calm (suc k) → Calm (suc (suc k)) → Calm (suc (suc (suc k)))
        → (c : ℕ) → Stays c → (e : Content V) → Made g c (suc (suc (suc (suc (suc k))))) e → e.phase ≡ Decide
    all_decide k leads one two three four c stays e made =
        ⊎_elim (λ is. is)
        (λ isnt.
        let q = quiet g c (suc (suc (suc (suc k)))) e (omega arith) made isnt in
        let ((d, theirs), told) = four.led l leads in
        let sees = made_seen g c (suc (suc (suc (suc k)))) q.own q.mine l d (four.hears c stays) theirs in
        absurd ((q.seen l d sees).1 (leader_decides k d leads one two three theirs)))
        (decide_or_not e.phase)

  pub decision : Decision g.terms account
  decision zero l from leads one two three four c stays = absurd (omega arith)
  decision (suc k) l from leads one two three four c (told, (d, made, is_told)) =
      let m = suc k in
      let last : m + 3 + 1 ≡ suc (suc (suc (suc (suc k)))) = omega arith in
      let made_last : Made g c (suc (suc (suc (suc (suc k))))) d = sym (ap (g.past.made c) last) ∙ made in
      let decided = all_decide m l k leads (calm m l m k refl one) (calm m l (m + 1) (suc k) (omega arith) two)
      (calm m l (m + 2) (suc (suc k)) (omega arith) three) (calm m l (m + 3) (suc (suc (suc k))) (omega arith) four)
      c (told, (d, made, is_told)) d made_last in
      (d.estimate, (suc (suc (suc (suc (suc k)))), d, made_last, decided, refl))
