-- Timestamps stay below their round; and in a round at most one undecided controller is approved, so all its commits agree.
use Rattle.std.proofs.Common.{◌≡◌, ℕ, zero, suc, ◌<◌, ◌≤◌, true, ◌≢◌, sym, ap, ◌∙◌, ⊎_elim, arith}
use Rattle.letters.specs.declared.letter.Content.{Content}
use Rattle.letters.specs.declared.phase.Phase.TheVariants.{Prepare, Commit, Decide}
use Rattle.voting.proofs.Quorums.{quorums_meet}
use Rattle.rounds.specs.Outcomes.{adopts, reaches, follows, prepares}
use Rattle.rounds.proofs.Phases.{commit_open, prepare_open, prepare_no_commit}
use Rattle.rounds.proofs.Presence.{same_letter}
use Rattle.rounds.proofs.Steps.{Course, Made, sees_itself, Carried, by_rounds, quiet}

module _ {V : Type 0} (g : Course V) where
  -- a letter of round 1 is a PREPARE
  pub first_prepares : (i : ℕ) (c : Content V) → Made g i 1 c → c.phase ≡ Prepare
  first_prepares i c made = ap (λ d. d.phase) (g.abides.first i c made).2

  -- a timestamp is a round before the letter's
  early : (k i : ℕ) (c : Content V) → Made g i k c → c.timestamp < k
  early = by_rounds g (λ k i c. c.timestamp < k) first (λ k i c is lt. omega arith) carried where
    first : (i : ℕ) (c : Content V) → Made g i 1 c → c.timestamp < 1
    first i c made = let stamp : c.timestamp ≡ 0 = ap (λ d. d.timestamp) (g.abides.first i c made).2 in omega arith

    carried : Carried g (λ k i c. c.timestamp < k)
    carried k i own c from mine below e adopts x = omega (arith, x.1, below i own (sees_itself g i k own))
    carried k i own c from mine below e reaches x = omega (arith, x.1, below i own (sees_itself g i k own))
    carried k i own c from mine below e follows x = omega (arith, x.1)
    carried k i own c from mine below e prepares x =
        let best = x.1 in omega (arith, best.stamp, below best.sender best.letter best.there)

  -- what prepares stands on an earlier commit than the last round's
  pub prepared_before : (i k : ℕ) (c : Content V) → 1 ≤ k → Made g i (suc k) c → c.phase ≡ Prepare → c.timestamp < k
  prepared_before i k c from made is =
      let q = quiet g i k c from made (prepare_open c.phase is) in
      ⊎_elim (λ so. absurd (prepare_no_commit c.phase is so.phase))
      (λ so. let best = so.best in
      let seen = q.seen best.sender best.letter best.there in
      omega (arith, best.stamp, early k best.sender best.letter seen.0))
      q.way

  -- nobody commits in round 1
  pub no_first_commit : (i : ℕ) (c : Content V) → Made g i 1 c → c.phase ≢ Commit
  no_first_commit i c made = prepare_no_commit c.phase (first_prepares i c made)

  -- a letter of an undecided controller that an accepted set named leader in the round before
  pub record Voice (k i : ℕ) (c : Content V) : Type 0 where
    pub made : Made g i k c
    pub undecided : c.phase ≢ Decide
    pub approved : c.approved ≡ true

  -- in a round there is one voice: two accepted sets share a sender, and its letter names one leader
  one_speaker : (k i j : ℕ) (c d : Content V) → Voice k i c → Voice k j d → i ≡ j
  one_speaker zero i j c d a b = absurd (omega (arith, (g.abides.maker i 0 c a.made).1))
  one_speaker (suc zero) i j c d a b =
      let not_yet = ap (λ x. x.approved) (g.abides.first i c a.made).2 in
      let approved = a.approved in
      cc
  one_speaker (suc (suc k)) i j c d a b =
      let p = quiet g i (suc k) c (omega arith) a.made a.undecided in
      let q = quiet g j (suc k) d (omega arith) b.made b.undecided in
      let (s, one, other) = quorums_meet g.terms.size g.terms.accepts g.laws.rule
      (p.approved.0 a.approved) (q.approved.0 b.approved) in
      let same = same_letter (p.seen s one.0 one.1).0 (q.seen s other.0 other.1).0 in
      sym one.2 ∙ ap (λ x. x.leader) same ∙ other.2

  pub one_voice : (k i j : ℕ) (c d : Content V) → Voice k i c → Voice k j d → c ≡ d
  one_voice k i j c d a b = same_letter a.made (ap (λ x. g.past.made x k) (one_speaker k i j c d a b) ∙ b.made)

  -- a commit has the estimate of the voice of the round before, and that round for its timestamp
  pub record Ground (k : ℕ) (c : Content V) : Type 0 where
    pub speaker : ℕ
    pub letter : Content V
    pub voice : Voice k speaker letter
    pub says : letter.estimate ≡ c.estimate
    pub stamp : c.timestamp ≡ k

  pub ground : (i k : ℕ) (c : Content V) → 1 ≤ k → Made g i (suc k) c → c.phase ≡ Commit → Ground k c
  ground i k c from made is =
      let q = quiet g i k c from made (commit_open c.phase is) in
      ⊎_elim
      (λ so.
      let seen = q.seen q.own.leader so.leader.letter so.leader.there in
      record {
        speaker = q.own.leader;
        letter = so.leader.letter;
        voice = record { made = seen.0; undecided = seen.1; approved = so.leader.approved };
        says = so.leader.says;
        stamp = so.stamp;
      })
      (λ so. absurd (prepare_no_commit c.phase so.phase is))
      q.way

  -- so all commits of a round have one estimate
  pub one_commit : (k i j : ℕ) (c d : Content V) → 1 ≤ k → Made g i (suc k) c → Made g j (suc k) d
      → c.phase ≡ Commit → d.phase ≡ Commit → c.estimate ≡ d.estimate
  one_commit k i j c d from mine theirs is also =
      let p = ground i k c from mine is in
      let q = ground j k d from theirs also in
      let same = one_voice k p.speaker q.speaker p.letter q.letter p.voice q.voice in
      sym p.says ∙ ap (λ x. x.estimate) same ∙ q.says
