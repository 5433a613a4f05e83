-- A round of a history, as the relations have it, and induction over rounds.
use Rattle.std.proofs.Common.{◌≡◌, ℕ, zero, suc, ◌≤◌, Bool, true, ◌≢◌, ◌⊎◌, ◌↔◌, Some, sym, ap, ◌∙◌, subst, inl, inr, ⊎_elim, add-one, arith}
use Rattle.std.proofs.lemmas.Bool.Decides.{nat_tests}
use Rattle.letters.specs.declared.letter.Content.{Content}
use Rattle.letters.specs.declared.phase.Phase.TheVariants.{Prepare, Commit, Decide}
use Rattle.voting.specs.Voting.{Quorum}
use Rattle.voting.proofs.Quorums.{quorum_more}
use Rattle.rounds.specs.History as history
use Rattle.rounds.specs.History.{History, view_of}
use Rattle.rounds.specs.Next.{View, present, passes, next}
use Rattle.rounds.specs.Outcomes.{Outcome, adopts, reaches, follows, prepares, Present, Within, Backed}
use Rattle.rounds.specs.Outcomes.{Reaches, Follows, Greatest, Ends, Ended, Gives}
use Rattle.rounds.specs.Terms.{Terms, Lawful}
use Rattle.rounds.proofs.Outcomes.{round_gives}
use Rattle.rounds.proofs.Phases.{decide_or_not}
use Rattle.rounds.proofs.Presence.{own_present, senders_backed}

-- a lawful history of a group on lawful terms
pub record Course (V : Type 0) : Type 0 where
  pub terms : Terms V
  pub laws : Lawful terms
  pub past : History V
  pub abides : history.Lawful past terms

module _ {V : Type 0} (g : Course V) where
  -- a controller made a letter for a round that says this
  abbrev pub Made : (controller round : ℕ) → Content V → Type 0
  Made i k c = g.past.made i k ≡ Some c

  -- the letter is a controller's own, or it kept it
  abbrev pub Gets : (controller round sender : ℕ) → Type 0
  Gets i k s = (s ≡ i) ⊎ (g.past.kept i k s ≡ true)

  -- what controller i has before it as it finishes round k, in which its own letter says this
  module _ (i k : ℕ) (own : Content V) where
    abbrev pub sight : View V
    sight = view_of g.past i k own

    -- it sees a letter of a sender, which says this
    abbrev pub Sees : (sender : ℕ) → Content V → Type 0
    Sees s d = Present g.terms sight s d

    pub sees_itself : Sees i own
    sees_itself = own_present g.terms sight

    module _ (mine : Made i k own) where
      -- what it sees was made for the round
      pub seen_made : (s : ℕ) (d : Content V) → Sees s d → Made s k d
      seen_made s d there = grind (arith, nat_tests)

      -- and it sees what was made for the round where it gets it
      pub made_seen : (s : ℕ) (d : Content V) → Gets i k s → Made s k d → Sees s d
      made_seen s d gets made = grind (arith, nat_tests)

      within : Within g.terms sight
      within s c there = (g.abides.maker s k c (seen_made s c there)).0

      gives : Gives g.terms sight k (g.past.told i k) (next g.terms sight k (g.past.told i k))
      gives = round_gives g.terms g.laws.kind sight within k (g.past.told i k)

      -- where it sees a letter of each member of a quorum, and all these letters pass a test, their senders are accepted
      pub backed_by : (test : Content V → Bool) (P : Content V → Type 0) → ((c : Content V) → (test c ≡ true) ↔ P c)
          → (S : ℕ → Type 0) → Quorum g.terms.accepts S
          → ((s : ℕ) → S s → (c : Content V) × Sees s c × P c)
          → Backed g.terms sight P
      backed_by test P tells S quorum sent =
          (senders_backed g.terms sight within test P tells).0
          (quorum_more g.terms.size g.terms.accepts g.laws.rule S (λ s. passes test (present sight s)) quorum
          (λ s member. let found = sent s member in ap (passes test) found.1 ∙ (tells found.0).1 found.2))

  -- what a controller made by finishing round k came of what it saw
  record Step (i k : ℕ) (c : Content V) : Type 0 where
    own : Content V
    mine : Made i k own
    gave : Gives g.terms (sight i k own) k (g.past.told i k) c

  step : (i k : ℕ) (c : Content V) → 1 ≤ k → Made i (suc k) c → Step i k c
  step i k c from made =
      let before = g.abides.later i k c from (ap (g.past.made i) (add-one k) ∙ made) in
      record {
        own = before.0;
        mine = before.1;
        gave = subst (Gives g.terms (sight i k before.0) k (g.past.told i k)) (sym before.2)
            (gives i k before.0 before.1);
      }

  -- a round carries P on: it holds of what comes of a round in which it held of all that was seen
  abbrev pub Carried : (P : (round maker : ℕ) → Content V → Type 0) → Type 0
  Carried P =
      (k i : ℕ) (own c : Content V) → 1 ≤ k → Made i k own → ((s : ℕ) (d : Content V) → Sees i k own s d → P k s d)
      → Ended g.terms (sight i k own) k (g.past.told i k) c
      → (o : Outcome) → Ends g.terms (sight i k own) k o c → P (suc k) i c

  -- what holds of all letters of a history: it holds of those of round 1, and of a decision said again, and is carried on
  module _ (P : (round maker : ℕ) → Content V → Type 0) (first : (i : ℕ) (c : Content V) → Made i 1 c → P 1 i c)
      (again : (k i : ℕ) (c : Content V) → c.phase ≡ Decide → P k i c → P (suc k) i c) (carried : Carried P) where
    by_step : (k i : ℕ) (c : Content V) → 1 ≤ k → Step i k c
        → ((s : ℕ) (d : Content V) → Made s k d → P k s d) → P (suc k) i c
    by_step k i c from s below =
        ⊎_elim
        (λ is. subst (P (suc k) i) (sym (s.gave.decided is)) (again k i s.own is (below i s.own s.mine)))
        (λ isnt.
        let e = s.gave.undecided isnt in
        carried k i s.own c from s.mine (λ x d sees. below x d (seen_made i k s.own s.mine x d sees)) e
        e.outcome e.ends)
        (decide_or_not s.own.phase)

    pub by_rounds : (k i : ℕ) (c : Content V) → Made i k c → P k i c
    by_rounds zero i c made = absurd (omega (arith, (g.abides.maker i 0 c made).1))
    by_rounds (suc zero) i c made = first i c made
    by_rounds (suc (suc k)) i c made =
        by_step (suc k) i c (omega arith) (step i (suc k) c (omega arith) made) (by_rounds (suc k))

  -- it followed its leader
  pub record Committed (i k : ℕ) (own c : Content V) : Type 0 where
    pub phase : c.phase ≡ Commit
    pub stamp : c.timestamp ≡ k
    pub leader : Follows g.terms (sight i k own) c.estimate

  -- it prepared, as it saw no approved leader
  pub record Prepared (i k : ℕ) (own c : Content V) : Type 0 where
    pub phase : c.phase ≡ Prepare
    pub best : Greatest g.terms (sight i k own) c.timestamp c.estimate
    pub alone : (v : V) → Follows g.terms (sight i k own) v → ⊥

  -- who is undecided after round k saw only letters of undecided controllers; it committed or prepared
  pub record Quiet (i k : ℕ) (c : Content V) : Type 0 where
    pub own : Content V
    pub mine : Made i k own
    pub seen : (s : ℕ) (d : Content V) → Sees i k own s d → Made s k d × (d.phase ≢ Decide)
    pub way : Committed i k own c ⊎ Prepared i k own c
    pub unreached : Reaches g.terms (sight i k own) → ⊥
    pub approved : (c.approved ≡ true) ↔ Backed g.terms (sight i k own) (λ d. d.leader ≡ i)
    pub leader : c.leader ≡ g.past.told i k

  pub quiet : (i k : ℕ) (c : Content V) → 1 ≤ k → Made i (suc k) c → c.phase ≢ Decide → Quiet i k c
  quiet i k c from made isnt = by (step i k c from made) where
    by : Step i k c → Quiet i k c
    by s = by_outcome e.outcome e.ends where
      e : Ended g.terms (sight i k s.own) k (g.past.told i k) c
      e = s.gave.undecided (λ is. isnt (ap (λ d. d.phase) (s.gave.decided is) ∙ is))

      made_by : (x : ℕ) (d : Content V) → Sees i k s.own x d → Made x k d
      made_by = seen_made i k s.own s.mine

      by_outcome : (o : Outcome) → Ends g.terms (sight i k s.own) k o c → Quiet i k c
      by_outcome adopts x = absurd (isnt x.0)
      by_outcome reaches x = absurd (isnt x.0)
      by_outcome follows x =
          record {
            own = s.own;
            mine = s.mine;
            seen = λ y d sees. (made_by y d sees, x.3 y d sees);
            way = inl (record { phase = x.0; stamp = x.1; leader = x.2 });
            unreached = x.4;
            approved = e.approved;
            leader = e.leader;
          }
      by_outcome prepares x =
          record {
            own = s.own;
            mine = s.mine;
            seen = λ y d sees. (made_by y d sees, x.2 y d sees);
            way = inr (record { phase = x.0; best = x.1; alone = x.4 });
            unreached = x.3;
            approved = e.approved;
            leader = e.leader;
          }
