-- A round gives what the relations say: one outcome, by the first test that holds, and no other.
use Rattle.std.proofs.Common.{◌≡◌, ℕ, Bool, true, false, ◌==◌, ◌↔◌, Some, None, Option, sym, refl, ap, ◌∙◌, arith}
use Rattle.std.proofs.lemmas.Bool.Decides.{nat_tests}
use Rattle.letters.specs.declared.letter.Content.{Content}
use Rattle.letters.specs.declared.phase.Phase.TheVariants.{Commit}
use Rattle.orders.specs.Kinds as kinds
use Rattle.rounds.specs.Next.{View, is_commit, present, senders, first_decide, backed, reached, followed}
use Rattle.rounds.specs.Next.{undecided, next}
use Rattle.rounds.specs.Outcomes.{Outcome, adopts, reaches, follows, prepares, Within, Backed, NoDecide}
use Rattle.rounds.specs.Outcomes.{Adopts, Reaches, Follows, Ends, Ended, Gives}
use Rattle.rounds.specs.Terms.{Terms}
use Rattle.rounds.proofs.Gathering.{gathered_greatest, greatest_one}
use Rattle.rounds.proofs.Phases.{commits}
use Rattle.rounds.proofs.Phases as phases
use Rattle.rounds.proofs.Presence.{same_letter, passing_some, passing_none, senders_backed, no_decide, adopted}

module _ {V : Type 0} (terms : Terms V) (laws : kinds.Lawful terms.kind) (view : View V)
    (within : Within terms view) where
  -- two letters of the same type, timestamp and estimate
  abbrev Alike : Content V → Content V → Type 0
  Alike c d = (c.phase ≡ d.phase) × (c.timestamp ≡ d.timestamp) × (c.estimate ≡ d.estimate)

  adopted_one : (v w : V) → Adopts terms view v → Adopts terms view w → v ≡ w
  adopted_one v w a b =
      let down = a.lowest b.sender b.letter b.there b.decides in
      let up = b.lowest a.sender a.letter a.there a.decides in
      let same : a.sender ≡ b.sender = omega arith in
      sym a.says ∙ ap (λ c. c.estimate) (same_letter a.there (ap (present view) same ∙ b.there)) ∙ b.says

  followed_one : (v w : V) → Follows terms view v → Follows terms view w → v ≡ w
  followed_one v w a b = sym a.says ∙ ap (λ c. c.estimate) (same_letter a.there b.there) ∙ b.says

  clash : {A : Type 0} {v : V} → Adopts terms view v → NoDecide terms view → A
  clash a none = absurd (none a.sender a.letter a.there a.decides)

  commits_backed : (terms.accepts (senders terms view (λ c. is_commit c.phase)) ≡ true)
      ↔ Backed terms view (λ c. c.phase ≡ Commit)
  commits_backed =
      senders_backed terms view within (λ c. is_commit c.phase) (λ c. c.phase ≡ Commit)
      (λ c. (commits c.phase, λ e. ap is_commit e))

  self_backed : (backed terms view ≡ true) ↔ Backed terms view (λ c. c.leader ≡ view.self)
  self_backed =
      senders_backed terms view within (λ c. c.leader == view.self) (λ c. c.leader ≡ view.self)
      (λ c. (λ is. grind (arith, nat_tests), λ is. grind (arith, nat_tests)))

  reached_so : reached terms view ≡ true → Reaches terms view
  reached_so e =
      record { commit = grind arith; approved = grind arith; backed = commits_backed.0 (grind arith) }

  not_reached : reached terms view ≡ false → Reaches terms view → ⊥
  not_reached e so =
      let commit = so.commit in
      let approved = so.approved in
      let enough = commits_backed.1 so.backed in
      grind arith

  followed_so : (c : Content V) → followed terms view ≡ Some c → Follows terms view c.estimate
  followed_so c e =
      let found = passing_some (λ d. d.approved) (present view view.own.leader) c e in
      record { letter = c; there = found.0; approved = found.1; says = refl }

  not_followed : followed terms view ≡ None → (v : V) → Follows terms view v → ⊥
  not_followed e v so =
      let not_approved = passing_none (λ d. d.approved) (present view view.own.leader) so.letter e so.there in
      let approved = so.approved in
      cc

  module _ (round told : ℕ) where
    -- any two outcomes are one, with one thing to say
    only_one : (o p : Outcome) (c d : Content V) → Ends terms view round o c → Ends terms view round p d
        → (o ≡ p) × Alike c d
    only_one adopts adopts c d x y = (refl, (x.0 ∙ sym y.0, x.1 ∙ sym y.1, adopted_one _ _ x.2 y.2))
    only_one adopts reaches c d x y = clash x.2 y.3
    only_one adopts follows c d x y = clash x.2 y.3
    only_one adopts prepares c d x y = clash x.2 y.2
    only_one reaches adopts c d x y = clash y.2 x.3
    only_one reaches reaches c d x y = (refl, (x.0 ∙ sym y.0, x.1 ∙ sym y.1, x.2 ∙ sym y.2))
    only_one reaches follows c d x y = absurd (y.4 x.4)
    only_one reaches prepares c d x y = absurd (y.3 x.4)
    only_one follows adopts c d x y = clash y.2 x.3
    only_one follows reaches c d x y = absurd (x.4 y.4)
    only_one follows follows c d x y = (refl, (x.0 ∙ sym y.0, x.1 ∙ sym y.1, followed_one _ _ x.2 y.2))
    only_one follows prepares c d x y = absurd (y.4 c.estimate x.2)
    only_one prepares adopts c d x y = clash y.2 x.2
    only_one prepares reaches c d x y = absurd (x.3 y.4)
    only_one prepares follows c d x y = absurd (x.4 d.estimate y.2)
    only_one prepares prepares c d x y =
        let same = greatest_one terms laws view x.1 y.1 in (refl, (x.0 ∙ sym y.0, same.0, same.1))

    ended_by : (c : Content V) (o : Outcome) → c.approved ≡ backed terms view → c.leader ≡ told
        → Ends terms view round o c → Ended terms view round told c
    ended_by c o flag named ends =
        record {
          outcome = o;
          ends = ends;
          only = λ p d other. let one = only_one p o d c other ends in (one.0, one.1.0, one.1.1, one.1.2);
          approved = (λ e. self_backed.0 (sym flag ∙ e), λ by. flag ∙ self_backed.1 by);
          leader = named;
        }

    ended : (first : Option (Content V)) (commit : Bool) (leader : Option (Content V))
        → first_decide terms view terms.size ≡ first → reached terms view ≡ commit → followed terms view ≡ leader
        → Ended terms view round told (undecided terms view round told first commit leader)
    ended (Some c) commit leader first_is commit_is leader_is =
        ended_by _ adopts refl refl (refl, refl, adopted terms view c first_is)
    ended None true leader first_is commit_is leader_is =
        ended_by _ reaches refl refl (refl, refl, refl, no_decide terms view within first_is, reached_so commit_is)
    ended None false (Some c) first_is commit_is leader_is =
        ended_by _ follows refl refl
        (refl, refl, followed_so c leader_is, no_decide terms view within first_is, not_reached commit_is)
    ended None false None first_is commit_is leader_is =
        ended_by _ prepares refl refl (
          refl,
          gathered_greatest terms laws view within,
          no_decide terms view within first_is,
          not_reached commit_is,
          not_followed leader_is,
        )

    pub round_gives : Gives terms view round told (next terms view round told)
    unfolding next
    round_gives =
        record {
          decided = λ is. rw is;
          undecided = λ isnt.
              let test = phases.undecided view.own.phase isnt in
              rw test (ended (first_decide terms view terms.size) (reached terms view) (followed terms view) refl refl refl);
        }
