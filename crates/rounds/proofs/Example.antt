-- A worked example, computed: three controllers propose the lamps 4, 7 and 2 and vote by majority. All are told the leader 0,
-- who keeps every letter, and whose letters the others keep. Four rounds are settled: what the promise of a decision asks for
-- can be had.
use Rattle.std.proofs.Common.{◌≡◌, ℕ, zero, suc, ◌-◌, ◌<◌, ◌≤◌, Bool, true, false, ◌||◌, ◌==◌, [], ◌∷◌, Some, None, Option, refl, ap, ◌∙◌, inr, ⊎_elim, add-one, arith}
use Rattle.std.proofs.lemmas.Bool.{both_ways, or_right, cases_lt}
use Rattle.letters.specs.declared.letter.Content.{Content}
use Rattle.letters.specs.declared.phase.Phase.{Phase}
use Rattle.letters.specs.declared.phase.Phase.TheVariants.{Prepare, Commit, Decide}
use Rattle.orders.specs.LampNumbers.{lamp_meaning, lamp_of}
use Rattle.orders.specs.declared.number.LampNumber.{LampNumber}
use Rattle.orders.specs.LampNumbersLemmas.{lamp_lawful}
use Rattle.voting.specs.Rules.{majority}
use Rattle.voting.specs.Sets.{has, whole}
use Rattle.voting.specs.AllOnes.{majority_lawful}
use Rattle.voting.specs.Members.{absent, whole_has, whole_lt}
use Rattle.rounds.specs.History.{EveryHistory, History, Lawful, account_of}
use Rattle.rounds.specs.Next.{next}
use Rattle.rounds.specs.Promises.{Stayer, Settled}
use Rattle.rounds.specs.Terms as terms
use Rattle.rounds.specs.Terms.{Terms, terms_of}
use Rattle.rounds.proofs.Plays.{letters, play, play_lawful, goes_on}
use Rattle.rounds.proofs.Promises.{promises}

abbrev three : Terms LampNumber
three = terms_of lamp_meaning 3 (majority 3)

abbrev proposal : ℕ → Option LampNumber
proposal zero = lamp_of 4
proposal (suc zero) = lamp_of 7
proposal (suc (suc zero)) = lamp_of 2
proposal (suc (suc (suc i))) = None

abbrev kept : ℕ → ℕ → ℕ → Bool
kept i k s = (i == 0) || (s == 0)

-- the letters of a round, by their makers
abbrev made : ℕ → ℕ → Option (Content LampNumber)
made = letters three proposal kept (λ i k. 0) (λ i. 5)

-- the type, timestamp and lamp of a letter, and whether it is approved
abbrev Said : Type 0
Said = Phase × ℕ × ℕ × Bool

abbrev said : Option (Content LampNumber) → Option Said
said None = None
said (Some c) = Some (c.phase, c.timestamp, c.estimate.number, c.approved)

-- the letters of a round say this, in the order of their makers
abbrev Round : ℕ → (a b c : Said) → Type 0
Round k a b c = (said (made k 0) ∷ said (made k 1) ∷ said (made k 2) ∷ []) ≡ (Some a ∷ Some b ∷ Some c ∷ [])

rounds : Round 1 (Prepare, 0, 4, false) (Prepare, 0, 7, false) (Prepare, 0, 2, false)
    × Round 2 (Prepare, 0, 7, true) (Prepare, 0, 7, false) (Prepare, 0, 4, false)
    × Round 3 (Commit, 2, 7, true) (Commit, 2, 7, false) (Commit, 2, 7, false)
    × Round 4 (Decide, 2, 7, true) (Commit, 3, 7, false) (Commit, 3, 7, false)
    × Round 5 (Decide, 2, 7, true) (Decide, 3, 7, false) (Decide, 3, 7, false)
unfolding next
rounds = (refl, refl, refl, refl, refl)

abbrev example : History LampNumber
example = play three proposal kept (λ i k. 0) (λ i. 5)

some_proposal : (i : ℕ) → i < 3 → (v : LampNumber) × (proposal i ≡ Some v)
some_proposal zero lt = (_, refl)
some_proposal (suc zero) lt = (_, refl)
some_proposal (suc (suc zero)) lt = (_, refl)
some_proposal (suc (suc (suc i))) lt = absurd (omega arith)

within : (i : ℕ) (v : LampNumber) → proposal i ≡ Some v → i < 3
within zero v e = omega arith
within (suc zero) v e = omega arith
within (suc (suc zero)) v e = omega arith
within (suc (suc (suc i))) v e = absurd cc

abides : Lawful example three
abides = play_lawful three proposal kept (λ i k. 0) (λ i. 5) within

-- each of the three finishes the rounds 0 to 4
finishes : (i k : ℕ) → i < 3 → k < 5 → (account_of example).Finishes i k 0
finishes i k member lt =
    let (v, is) = some_proposal i member in
    let (c, made) = goes_on three proposal kept (λ i k. 0) (λ i. 5) i k v is lt in
    (c, ap (λ m. example.made i m) (add-one k) ∙ made, refl)

abbrev Stays : ℕ → Type 0
Stays = Stayer three (account_of example) 1

stayer_member : (i : ℕ) → Stays i → i < 3
stayer_member i (l, (c, made, told)) = (abides.maker i 5 c made).0

-- the whole group hears each other through the leader
settled : (k : ℕ) → 1 ≤ k → k ≤ 4 → Settled three (account_of example) 1 0 k
settled k from to =
    record {
      led = λ c stays. finishes c (k - 1) (stayer_member c stays) (omega arith);
      hears = λ c stays other. or_right (c == 0) true refl;
      heard = (
        whole 3,
        refl,
        λ i. (
          λ there. ((0, finishes i 4 (member i there) (omega arith)), inr refl),
          λ (stays, gets). whole_has 3 i (stayer_member i stays),
        ),
      );
    } where
      member : (i : ℕ) → has (whole 3) i ≡ true → i < 3
      member i there =
          ⊎_elim (λ lt. lt) (λ le. absurd (both_ways (has (whole 3) i) (absent (whole 3) 3 i (whole_lt 3) le) there))
          (cases_lt i 3)

-- so the promise says what was computed: all three have decided
all_decided : (i : ℕ) → i < 3 → (v : LampNumber) × (account_of example).Decided i v
unfolding EveryHistory
all_decided i member =
    let laws : terms.Lawful three = record { kind = lamp_lawful; rule = majority_lawful 3 (omega arith) } in
    (promises three laws example abides).decision 1 0 (omega arith) (0, finishes 0 4 (omega arith) (omega arith))
    (settled 1 (omega arith) (omega arith)) (settled 2 (omega arith) (omega arith)) (settled 3 (omega arith) (omega arith))
    (settled 4 (omega arith) (omega arith)) i (0, finishes i 4 member (omega arith))
