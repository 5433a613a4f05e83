-- Every course of events has a history: it is made round by round, from the letters of the round before.
use Rattle.std.proofs.Common.{◌≡◌, ℕ, zero, suc, ◌+◌, ◌<◌, ◌≤◌, Bool, if◌then◌else◌, nat_lt, Some, None, Option, sym, refl, ap, ◌∙◌, add-one, arith}
use Rattle.std.proofs.lemmas.Bool.Decides.{nat_tests}
use Rattle.std.specs.Option.{option_map}
use Rattle.letters.specs.declared.letter.Content.{Content}
use Rattle.rounds.specs.History.{History, Lawful, EveryPlay, view_of}
use Rattle.rounds.specs.Next.{initial, next}
use Rattle.rounds.specs.Terms.{Terms}

-- what is there under a test is there
only_if : {A : Type 0} (b : Bool) (o : Option A) (x : A) → (if b then o else None) ≡ Some x → o ≡ Some x
only_if b o x e = grind arith

mapped_some : {A B : Type 0} (f : A → B) (o : Option A) (y : B) → option_map f o ≡ Some y → (x : A) × (o ≡ Some x) × (y ≡ f x)
mapped_some f None y e = absurd cc
mapped_some f (Some x) y e = (x, refl, cc)

module _ {V : Type 0} (terms : Terms V) (proposal : ℕ → Option V) (kept : ℕ → ℕ → ℕ → Bool) (told : ℕ → ℕ → ℕ)
    (rounds : ℕ → ℕ) where
  -- what controller i makes of round k, of which these are the letters
  abbrev turn : (k : ℕ) → (ℕ → Option (Content V)) → (i : ℕ) → Content V → Content V
  turn k letters i own =
      next terms (record { self = i; own = own; others = λ s. if kept i k s then letters s else None }) k (told i k)

  -- the letters of a round, by their makers
  abbrev pub letters : (round : ℕ) → (maker : ℕ) → Option (Content V)
  letters zero i = None
  letters (suc zero) i = if nat_lt 0 (rounds i) then option_map (initial (told i 0)) (proposal i) else None
  letters (suc (suc k)) i =
      if nat_lt (suc k) (rounds i) then option_map (turn (suc k) (letters (suc k)) i) (letters (suc k) i) else None

  abbrev pub play : History V
  play = record { proposal = proposal; made = λ i k. letters k i; kept = kept; told = told }

  made_first : (i : ℕ) (c : Content V) → letters 1 i ≡ Some c
      → (v : V) × (proposal i ≡ Some v) × (c ≡ initial (told i 0) v)
  made_first i c made = mapped_some (initial (told i 0)) (proposal i) c (only_if (nat_lt 0 (rounds i)) _ c made)

  made_later : (i k : ℕ) (c : Content V) → letters (suc (suc k)) i ≡ Some c
      → (own : Content V) × (letters (suc k) i ≡ Some own)
      × (c ≡ next terms (view_of play i (suc k) own) (suc k) (told i (suc k)))
  made_later i k c made =
      mapped_some (turn (suc k) (letters (suc k)) i) (letters (suc k) i) c (only_if (nat_lt (suc k) (rounds i)) _ c made)

  -- who proposed goes on for as many rounds as it finishes, and then stops
  pub goes_on : (i k : ℕ) (v : V) → proposal i ≡ Some v → k < rounds i → (c : Content V) × (letters (suc k) i ≡ Some c)
  goes_on i zero v is lt = (
    initial (told i 0) v,
    grind (arith, nat_tests),
  )
  goes_on i (suc k) v is lt =
      let before = goes_on i k v is (omega arith) in (
        turn (suc k) (letters (suc k)) i before.0,
        grind (arith, nat_tests, before.1),
      )

  stops : (i k : ℕ) → rounds i ≤ k → letters (suc k) i ≡ None
  stops i zero le = grind (arith, nat_tests)
  stops i (suc k) le = grind (arith, nat_tests)

  module _ (within : (i : ℕ) (v : V) → proposal i ≡ Some v → i < terms.size) where
    maker : (i k : ℕ) (c : Content V) → letters k i ≡ Some c → (i < terms.size) × (1 ≤ k)
    maker i zero c made = absurd cc
    maker i (suc zero) c made = let first = made_first i c made in (within i first.0 first.1, omega arith)
    maker i (suc (suc k)) c made =
        let before = made_later i k c made in ((maker i (suc k) before.0 before.1).0, omega arith)

    later : (i k : ℕ) (c : Content V) → 1 ≤ k → letters (k + 1) i ≡ Some c
        → (own : Content V) × (letters k i ≡ Some own) × (c ≡ next terms (view_of play i k own) k (told i k))
    later i zero c from made = absurd (omega arith)
    later i (suc k) c from made = made_later i k c (ap (λ m. letters m i) (sym (add-one (suc k))) ∙ made)

    pub play_lawful : Lawful play terms
    play_lawful = record { proposer = within; maker = maker; first = made_first; later = later }

pub every_play : {V : Type 0} (terms : Terms V) → EveryPlay terms
every_play terms proposal kept told rounds within = (
  play terms proposal kept told rounds,
  play_lawful terms proposal kept told rounds within,
  refl,
  refl,
  refl,
  λ i k v is lt.
      let made = goes_on terms proposal kept told rounds i k v is lt in
      (made.0, ap (λ m. letters terms proposal kept told rounds m i) (add-one k) ∙ made.1),
  λ i k le. ap (λ m. letters terms proposal kept told rounds m i) (add-one k) ∙ stops terms proposal kept told rounds i k le,
)
