-- The three types of letter, told apart.
use Rattle.std.proofs.Common.{◌≡◌, true, false, ◌≢◌, ◌⊎◌, arith}
use Rattle.letters.specs.declared.phase.Phase.{Phase}
use Rattle.letters.specs.declared.phase.Phase.TheVariants.{Prepare, Commit, Decide}
use Rattle.rounds.specs.Next.{is_commit, is_decide}

pub decides : (p : Phase) → is_decide p ≡ true → p ≡ Decide
decides p e = grind arith

pub commits : (p : Phase) → is_commit p ≡ true → p ≡ Commit
commits p e = grind arith

pub not_decides : (p : Phase) → is_decide p ≡ false → p ≢ Decide
not_decides p e is = cc

pub undecided : (p : Phase) → p ≢ Decide → is_decide p ≡ false
undecided p isnt = grind arith

pub commit_open : (p : Phase) → p ≡ Commit → p ≢ Decide
commit_open p is also = cc

pub prepare_open : (p : Phase) → p ≡ Prepare → p ≢ Decide
prepare_open p is also = cc

pub prepare_no_commit : (p : Phase) → p ≡ Prepare → p ≢ Commit
prepare_no_commit p is also = cc

pub decide_or_not : (p : Phase) → (p ≡ Decide) ⊎ (p ≢ Decide)
decide_or_not p = grind arith
