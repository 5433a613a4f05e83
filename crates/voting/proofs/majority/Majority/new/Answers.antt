-- The made majority is the stated one, by whatever proof its size was found to be a group's.
use Rattle.std.proofs.Common.{◌≡◌, ℕ, IsTrue, Ok, sym, ap}
use Rattle.std.specs.Option.{ok_or}
use Rattle.refusals.proofs.Choices.{if_so-made}
use Rattle.voting.specs.Makes.{majority_of}
use Rattle.voting.specs.Voting.{sized}
use Rattle.voting.specs.declared.RuleFault.TheVariants.{Size}
use Rattle.voting.proofs.majority.Majority.new.Goals as goal

made : (n : ℕ) (h : IsTrue (sized n)) → Ok (record { size = n; ok = h }) ≡ majority_of n
made n h = sym (ap (λ o. ok_or o Size) (if_so-made (sized n) (λ p. record { size = n; ok = p }) h))

pub returns : goal.returns
returns c = made _ _
