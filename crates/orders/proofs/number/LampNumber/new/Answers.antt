use Rattle.orders.specs.LampNumbersLemmas.{lamp_made}
use Rattle.orders.proofs.number.LampNumber.new.Goals as goal

pub returns-then-contains : goal.returns-then-contains
returns-then-contains c = lamp_made _ _ _
