use Rattle.orders.specs.LampOrdersLemmas.{order_made}
use Rattle.orders.proofs.order.LampOrder.from_parts.Goals as goal

pub returns : goal.returns
returns c = order_made _ _ _ _
