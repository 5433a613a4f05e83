use Rattle.std.proofs.Common.{◌≡◌, rules, Some}
use Rattle.std.specs.Prelude.{slice_index}
use Rattle.orders.specs.LampNumbers.{lamp_of}
use Rattle.orders.specs.LampOrdersLemmas.{order_read}
use Rattle.orders.proofs.order.LampOrder.read.Goals as goal

pub returns : goal.returns
returns c =
    let lamp : lamp_of (slice_index c.args.field.now 1) ≡ Some c.in_ok-lamp.lamp = search rules in
    order_read c.args.field.now c.in_ok-lamp.lamp c.in_ok-character.character c.from_parts.result c.from_be_bytes.result (search rules) lamp (search rules) (search rules) (search rules)
