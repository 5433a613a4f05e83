-- As many weights of 16 bits as the largest group has fit.
use Rattle.std.proofs.Common.{◌≡◌, sum, rules, arith}
use Rattle.std.proofs.iter.runs.Made.{chains}
use Rattle.std.proofs.lemmas.Iterator.{YieldsList-from_map, YieldsList-from_slice}
use Rattle.std.proofs.lemmas.Iterator.Consumers.{fits_from_yields_list}
use Rattle.std.proofs.lemmas.List.Sums.{sum-map}
use Rattle.voting.proofs.Rows.{sum-le}
use Rattle.voting.proofs.row.total.Goals as goal

pub sum-requires-clause-fits : goal.sum-requires-clause-fits
sum-requires-clause-fits c =
    fits_from_yields_list c.map.result _
    (YieldsList-from_map _ (λ w. w) (YieldsList-from_slice c.args.weights.now cc) c.map.ensures.closure (λ x r q k. search rules))
    (omega (arith, sum-map (λ w. w) c.args.weights.now, sum-le c.args.weights.now c.fits-weights))

pub returns-clause-bound : goal.returns-clause-bound
returns-clause-bound c =
    let value : c.sum.result ≡ sum c.args.weights.now = search (rules, chains) in
    omega (arith, sum-le c.args.weights.now c.fits-weights)
