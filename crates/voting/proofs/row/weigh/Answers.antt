-- The members' weights are summed place by place, and weigh no more than all. The chain stands in two answers: a lemma for them
-- would have to name the types of its iterators and closures, and be longer than what it saves.
use Rattle.std.proofs.Common.{◌≡◌, ◌∙◌, rules, arith}
use Rattle.std.proofs.lemmas.Iterator.{YieldsList-from_map, YieldsList-from_slice, YieldsList-from_zip, YieldsList-from_range}
use Rattle.std.proofs.lemmas.Iterator.Consumers.{fits_by_from_yields_list, sum_by_from_yields_List, YieldsList-from_filter, YieldsList-at}
use Rattle.std.specs.Prelude.{take}
use Rattle.std.specs.List.{filter, zip, range_with_len}
use Rattle.voting.specs.Rules.{weigh_from}
use Rattle.voting.specs.Sets.{has}
use Rattle.voting.proofs.Rows.{sum-le, sum-take-le, sum_by-picked, weigh_from-le-sum}
use Rattle.voting.proofs.row.weigh.Goals as goal

pub sum-requires-clause-fits : goal.sum-requires-clause-fits
sum-requires-clause-fits c =
    fits_by_from_yields_list (λ p. p.1) (filter (λ p. has c.args.set p.0) (zip (range_with_len 0 c.args.size) c.args.weights.now)) c.map.result 4294967296
    (YieldsList-from_map _ (λ p. p.1)
    (YieldsList-at c.map.ensures.source (YieldsList-from_filter _ (λ p. has c.args.set p.0)
    (YieldsList-at c.filter.ensures.source
    (YieldsList-from_zip (YieldsList-from_range 0 c.args.size c.args.size c.zip.ensures.first (omega arith)) (YieldsList-from_slice c.args.weights.now cc)))
    c.filter.ensures.closure (λ x r q k. search rules)))
    c.map.ensures.closure (λ x r q k. search rules))
    (omega (
      arith,
      sum_by-picked 0 c.args.size c.args.set c.args.weights.now,
      weigh_from-le-sum 0 c.args.set (take c.args.size c.args.weights.now),
      sum-take-le c.args.size c.args.weights.now,
      c.told-weights,
      sum-le c.args.weights.now c.fits-weights,
    ))

pub returns-clause-value : goal.returns-clause-value
returns-clause-value c =
    sum_by_from_yields_List (λ p. p.1) (filter (λ p. has c.args.set p.0) (zip (range_with_len 0 c.args.size) c.args.weights.now)) c.map.result c.sum.result
    c.sum.ensures.ran
    (YieldsList-from_map _ (λ p. p.1)
    (YieldsList-at c.map.ensures.source (YieldsList-from_filter _ (λ p. has c.args.set p.0)
    (YieldsList-at c.filter.ensures.source
    (YieldsList-from_zip (YieldsList-from_range 0 c.args.size c.args.size c.zip.ensures.first (omega arith)) (YieldsList-from_slice c.args.weights.now cc)))
    c.filter.ensures.closure (λ x r q k. search rules)))
    c.map.ensures.closure (λ x r q k. search rules))
    ∙ sum_by-picked 0 c.args.size c.args.set c.args.weights.now

pub returns-clause-bound : goal.returns-clause-bound
returns-clause-bound c =
    let value : c.sum.result ≡ weigh_from 0 c.args.set (take c.args.size c.args.weights.now) = returns-clause-value c in
    omega (arith, value, weigh_from-le-sum 0 c.args.set (take c.args.size c.args.weights.now), sum-take-le c.args.size c.args.weights.now)
