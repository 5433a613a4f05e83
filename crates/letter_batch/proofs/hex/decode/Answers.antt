use Rattle.std.proofs.Common.{ℕ, List, drop, vec_items, ap, ◌∙◌, rules}
use Rattle.std.proofs.lemmas.List.{take_rest}
use Rattle.letter_batch.specs.Hex.{before, unhex}
use Rattle.letter_batch.proofs.Pairs.{byte_more}
use Rattle.letter_batch.proofs.hex.decode.Goals as goal

pub loop-rest-preserved : goal.loop-rest-preserved
loop-rest-preserved c =
    let rest = c.loop-rest.rest.now in
    let pushed = c.in_ok-push.ensures.items in
    let more = byte_more c.args.line.now rest (vec_items c.loop-rest.bytes) c.in-Some-Some.high c.in-Some-Some.low (search rules) c.in-Some-Some.ensures c.in-Some-Some.ensures' c.loop-rest.invariant in
    ap (λ o. before (vec_items c.push.new.self) (unhex o)) (take_rest rest 2)
    ∙ ap (λ (xs : List ℕ). before xs (unhex (drop 2 rest))) pushed
    ∙ more
