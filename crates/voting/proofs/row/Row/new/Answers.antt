-- What was copied to the front is the row, and zeros are behind it.
use Rattle.std.proofs.Common.{rules}
use Rattle.voting.proofs.Rows.{copied_kept}
use Rattle.voting.proofs.row.Row.new.Goals as goal

pub invariant_of-result : goal.invariant_of-result
invariant_of-result c = (search rules, rw c.copy_from_slice.ensures.after (copied_kept c.args.weights.now))
