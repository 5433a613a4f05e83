use Rattle.std.proofs.Common.{◌≡◌, length, vec_items}
use Rattle.letter_batch.specs.Hex.{before, unhex}
use Rattle.letter_batch.proofs.hex.decode.Given as goal

-- the bytes so far, and those of the rest, are those of the line
abbrev pub invariant-loop-rest : goal.invariant-loop-rest
invariant-loop-rest l = before (vec_items l.bytes) (unhex l.rest) ≡ unhex l.line

abbrev pub decreases-loop-rest : goal.decreases-loop-rest
decreases-loop-rest l = length l.rest
