use Rattle.letters.proofs.Letters.{making_letter}
use Rattle.letters.proofs.letter.Letter.with_head.Goals as goal

pub returns : goal.returns
returns g c = making_letter c.args.head c.args.estimate _
