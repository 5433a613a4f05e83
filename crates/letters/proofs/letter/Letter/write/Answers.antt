use Rattle.std.proofs.Common.{◌≡◌}
use Rattle.letters.specs.Wire.{letter_bytes}
use Rattle.letters.proofs.Letters.{letter_halves, reading_back}
use Rattle.letters.proofs.letter.Letter.write.Goals as goal

pub returns-clause-back : goal.returns-clause-back
returns-clause-back g c =
    let kind = g.K.Kind.meaning in
    let halves = letter_halves kind c.args.self.now in
    let written : letter_bytes kind c.args.self.now ≡ c.join.result = cc in
    rw written at (reading_back kind g.met.K.Kind.lawful c.args.self.now)
