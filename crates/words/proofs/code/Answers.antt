-- The word at the guessed place is the string.
use Rattle.std.proofs.Common.{arith}
use Rattle.words.proofs.Places.{table-length, table-part, right-guess}
use Rattle.words.proofs.code.Goals as goal

pub returns-then-eq : goal.returns-then-eq
returns-then-eq c =
    right-guess c.requires.0 c.requires.1 c.requires.2 (omega (arith, table-length c.args.words.now, c.if-place-words.true))
    (table-part c.args.words.now _ _ c.args.text.now c.args.at c.args.end c.requires.0.low c.if-eq.ensures)
