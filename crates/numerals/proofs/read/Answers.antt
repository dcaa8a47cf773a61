-- The letter, a mantissa that is too large, one byte more, and the end.
use Rattle.std.proofs.Common.{rules, sym, ◌∙◌}
use Rattle.numerals.proofs.Sums.{digital, inside-letter, inside-large, inside-more}
use Rattle.numerals.proofs.read.Goals as goal

pub returns-then-is_letter : goal.returns-then-is_letter
returns-then-is_letter c = inside-letter c.loop-i.invariant (search rules) (search rules) c.loop-i-test.true (sym c.if-is_letter.true ∙ c.is_letter.ensures)

pub returns-then-s-ge-LARGE : goal.returns-then-s-ge-LARGE
returns-then-s-ge-LARGE c = inside-large c.loop-i.invariant (search rules) (search rules) c.loop-i-test.true (sym c.if-is_letter.false ∙ c.is_letter.ensures) c.take-s.ensures c.if-s-ge-LARGE.true

pub loop-i-preserved : goal.loop-i-preserved
loop-i-preserved c = inside-more c.loop-i.invariant (search rules) (search rules) c.loop-i-test.true (sym c.if-is_letter.false ∙ c.is_letter.ensures) c.take-s.ensures c.if-s-ge-LARGE.false

pub returns : goal.returns
returns c = search digital
