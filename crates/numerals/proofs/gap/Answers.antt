-- The difference, by which number is greater.
use Rattle.numerals.proofs.Powers.{beyond, ranged}
use Rattle.numerals.proofs.gap.Goals as goal

pub returns-then-beyond : goal.returns-then-beyond
returns-then-beyond c = beyond _ _ c.abs_diff-size.ensures c.if-beyond.true

pub returns : goal.returns
returns c = ranged _ _ c.abs_diff-size.ensures c.if-beyond.false c.with_sign.ensures
