-- At most 16 digits are made of m before the test.
use Rattle.numerals.proofs.Sums.{digital}
use Rattle.numerals.proofs.append.Goals as goal

pub returns-then-n-ge-LARGE : goal.returns-then-n-ge-LARGE
returns-then-n-ge-LARGE c = search digital

pub loop-preserved : goal.loop-preserved
loop-preserved c = search digital
