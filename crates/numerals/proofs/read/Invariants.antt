-- The bytes so far give the sum so far.
use Rattle.numerals.proofs.Sums.{Inside}
use Rattle.numerals.proofs.read.Given as goal

abbrev pub invariant-loop-i : goal.invariant-loop-i
invariant-loop-i l = Inside l.raw l.s l.i
