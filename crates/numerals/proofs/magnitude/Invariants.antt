-- The digits so far write the number so far.
use Rattle.numerals.proofs.Bytes.{Counts}
use Rattle.numerals.proofs.magnitude.Given as goal

abbrev pub invariant-loop-b : goal.invariant-loop-b
invariant-loop-b l = Counts l.raw l.n l.b-index
