-- The digits so far write the number so far.
use Rattle.numerals.proofs.Short.{Quickly}
use Rattle.numerals.proofs.digits.Given as goal

abbrev pub invariant-loop-b : goal.invariant-loop-b
invariant-loop-b l = Quickly l.raw l.n l.b-index
