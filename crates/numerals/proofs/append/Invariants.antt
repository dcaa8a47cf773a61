-- Some of the zeros follow m.
use Rattle.numerals.proofs.Sums.{Raised}
use Rattle.numerals.proofs.append.Given as goal

abbrev pub invariant-loop : goal.invariant-loop
invariant-loop l = Raised l.m l.n l.counter
