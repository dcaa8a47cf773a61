use Rattle.repeats.proofs.Rule6.{Compares}
use Rattle.repeats.proofs.repeats.Given as goal

abbrev pub invariant-loop-j : goal.invariant-loop-j
invariant-loop-j l = Compares l.text l.table l.first l.k l.j-iterator
