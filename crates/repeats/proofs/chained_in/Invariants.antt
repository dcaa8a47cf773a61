use Rattle.repeats.proofs.Rule6.{Threads}
use Rattle.repeats.proofs.chained_in.Given as goal

abbrev pub invariant-loop-k : goal.invariant-loop-k
invariant-loop-k l = Threads l.text l.table l.initial.links l.links l.heads l.i l.best l.k-iterator l.least
