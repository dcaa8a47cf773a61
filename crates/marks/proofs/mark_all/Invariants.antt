use Rattle.marks.proofs.Sets.{Filling}
use Rattle.marks.proofs.mark_all.Given as goal

abbrev pub invariant-loop-k : goal.invariant-loop-k
invariant-loop-k l = Filling l.rows l.initial.set l.set l.count l.k l.good
