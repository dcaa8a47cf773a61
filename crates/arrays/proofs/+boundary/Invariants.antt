use Rattle.arrays.proofs.Nodes.{Nesting}
use Rattle.arrays.proofs.+boundary.Given as goal

abbrev pub decreases-boundary : goal.decreases-boundary
decreases-boundary l = l.depth

abbrev pub invariant-loop-k : goal.invariant-loop-k
invariant-loop-k l = Nesting l.depth l.text l.table l.i l.k-iterator l.initial.sheet l.sheet l.at l.first l.o l.count
