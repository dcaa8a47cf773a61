use Rattle.shapes.specs.Shapes.{vertex}
use Rattle.shapes.specs.Laws.{Passing}
use Rattle.shapes.proofs.vertices.Given as goal

abbrev pub invariant-loop-k : goal.invariant-loop-k
invariant-loop-k l = Passing vertex l.text l.table l.i l.initial.least l.k-iterator l.least
