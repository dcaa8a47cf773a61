use Rattle.shapes.specs.Shapes.{coordinate}
use Rattle.shapes.specs.Laws.{Passing}
use Rattle.shapes.proofs.coordinates.Given as goal

abbrev pub invariant-loop-k : goal.invariant-loop-k
invariant-loop-k l = Passing coordinate l.text l.table l.i l.best l.k-iterator l.least
