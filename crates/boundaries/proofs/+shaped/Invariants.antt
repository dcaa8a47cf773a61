-- `boundaries::shaped` meets its contract. The measure is the depth.
use Rattle.std.proofs.Common.{◌-◌}
use Rattle.shapes.specs.Laws.{Passing}
use Rattle.shapes.specs.Shapes as shape
use Rattle.boundaries.proofs.+shaped.Given as goal

abbrev pub decreases-shaped : goal.decreases-shaped
decreases-shaped l = l.depth

abbrev pub invariant-loop-k : goal.invariant-loop-k
invariant-loop-k l = Passing (shape.shaped (l.depth - 1)) l.text l.table l.i l.best l.k-iterator l.least
