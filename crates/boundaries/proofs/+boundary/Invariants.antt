-- `boundaries::boundary` meets its contract. The measure is the depth.
use Rattle.std.proofs.Common.{◌++◌, ◌-◌}
use Rattle.shapes.specs.Laws.{Passing}
use Rattle.shapes.specs.Shapes as shape
use Rattle.boundaries.proofs.+boundary.Given as goal

abbrev pub decreases-boundary : goal.decreases-boundary
decreases-boundary l = l.depth

abbrev pub invariant-loop-k : goal.invariant-loop-k
invariant-loop-k l = Passing (λ w. shape.shaped (l.depth - 1) w ++ shape.ranged l.count (l.depth - 1) w) l.text l.table l.i l.best l.k-iterator l.least
