-- `boundaries::matches` meets its contract. The measure is the depth.
use Rattle.std.proofs.Common.{◌-◌}
use Rattle.shapes.specs.Shapes as shape
use Rattle.boundaries.proofs.Both.{Both}
use Rattle.boundaries.proofs.+matches.Given as goal

abbrev pub decreases-matches : goal.decreases-matches
decreases-matches l = l.depth

abbrev pub invariant-loop-j : goal.invariant-loop-j
invariant-loop-j l = Both (shape.matches (l.depth - 1)) l.text l.table l.b l.v l.best l.j-iterator.a l.j-iterator.b l.least
