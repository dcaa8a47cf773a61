use Rattle.std.proofs.Common.{◌-◌}
use Rattle.everywhere.proofs.Passes.{Always, Pass}
use Rattle.repeats.specs.Names.{own6}
use Rattle.repeats.proofs.Passes.{Lent}
use Rattle.repeats.proofs.pass.Given as goal

abbrev pub invariant-loop-k : goal.invariant-loop-k
invariant-loop-k l = (Pass Always 6 own6 l.text l.table l.n l.best l.k l.least) × (Lent l.initial.links l.links)

abbrev pub decreases-loop-k : goal.decreases-loop-k
decreases-loop-k l = l.n - l.k
