use Rattle.everywhere.specs.Says.{own5}
use Rattle.everywhere.proofs.Passes.{Always, Pass}
use Rattle.everywhere.proofs.unpaired.Given as goal

abbrev pub invariant-loop-k : goal.invariant-loop-k
invariant-loop-k l = Pass Always 5 own5 l.text l.table l.n l.best l.k l.least
