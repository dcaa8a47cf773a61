use Rattle.links.proofs.Sweeps.{Checking}
use Rattle.links.proofs.each_object.Given as goal

abbrev pub invariant-loop-k : goal.invariant-loop-k
invariant-loop-k g l = Checking l.offsets (goal.F-post g l.check) l.best l.k l.least
