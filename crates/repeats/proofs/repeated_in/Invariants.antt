use Rattle.repeats.proofs.Passes.{Lent}
use Rattle.repeats.proofs.Rule6.{Sweeps, Any}
use Rattle.repeats.proofs.repeated_in.Given as goal

abbrev pub invariant-loop-seen : goal.invariant-loop-seen
invariant-loop-seen l = (Sweeps l.text l.table l.i l.best l.seen-iterator.iter l.least Any) × (Lent l.initial.links l.links)
