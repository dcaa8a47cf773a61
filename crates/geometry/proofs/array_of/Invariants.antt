use Rattle.geometry.proofs.Elements.{Each}
use Rattle.geometry.proofs.array_of.Given as goal

abbrev pub invariant-loop-k : goal.invariant-loop-k
invariant-loop-k g l = Each l.text l.table l.i l.initial.least (goal.F-post g l.check) l.k-iterator l.least
