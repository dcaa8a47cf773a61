-- The strings are alike before k.
use Rattle.compare.specs.Says.{Alike}
use Rattle.compare.proofs.same_plain.Given as goal

abbrev pub invariant-loop-k : goal.invariant-loop-k
invariant-loop-k l = Alike l.one l.other l.k
