-- What is left of the pass, whose nodes before i don't begin at the place.
use Prim.Native.Nat.{◌-◌}
use Rattle.refusals.proofs.Ends.{Seeking}
use Rattle.refusals.proofs.end_at.Given as goal

abbrev pub invariant-loop-i : goal.invariant-loop-i
invariant-loop-i l = Seeking l.table l.n l.place l.i

abbrev pub decreases-loop-i : goal.decreases-loop-i
decreases-loop-i l = l.n - l.i
