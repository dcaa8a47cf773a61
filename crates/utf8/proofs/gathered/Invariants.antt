-- None of the bytes so far is above the byte that is gathered.
use Rattle.utf8.specs.Says.{Under}
use Rattle.utf8.proofs.gathered.Given as goal

abbrev pub invariant-loop-b : goal.invariant-loop-b
invariant-loop-b l = Under l.text l.at l.b-index l.all
