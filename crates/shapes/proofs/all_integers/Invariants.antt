use Rattle.shapes.proofs.Parts.{Integers}
use Rattle.shapes.proofs.all_integers.Given as goal

abbrev pub invariant-loop-k : goal.invariant-loop-k
invariant-loop-k l = Integers l.text l.table l.i l.k-iterator
