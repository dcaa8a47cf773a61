use Rattle.schema.proofs.Filling.{Filling}
use Rattle.schema.proofs.fill_index.Given as goal

abbrev pub invariant-loop-k : goal.invariant-loop-k
invariant-loop-k l = Filling l.text l.table l.i l.k-iterator l.index
