use Rattle.records.proofs.LinkRows.{Numbering}
use Rattle.records.proofs.numbers.Given as goal

abbrev pub invariant-loop-n : goal.invariant-loop-n
invariant-loop-n l = Numbering l.row l.n-index l.initial.sheet l.sheet l.at l.o
