use Rattle.marks.proofs.Numbers.{Marking}
use Rattle.marks.proofs.mark_row.Given as goal

abbrev pub invariant-loop-number : goal.invariant-loop-number
invariant-loop-number l = Marking l.count l.row l.numbers l.initial.set l.set l.number-index l.good
