use Rattle.rows.proofs.Lists.{Listing}
use Rattle.rows.proofs.fill_list.Given as goal

abbrev pub invariant-loop-k : goal.invariant-loop-k
invariant-loop-k l = Listing l.d.text.now l.d.table.now l.d.offsets.now l.i l.k-iterator l.initial.rows l.at l.rows l.end
