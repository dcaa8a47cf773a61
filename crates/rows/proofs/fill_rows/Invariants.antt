use Rattle.rows.proofs.Tables.{Filling}
use Rattle.rows.proofs.fill_rows.Given as goal

abbrev pub invariant-loop-k : goal.invariant-loop-k
invariant-loop-k l = Filling l.d.text.now l.d.table.now l.d.offsets.now l.name l.initial.rows l.rows l.k l.at
