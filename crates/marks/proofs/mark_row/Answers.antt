use Rattle.marks.proofs.Rules.{marking}
use Rattle.marks.proofs.mark_row.Goals as goal

pub loop-number-init : goal.loop-number-init
loop-number-init c = search marking

pub loop-number-preserved : goal.loop-number-preserved
loop-number-preserved c = search (marking, c.mark-good.ensures)

pub returns : goal.returns
returns c = search marking
