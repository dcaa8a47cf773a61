use Rattle.marks.proofs.Rules.{filling}
use Rattle.marks.proofs.mark_all.Goals as goal

pub loop-k-init : goal.loop-k-init
loop-k-init c = search filling

pub loop-k-preserved : goal.loop-k-preserved
loop-k-preserved c = search (filling, c.mark_row-good.ensures)

pub returns : goal.returns
returns c = search filling
