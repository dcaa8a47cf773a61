use Rattle.marks.proofs.Rules.{filling}
use Rattle.marks.proofs.row.Goals as goal

pub returns : goal.returns
returns c = search filling
