use Rattle.grid.proofs.Sets.{puts-set}
use Rattle.grid.proofs.put.Goals as goal

pub returns : goal.returns
returns c = puts-set _ _ _ c.requires.0 c.requires.1
