use Rattle.std.proofs.Common.{refl}
use Rattle.grid.specs.Grid.{bit, holds}
use Rattle.grid.proofs.has.Goals as goal

pub returns : goal.returns
unfolding bit holds
returns c = refl
