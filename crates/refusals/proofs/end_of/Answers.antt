-- The fault's place, or the end that belongs to it.
use Rattle.refusals.proofs.Ends.{ended}
use Rattle.refusals.proofs.end_of.Goals as goal

pub returns-then-fault-lt6 : goal.returns-then-fault-lt6
returns-then-fault-lt6 c = search ended

pub returns : goal.returns
returns c = search ended
