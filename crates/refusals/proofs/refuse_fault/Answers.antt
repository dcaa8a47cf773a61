-- The rule's number, the place and the end are the fault's.
use Rattle.refusals.proofs.Ends.{ended}
use Rattle.refusals.proofs.refuse_fault.Goals as goal

pub returns : goal.returns
returns c = search ended
