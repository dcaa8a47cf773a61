-- The line of either answer.
use Rattle.listing.proofs.Rules.{lists}
use Rattle.listing.proofs.line.Goals as goal

pub returns-in-Ok : goal.returns-in-Ok
returns-in-Ok c = search lists

pub returns-in-Err : goal.returns-in-Err
returns-in-Err c = search lists
