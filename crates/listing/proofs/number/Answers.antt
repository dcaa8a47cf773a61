-- The digits are those that are spelled.
use Rattle.listing.proofs.Rules.{lists}
use Rattle.listing.proofs.number.Goals as goal

pub returns : goal.returns
returns c = search lists
