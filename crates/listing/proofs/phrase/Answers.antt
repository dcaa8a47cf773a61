-- The words, and then the number.
use Rattle.listing.proofs.Rules.{lists}
use Rattle.listing.proofs.phrase.Goals as goal

pub returns : goal.returns
returns c = search lists
