-- Two phrases and a line feed.
use Rattle.listing.specs.Line.{line_of}
use Rattle.listing.proofs.Rules.{lists}
use Rattle.listing.proofs.laid_line.Goals as goal

pub returns : goal.returns
unfolding line_of
returns c = search lists
