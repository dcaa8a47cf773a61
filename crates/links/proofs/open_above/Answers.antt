use Rattle.utf8.specs.Ascii.{ascii}
use Rattle.links.proofs.Rules.{linking}
use Rattle.links.proofs.open_above.Goals as goal

pub returns-then-answered : goal.returns-then-answered
returns-then-answered c = search linking

pub open_member-requires : goal.open_member-requires
unfolding ascii
open_member-requires c = search linking

pub returns : goal.returns
unfolding ascii
returns c = search linking
