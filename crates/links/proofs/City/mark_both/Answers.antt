use Rattle.utf8.specs.Ascii.{ascii}
use Rattle.links.proofs.Rules.{towns}
use Rattle.links.proofs.City.mark_both.Goals as goal

pub mark_all-a-requires : goal.mark_all-a-requires
unfolding ascii
mark_all-a-requires c = search towns

pub mark_all-requires : goal.mark_all-requires
unfolding ascii
mark_all-requires c = search towns

pub returns : goal.returns
unfolding ascii
returns c = search towns
