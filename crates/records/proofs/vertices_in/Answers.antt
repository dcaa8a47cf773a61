use Rattle.utf8.specs.Ascii.{ascii}
use Rattle.records.proofs.Rules.{sheets}
use Rattle.records.proofs.vertices_in.Goals as goal

pub the_member-i-requires : goal.the_member-i-requires
unfolding ascii
the_member-i-requires c = search sheets

pub vertices-requires : goal.vertices-requires
unfolding ascii
vertices-requires c = search sheets

pub returns : goal.returns
unfolding ascii
returns c = search sheets
