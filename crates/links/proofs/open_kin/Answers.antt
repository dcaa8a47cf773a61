use Rattle.utf8.specs.Ascii.{ascii}
use Rattle.links.proofs.Rules.{opens}
use Rattle.links.proofs.open_kin.Goals as goal

pub returns-then-is_group : goal.returns-then-is_group
returns-then-is_group c = search opens

pub open_member-requires : goal.open_member-requires
unfolding ascii
open_member-requires c = search opens

pub returns : goal.returns
unfolding ascii
returns c = search opens
