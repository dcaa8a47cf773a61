use Rattle.links.proofs.Rules.{opens}
use Rattle.links.proofs.open_member.Goals as goal

pub returns-in_default : goal.returns-in_default
returns-in_default c = search opens

pub open_list-requires : goal.open_list-requires
open_list-requires c = search opens

pub returns : goal.returns
returns c = search opens
