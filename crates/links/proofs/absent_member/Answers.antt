use Rattle.links.proofs.Rules.{absents}
use Rattle.links.proofs.absent_member.Goals as goal

pub returns-in_default : goal.returns-in_default
returns-in_default c = search absents

pub absent_list-requires : goal.absent_list-requires
absent_list-requires c = search absents

pub returns : goal.returns
returns c = search absents
