use Rattle.geometry_records.proofs.Members.{there-at, there-is}
use Rattle.geometry_records.proofs.the_member.Goals as goal

pub unwrap-requires : goal.unwrap-requires
unwrap-requires c = there-is c.member.ensures c.requires

pub returns : goal.returns
returns c = there-at c.member.ensures c.unwrap.ensures
