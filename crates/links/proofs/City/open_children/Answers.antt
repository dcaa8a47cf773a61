use Rattle.links.proofs.Rules.{linking}
use Rattle.links.proofs.City.open_children.Goals as goal

pub returns-then-answered : goal.returns-then-answered
returns-then-answered c = search linking

pub overflow_add-own : goal.overflow_add-own
overflow_add-own c = search linking

pub open_kin-requires : goal.open_kin-requires
open_kin-requires c = search linking

pub returns : goal.returns
returns c = search linking
