use Rattle.links.proofs.Rules.{linking}
use Rattle.links.proofs.City.open_parents.Goals as goal

pub overflow_add-i : goal.overflow_add-i
overflow_add-i c = search linking

pub open_above-a-requires : goal.open_above-a-requires
open_above-a-requires c = search linking

pub has_parent-requires : goal.has_parent-requires
has_parent-requires c = search linking

pub returns : goal.returns
returns c = search linking
