use Rattle.links.proofs.Rules.{sweeping}
use Rattle.links.proofs.City.absent_object.Goals as goal

pub overflow_add-own : goal.overflow_add-own
overflow_add-own c = search sweeping

pub absent_member-requires : goal.absent_member-requires
absent_member-requires c = search sweeping

pub returns : goal.returns
returns c = search sweeping
