use Rattle.geometry.proofs.Lines.{lines}
use Rattle.schema.proofs.Filling.{objects-told, members_begin, members_node, members_turn, members_done}
use Rattle.schema.proofs.city_objects_at.Goals as goal

pub loop-k-init : goal.loop-k-init
loop-k-init c = search (lines, members_begin)

pub city_object-least-requires : goal.city_object-least-requires
city_object-least-requires c = members_node c.loop-k.invariant c.in-Some.ensures.steps

pub loop-k-preserved : goal.loop-k-preserved
loop-k-preserved c = members_turn c.loop-k.invariant c.in-Some.ensures.steps c.city_object-least.ensures

pub returns : goal.returns
returns c = objects-told _ c.object-a.ensures c.requires.1 c.too_many-least.ensures (members_done c.loop-k.invariant c.in-None.ensures.steps)
