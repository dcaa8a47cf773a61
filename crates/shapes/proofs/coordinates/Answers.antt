use Rattle.shapes.specs.Laws.{passing-node, passing-turn, passing-done}
use Rattle.shapes.proofs.Rules.{shapes}
use Rattle.shapes.proofs.coordinates.Goals as goal

pub loop-k-init : goal.loop-k-init
loop-k-init c = search shapes

pub coordinate-least-requires : goal.coordinate-least-requires
coordinate-least-requires c = passing-node c.loop-k.invariant c.in-Some.ensures.steps

pub loop-k-preserved : goal.loop-k-preserved
loop-k-preserved c = passing-turn c.loop-k.invariant c.in-Some.ensures.steps c.coordinate-least.ensures

pub returns : goal.returns
returns c = passing-done c.loop-k.invariant c.in-None.ensures.steps
