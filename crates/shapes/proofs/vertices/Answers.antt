use Rattle.shapes.specs.Checks.{array_kind, each_element}
use Rattle.shapes.specs.Shapes.{vertex}
use Rattle.shapes.specs.Laws.{gives_then, passing-node, passing-turn, passing-done}
use Rattle.shapes.proofs.Rules.{shapes}
use Rattle.shapes.proofs.vertices.Goals as goal

pub loop-k-init : goal.loop-k-init
loop-k-init c = search shapes

pub vertex-least-requires : goal.vertex-least-requires
vertex-least-requires c = passing-node c.loop-k.invariant c.in-Some.ensures.steps

pub loop-k-preserved : goal.loop-k-preserved
loop-k-preserved c = passing-turn c.loop-k.invariant c.in-Some.ensures.steps c.vertex-least.ensures

pub returns : goal.returns
returns c = gives_then _ _ array_kind (each_element vertex) c.array-least.ensures (passing-done c.loop-k.invariant c.in-None.ensures.steps)
