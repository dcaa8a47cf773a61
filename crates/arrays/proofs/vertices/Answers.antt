use Rattle.arrays.specs.Laws.{laying-item, laying-turn, laying-done}
use Rattle.arrays.proofs.Rules.{arrays}
use Rattle.arrays.proofs.vertices.Goals as goal

pub loop-k-init : goal.loop-k-init
loop-k-init c = search arrays

pub vertex-o-requires : goal.vertex-o-requires
vertex-o-requires c = laying-item c.loop-k.invariant c.in-Some.ensures.steps

pub loop-k-preserved : goal.loop-k-preserved
loop-k-preserved c = laying-turn c.loop-k.invariant c.in-Some.ensures.steps c.vertex-o.ensures

pub returns : goal.returns
returns c = laying-done c.loop-k.invariant c.in-None.ensures.steps.0
