use Rattle.arrays.specs.Laws.{laying-item, laying-turn}
use Rattle.arrays.proofs.Nodes.{vertex-done}
use Rattle.arrays.proofs.Rules.{arrays}
use Rattle.arrays.proofs.vertex.Goals as goal

pub loop-k-init : goal.loop-k-init
loop-k-init c = search arrays

pub coordinate-o-requires : goal.coordinate-o-requires
coordinate-o-requires c = laying-item c.loop-k.invariant c.in-Some.ensures.steps

pub loop-k-preserved : goal.loop-k-preserved
loop-k-preserved c = laying-turn c.loop-k.invariant c.in-Some.ensures.steps c.coordinate-o.ensures

pub returns : goal.returns
returns c = vertex-done c.requires c.loop-k.invariant c.in-None.ensures.steps.0
