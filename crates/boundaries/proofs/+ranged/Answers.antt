-- `boundaries::ranged` meets its contract.
use Rattle.shapes.specs.Laws.{passing-node, passing-turn, passing-done}
use Rattle.boundaries.proofs.Depths.{ranged-deep}
use Rattle.boundaries.proofs.Rules.{nested}
use Rattle.boundaries.proofs.+ranged.Goals as goal

pub loop-k-init : goal.loop-k-init
loop-k-init t c = search nested

pub ranged-least-requires : goal.ranged-least-requires
ranged-least-requires t c = (search nested, passing-node c.loop-k.invariant c.in-Some.ensures.steps)

pub loop-k-preserved : goal.loop-k-preserved
loop-k-preserved t c = passing-turn c.loop-k.invariant c.in-Some.ensures.steps c.ranged-least.ensures

pub returns : goal.returns
returns t c = ranged-deep _ _ _ c.if-depth-eq0.false (passing-done c.loop-k.invariant c.in-None.ensures.steps)
