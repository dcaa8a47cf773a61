use Rattle.std.proofs.Common.{arith}
use Rattle.arrays.specs.Laws.{laying-item, laying-turn}
use Rattle.arrays.proofs.Nodes.{values-leaf, values-done}
use Rattle.arrays.proofs.Rules.{arrays}
use Rattle.arrays.proofs.+values.Goals as goal

pub value-requires : goal.value-requires
value-requires t c = search arrays

pub returns-then-depth-eq0 : goal.returns-then-depth-eq0
returns-then-depth-eq0 t c = search values-leaf

pub loop-k-init : goal.loop-k-init
loop-k-init t c = search arrays

pub values-o-requires : goal.values-o-requires
values-o-requires t c = (omega arith, laying-item c.loop-k.invariant c.in-Some.ensures.steps)

pub loop-k-preserved : goal.loop-k-preserved
loop-k-preserved t c = laying-turn c.loop-k.invariant c.in-Some.ensures.steps c.values-o.ensures

pub returns : goal.returns
returns t c = search (values-done, c.in-None.ensures.steps.0)
