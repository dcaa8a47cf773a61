use Rattle.shapes.proofs.Parts.{integers-node, integers-wrong, integers-turn, integers-done}
use Rattle.shapes.proofs.Rules.{shapes}
use Rattle.shapes.proofs.all_integers.Goals as goal

pub loop-k-init : goal.loop-k-init
loop-k-init c = search shapes

pub is_integer-requires : goal.is_integer-requires
is_integer-requires c = integers-node c.loop-k.invariant c.in-Some.ensures.steps

pub returns-then-not-is_integer : goal.returns-then-not-is_integer
returns-then-not-is_integer c = integers-wrong c.loop-k.invariant c.in-Some.ensures.steps c.is_integer.ensures c.if-not-is_integer.true

pub loop-k-preserved : goal.loop-k-preserved
loop-k-preserved c = integers-turn c.loop-k.invariant c.in-Some.ensures.steps c.is_integer.ensures c.if-not-is_integer.false

pub returns : goal.returns
returns c = integers-done c.loop-k.invariant c.in-None.ensures.steps
