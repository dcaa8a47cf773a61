use Rattle.shapes.specs.Checks.{number_kind}
use Rattle.shapes.specs.Shapes.{pair_range}
use Rattle.shapes.specs.Laws.{gives_then, each_both, passing-node, passing-turn, passing-done}
use Rattle.shapes.proofs.Rules.{shapes}
use Rattle.shapes.proofs.entries.Goals as goal

pub loop-k-init : goal.loop-k-init
loop-k-init c = search shapes

pub number-least-requires : goal.number-least-requires
number-least-requires c = passing-node c.loop-k.invariant c.in-Some.ensures.steps

pub pair_range-least-requires : goal.pair_range-least-requires
pair_range-least-requires c = passing-node c.loop-k.invariant c.in-Some.ensures.steps

pub loop-k-preserved : goal.loop-k-preserved
loop-k-preserved c =
    passing-turn c.loop-k.invariant c.in-Some.ensures.steps (gives_then _ _ number_kind pair_range c.number-least.ensures c.pair_range-least.ensures)

pub returns : goal.returns
returns c = each_both _ number_kind pair_range (passing-done c.loop-k.invariant c.in-None.ensures.steps)
