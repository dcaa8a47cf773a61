-- `boundaries::shaped` meets its contract.
use Rattle.std.proofs.lemmas.Bool.{not_from_false, not_from_true}
use Rattle.shapes.specs.Laws.{passing-node, passing-turn, passing-done}
use Rattle.boundaries.proofs.Depths.{shaped-leaf, shaped-no, shaped-yes}
use Rattle.boundaries.proofs.Rules.{nested}
use Rattle.boundaries.proofs.+shaped.Goals as goal

pub returns-then-depth-eq0 : goal.returns-then-depth-eq0
returns-then-depth-eq0 t c = shaped-leaf _ _ c.if-depth-eq0.true c.is_integer.ensures c.unless.ensures

pub returns-then-not-is_array : goal.returns-then-not-is_array
returns-then-not-is_array t c = shaped-no _ _ c.if-depth-eq0.false c.is_array.ensures (not_from_false _ c.if-not-is_array.true) c.unless-then-not-is_array.ensures

pub loop-k-init : goal.loop-k-init
loop-k-init t c = search nested

pub shaped-least-requires : goal.shaped-least-requires
shaped-least-requires t c = (search nested, passing-node c.loop-k.invariant c.in-Some.ensures.steps)

pub loop-k-preserved : goal.loop-k-preserved
loop-k-preserved t c = passing-turn c.loop-k.invariant c.in-Some.ensures.steps c.shaped-least.ensures

pub returns : goal.returns
returns t c =
    shaped-yes _ _ c.if-depth-eq0.false c.is_array.ensures (not_from_true _ c.if-not-is_array.false) (passing-done c.loop-k.invariant c.in-None.ensures.steps)
