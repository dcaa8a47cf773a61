-- `boundaries::boundary` meets its contract.
use Rattle.std.proofs.Common.{arith}
use Rattle.std.proofs.lemmas.Bool.{not_from_false, not_from_true}
use Rattle.shapes.specs.Laws.{passing-node, passing-turn, passing-done}
use Rattle.boundaries.proofs.Outline.{boundary-leaf, boundary-no, boundary-yes}
use Rattle.boundaries.proofs.Rules.{nested}
use Rattle.boundaries.proofs.+boundary.Goals as goal

pub returns-then-not-is_array : goal.returns-then-not-is_array
returns-then-not-is_array t c = boundary-no _ _ _ c.if-depth-eq0.false c.is_array.ensures (not_from_false _ c.if-not-is_array.true) c.unless.ensures

pub loop-k-init : goal.loop-k-init
loop-k-init t c = search nested

pub boundary-least-requires : goal.boundary-least-requires
boundary-least-requires t c = (search nested, passing-node c.loop-k.invariant c.in-Some.ensures.steps)

pub leaf-least-requires : goal.leaf-least-requires
leaf-least-requires t c = passing-node c.loop-k.invariant c.in-Some.ensures.steps

-- an element, at the last level or above it
pub loop-k-preserved-then-depth-eq1 : goal.loop-k-preserved-then-depth-eq1
loop-k-preserved-then-depth-eq1 t c =
    passing-turn c.loop-k.invariant c.in-Some.ensures.steps (boundary-leaf _ _ _ (omega (arith, c.if-depth-eq1.true)) c.leaf-least.ensures)

pub loop-k-preserved : goal.loop-k-preserved
loop-k-preserved t c = passing-turn c.loop-k.invariant c.in-Some.ensures.steps c.boundary-least.ensures

pub returns : goal.returns
returns t c =
    boundary-yes _ _ _ c.if-depth-eq0.false c.is_array.ensures (not_from_true _ c.if-not-is_array.false) (passing-done c.loop-k.invariant c.in-None.ensures.steps)
