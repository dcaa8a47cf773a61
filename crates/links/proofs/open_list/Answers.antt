use Rattle.std.proofs.Common.{inl, inr, arith}
use Rattle.links.proofs.Opens.{opening-node, opening-turn, opening-done}
use Rattle.links.proofs.Rules.{opening}
use Rattle.links.proofs.open_list.Goals as goal

pub loop-k-init : goal.loop-k-init
loop-k-init c = rw c.into_iter-k-iterator.ensures.into_iter_gives (rw (c.zip-k-items.ensures.first, c.zip-k-items.ensures.second) (search opening))

pub open-least-requires : goal.open-least-requires
open-least-requires c = (opening-node c.loop-k.invariant c.in-Some.ensures.steps.0, omega arith, c.requires.1, c.requires.2)

pub loop-k-preserved : goal.loop-k-preserved
loop-k-preserved c = opening-turn c.loop-k.invariant c.in-Some.ensures.steps.0 c.in-Some.ensures.steps.1 (rw c.from.ensures at c.open-least.ensures)

pub returns : goal.returns
returns c = opening-done c.loop-k.invariant (elim c.in-None.ensures.steps [ inl e ↦ inl e.1.0 | inr e ↦ inr e.1.0 ])
