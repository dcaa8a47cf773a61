use Rattle.std.proofs.Common.{inl, inr}
use Rattle.links.proofs.Absents.{listing-node, listing-turn, listing-done}
use Rattle.links.proofs.Rules.{listing}
use Rattle.links.proofs.absent_list.Goals as goal

pub loop-k-init : goal.loop-k-init
loop-k-init c = rw c.into_iter-k-iterator.ensures.into_iter_gives (rw (c.zip-k-items.ensures.first, c.zip-k-items.ensures.second) (search listing))

pub absent-least-requires : goal.absent-least-requires
absent-least-requires c = (listing-node c.loop-k.invariant c.in-Some.ensures.steps.0, search listing, c.requires.1)

pub loop-k-preserved : goal.loop-k-preserved
loop-k-preserved c = listing-turn c.loop-k.invariant c.in-Some.ensures.steps.0 c.in-Some.ensures.steps.1 (rw c.from.ensures at c.absent-least.ensures)

pub returns : goal.returns
returns c = listing-done c.loop-k.invariant (elim c.in-None.ensures.steps [ inl e ↦ inl e.1.0 | inr e ↦ inr e.1.0 ])
