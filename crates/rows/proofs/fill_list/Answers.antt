use Rattle.rows.proofs.Lists.{listing-node, listing-inside, listing-scaled, listing-onward, listing-turn, listing-done}
use Rattle.rows.proofs.Rules.{listing}
use Rattle.rows.proofs.fill_list.Goals as goal

pub elements-k-items-requires : goal.elements-k-items-requires
elements-k-items-requires c = search listing

pub loop-k-init : goal.loop-k-init
loop-k-init c = search listing

pub link_number-requires : goal.link_number-requires
link_number-requires c = (search listing, listing-node c.loop-k.invariant c.in-Some.ensures.steps)

pub offset_bounds-rows-end : goal.offset_bounds-rows-end
offset_bounds-rows-end c = listing-scaled c.loop-k.invariant c.in-Some.ensures.steps

pub bounds-rows-end : goal.bounds-rows-end
bounds-rows-end c = listing-inside c.loop-k.invariant c.in-Some.ensures.steps

pub overflow_add-end : goal.overflow_add-end
overflow_add-end c = listing-onward c.loop-k.invariant c.in-Some.ensures.steps

pub loop-k-preserved : goal.loop-k-preserved
loop-k-preserved c = listing-turn c.loop-k.invariant c.in-Some.ensures.steps (rw c.unwrap_or-number.ensures c.link_number.ensures)

pub returns : goal.returns
returns c = listing-done c.loop-k.invariant c.in-None.ensures.steps
