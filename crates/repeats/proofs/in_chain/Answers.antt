use Rattle.repeats.proofs.Links.{follows}
use Rattle.repeats.proofs.in_chain.Goals as goal

pub loop-init : goal.loop-init
loop-init c = search follows

pub returns-then-e-eq0 : goal.returns-then-e-eq0
returns-then-e-eq0 c = search follows

pub same_names-requires : goal.same_names-requires
same_names-requires c = search follows

pub returns-then-same_names : goal.returns-then-same_names
returns-then-same_names c = search follows

pub offset_bounds-links-e : goal.offset_bounds-links-e
offset_bounds-links-e c = search follows

pub bounds-links-e : goal.bounds-links-e
bounds-links-e c = search follows

pub loop-preserved : goal.loop-preserved
loop-preserved c = search follows

pub returns-then-e-eq0-2 : goal.returns-then-e-eq0-2
returns-then-e-eq0-2 c = search follows
