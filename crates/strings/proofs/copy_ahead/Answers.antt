-- The turns of a copy.
use Rattle.strings.proofs.Loops.{writing_more}
use Rattle.strings.proofs.Rules.{copies}
use Rattle.strings.proofs.copy_ahead.Goals as goal

pub loop-b-init : goal.loop-b-init
loop-b-init c = search copies

pub bounds-out-o : goal.bounds-out-o
bounds-out-o c = search copies

pub loop-b-preserved : goal.loop-b-preserved
loop-b-preserved c = writing_more c.loop-b.invariant c.in-Some.b _ c.in-Some.ensures.steps

pub returns : goal.returns
returns c = search copies
