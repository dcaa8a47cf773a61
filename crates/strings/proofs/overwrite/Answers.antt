-- The turns of the loop.
use Rattle.std.proofs.Common.{rules}
use Rattle.strings.proofs.Loops.{over-start, over-more, over-end}
use Rattle.strings.proofs.overwrite.Goals as goal

pub loop-k-init : goal.loop-k-init
loop-k-init c = over-start _ _ c.requires

pub loop-k-preserved : goal.loop-k-preserved
loop-k-preserved c = over-more c.loop-k.invariant (search rules)

pub returns : goal.returns
returns c = over-end c.loop-k.invariant (search rules)
