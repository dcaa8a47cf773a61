-- One byte more, and all of them.
use Rattle.std.proofs.Common.{arith}
use Rattle.utf8.proofs.Places.{gather_none, gather-more, gather-all, next-byte, next-length}
use Rattle.utf8.proofs.gathered.Goals as goal

pub loop-b-init : goal.loop-b-init
loop-b-init c = gather_none _ _ _

pub loop-b-preserved : goal.loop-b-preserved
loop-b-preserved c =
    gather-more _ _ _ _ _ c.loop-b.invariant
    (next-byte c.args.text.now c.args.at c.loop-b.b-index (omega (arith, next-length c.args.text.now c.args.at c.requires, c.loop-b-test.true)))

pub returns : goal.returns
returns c = gather-all _ _ _ _ c.loop-b.invariant (omega (arith, next-length c.args.text.now c.args.at c.requires, c.loop-b-test.false))
