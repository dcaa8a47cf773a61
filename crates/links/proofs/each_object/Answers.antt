use Rattle.std.proofs.Common.{arith}
use Rattle.links.proofs.Sweeps.{check-begin, check-turn, check-done}
use Rattle.links.proofs.each_object.Goals as goal

pub loop-k-init : goal.loop-k-init
loop-k-init g c = check-begin c.args.best c.ranges.best.fits

pub loop-k-preserved : goal.loop-k-preserved
loop-k-preserved g c = check-turn c.loop-k.invariant c.loop-k-test.true c.check-least.ensures (omega arith)

pub returns : goal.returns
returns g c = check-done c.loop-k.invariant c.loop-k-test.false
