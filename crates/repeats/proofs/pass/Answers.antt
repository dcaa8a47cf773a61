use Rattle.std.proofs.Common.{arith}
use Rattle.everywhere.proofs.Any.{any-onward}
use Rattle.repeats.proofs.Passes.{passing, pass-here, pass-onward}
use Rattle.repeats.proofs.pass.Goals as goal

pub loop-k-init : goal.loop-k-init
loop-k-init c = search passing

pub repeated_in-requires : goal.repeated_in-requires
repeated_in-requires c = search passing

pub loop-k-preserved : goal.loop-k-preserved
loop-k-preserved c = (pass-onward c.loop-k.invariant.0 c.loop-k-test.true c.in_ok-least.ensures, search passing)

pub returns : goal.returns
returns c = search passing

pub overflow_add-k : goal.overflow_add-k
overflow_add-k c = any-onward (pass-here c.loop-k.invariant.0 c.loop-k-test.true) (omega arith)
