use Rattle.std.proofs.Common.{arith}
use Rattle.repeats.proofs.Passes.{entering, pass-onward, pass-told}
use Rattle.repeats.proofs.entered.Goals as goal

pub loop-k-init : goal.loop-k-init
loop-k-init c = search entering

pub entered_in-requires : goal.entered_in-requires
entered_in-requires c = search entering

pub loop-k-preserved : goal.loop-k-preserved
loop-k-preserved c = (pass-onward c.loop-k.invariant.0 c.loop-k-test.true c.in_ok-least.ensures, search entering)

pub returns : goal.returns
returns c = search entering

-- the last node, after which the next number of the loop is not below n
pub returns-in_ok-least : goal.returns-in_ok-least
returns-in_ok-least c = pass-told (pass-onward c.loop-k.invariant.0 c.loop-k-test.true c.in_ok-least.ensures) (omega arith)
