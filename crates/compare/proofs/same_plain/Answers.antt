-- What the first byte tells that is not alike.
use Rattle.std.proofs.Common.{arith}
use Rattle.compare.proofs.Scans.{prefix-on}
use Rattle.compare.proofs.Rules.{scans}
use Rattle.compare.proofs.same_plain.Goals as goal

pub returns-then-a-b : goal.returns-then-a-b
returns-then-a-b c = search scans

pub loop-k-preserved : goal.loop-k-preserved
loop-k-preserved c = prefix-on c.loop-k.invariant (omega arith) (omega arith) (search scans) c.if-a-b.false

pub returns-then-one-other : goal.returns-then-one-other
returns-then-one-other c = search scans
