use Rattle.records.proofs.Rules.{links}
use Rattle.records.proofs.numbers.Goals as goal

pub loop-n-init : goal.loop-n-init
loop-n-init c = search links

pub loop-n-preserved : goal.loop-n-preserved
loop-n-preserved c = search links

pub returns : goal.returns
returns c = search links
