use Rattle.ids.proofs.Chains.{chains}
use Rattle.ids.proofs.ChainWords.fill.Goals as goal

pub loop-k-init : goal.loop-k-init
loop-k-init c = search chains

pub put-requires : goal.put-requires
put-requires c = search chains

pub loop-k-preserved : goal.loop-k-preserved
loop-k-preserved c = search chains

pub returns : goal.returns
returns c = search chains
