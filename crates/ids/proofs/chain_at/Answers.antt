use Rattle.ids.proofs.Chains.{chains}
use Rattle.ids.proofs.chain_at.Goals as goal

pub returns : goal.returns
returns c = search chains
