-- The chain is the rest of the number.
use Rattle.everywhere.proofs.Hashes.{hashes}
use Rattle.everywhere.proofs.chain_of.Goals as goal

pub returns : goal.returns
returns c = search hashes
