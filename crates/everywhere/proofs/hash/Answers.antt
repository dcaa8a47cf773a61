-- The turns of the loop.
use Rattle.everywhere.proofs.Hashes.{hashes}
use Rattle.everywhere.proofs.hash.Goals as goal

pub loop-i-init : goal.loop-i-init
loop-i-init c = search hashes

pub returns-then-escape : goal.returns-then-escape
returns-then-escape c = search hashes

pub loop-i-preserved : goal.loop-i-preserved
loop-i-preserved c = search hashes

pub returns : goal.returns
returns c = search hashes
