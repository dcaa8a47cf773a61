-- The turns of the loop.
use Rattle.std.proofs.Common.{ap}
use Rattle.strings.specs.Ahead.{ahead}
use Rattle.everywhere.proofs.Hashes.{hashing-begin, hashing-end, hashing-more}
use Rattle.everywhere.proofs.hash_ahead.Goals as goal

pub loop-b-init : goal.loop-b-init
loop-b-init c = hashing-begin c.args.seed _ (ap ahead c.into_iter-b-iterator.ensures.into_iter_gives) c.requires

pub loop-b-preserved : goal.loop-b-preserved
loop-b-preserved c = hashing-more c.loop-b.invariant c.in-Some.b _ _ c.in-Some.ensures.steps c.mixed-h.ensures.0 c.mixed-h.ensures.1

pub returns : goal.returns
returns c = hashing-end c.loop-b.invariant c.in-None.ensures.steps.0
