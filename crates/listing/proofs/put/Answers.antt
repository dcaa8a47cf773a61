-- The bytes are copied if they fit.
use Rattle.std.proofs.Common.{arith}
use Rattle.listing.proofs.Rules.{put_all}
use Rattle.listing.proofs.put.Goals as goal

pub returns-then-end-out : goal.returns-then-end-out
returns-then-end-out c = put_all _ _ c.skip-end.ensures c.if-end-out.true (omega arith) c.copy_from_slice.ensures.after
