use Rattle.std.proofs.Common.{arith}
use Rattle.repeats.proofs.Entries.{entry-told}
use Rattle.repeats.proofs.entry_at.Goals as goal

pub returns : goal.returns
returns c = entry-told c.requires c.in_ok-p.ensures c.put.ensures c.value-v.ensures.0 (omega arith) c.in_ok-least.ensures
