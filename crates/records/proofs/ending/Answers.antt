use Rattle.std.proofs.Common.{rules}
use Rattle.writer.specs.Laws.{recorded_writes}
use Rattle.records.proofs.LinkRows.{nothing_as}
use Rattle.records.proofs.ending.Goals as goal

pub returns : goal.returns
returns c = recorded_writes c.record.ensures (λ p q body end m. search (nothing_as, rules, m))
