use Rattle.std.proofs.Common.{rules}
use Rattle.records.proofs.LinkRows.{link-recorded}
use Rattle.records.proofs.link_record.Goals as goal

pub returns : goal.returns
returns c = link-recorded _ c.record.ensures (λ p q body end m. search (rules, m))
