use Rattle.std.proofs.Common.{rules}
use Rattle.geometry_records.proofs.Payloads.{recorded}
use Rattle.records.proofs.Payloads.{transform-record}
use Rattle.records.proofs.transform.Goals as goal

pub returns : goal.returns
returns c = recorded transform-record c.record.ensures (λ p q body end m. search (rules, m))
