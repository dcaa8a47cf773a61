use Rattle.std.proofs.Common.{rules}
use Rattle.geometry_records.proofs.Payloads.{recorded}
use Rattle.records.proofs.Payloads.{vertices-record}
use Rattle.records.proofs.vertices.Goals as goal

pub returns : goal.returns
returns c = recorded vertices-record c.record.ensures (λ p q body end m. search (rules, m))
