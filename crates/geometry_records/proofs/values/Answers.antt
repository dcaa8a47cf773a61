use Rattle.std.proofs.Common.{rules}
use Rattle.geometry_records.proofs.Payloads.{recorded, values-record}
use Rattle.geometry_records.proofs.Rules.{geometries}
use Rattle.geometry_records.proofs.values.Goals as goal

pub record-requires-clause-callable : goal.record-requires-clause-callable
record-requires-clause-callable c = search geometries

pub returns : goal.returns
returns c = recorded (values-record _) c.record.ensures (λ p q body end m. search (rules, m))
