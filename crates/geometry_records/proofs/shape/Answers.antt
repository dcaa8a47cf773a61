use Rattle.std.proofs.Common.{rules}
use Rattle.geometry_records.proofs.Payloads.{recorded, shape-record}
use Rattle.geometry_records.proofs.shape.Goals as goal

pub returns : goal.returns
returns c = recorded (shape-record _) c.record.ensures (λ p q body end m. search (rules, m))
