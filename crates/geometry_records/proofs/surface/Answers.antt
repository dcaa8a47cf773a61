use Rattle.std.proofs.Common.{rules}
use Rattle.geometry_records.proofs.Payloads.{recorded, surface-record}
use Rattle.geometry_records.proofs.surface.Goals as goal

pub returns : goal.returns
returns c = recorded surface-record c.record.ensures (λ p q body end m. search (rules, m))
