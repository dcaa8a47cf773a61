use Rattle.std.proofs.Common.{rules}
use Rattle.records.proofs.Payloads.{identity-recorded}
use Rattle.records.proofs.identity.Goals as goal

pub returns : goal.returns
returns c = identity-recorded c.record.ensures (λ p q body end m. search (rules, m))
