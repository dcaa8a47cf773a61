use Rattle.records.proofs.Rules.{records}
use Rattle.records.proofs.identity_body.Goals as goal

pub returns : goal.returns
returns c = search records
