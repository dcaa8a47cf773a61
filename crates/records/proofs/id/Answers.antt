use Rattle.records.proofs.Rules.{records}
use Rattle.records.proofs.id.Goals as goal

pub returns : goal.returns
returns c = search records
