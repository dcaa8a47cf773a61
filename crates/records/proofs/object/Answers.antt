use Rattle.records.proofs.Rules.{whole}
use Rattle.records.proofs.object.Goals as goal

pub returns : goal.returns
returns c = search whole
