use Rattle.records.proofs.Rules.{sheets}
use Rattle.records.proofs.frame.Goals as goal

pub returns : goal.returns
returns c = search sheets
