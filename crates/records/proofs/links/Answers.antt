use Rattle.records.proofs.Rules.{links}
use Rattle.records.proofs.links.Goals as goal

pub returns : goal.returns
returns c = search links
