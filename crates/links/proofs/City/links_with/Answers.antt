use Rattle.links.proofs.Rules.{towns}
use Rattle.links.proofs.City.links_with.Goals as goal

pub returns : goal.returns
returns c = search towns
