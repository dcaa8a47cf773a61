use Rattle.ids.proofs.Rules.{ids}
use Rattle.ids.proofs.same.Goals as goal

pub returns : goal.returns
returns c = search ids
