-- The least fault is that of the verdict.
use Rattle.examining.proofs.Rules.{refuses}
use Rattle.examining.proofs.refuse.Goals as goal

pub returns : goal.returns
returns c = search refuses
