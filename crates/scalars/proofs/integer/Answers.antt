use Rattle.scalars.proofs.Rules.{lexes}
use Rattle.scalars.proofs.integer.Goals as goal

pub returns : goal.returns
returns c = search lexes
