-- The five numbers of an acceptance.
use Rattle.kebrawish.proofs.Bounds.{numbers}
use Rattle.kebrawish.proofs.accepted.Goals as goal

pub returns : goal.returns
returns c = search numbers
