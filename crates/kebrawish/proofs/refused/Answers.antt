-- The five numbers of a refusal.
use Rattle.kebrawish.proofs.Bounds.{numbers}
use Rattle.kebrawish.proofs.refused.Goals as goal

pub returns : goal.returns
returns c = search numbers
