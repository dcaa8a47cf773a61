-- The numbers of a verdict are small.
use Rattle.kebrawish.proofs.Bounds.{numbers}
use Rattle.kebrawish.proofs.kebrawish_judge.Goals as goal

pub judged-requires : goal.judged-requires
judged-requires c = search numbers
