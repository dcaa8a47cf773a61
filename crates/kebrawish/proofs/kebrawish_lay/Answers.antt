-- The numbers of an answer are small.
use Rattle.kebrawish.proofs.Bounds.{numbers}
use Rattle.kebrawish.proofs.kebrawish_lay.Goals as goal

pub laid-requires : goal.laid-requires
laid-requires c = search numbers
