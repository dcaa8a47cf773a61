-- The table is that of the definition.
use Rattle.words.specs.Words.{values_depth}
use Rattle.types.proofs.values_depth_of.Goals as goal

pub returns : goal.returns
unfolding values_depth
returns c = c.entry.ensures
