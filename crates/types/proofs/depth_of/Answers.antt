-- The table is that of the definition.
use Rattle.words.specs.Words.{depth}
use Rattle.types.proofs.depth_of.Goals as goal

pub returns : goal.returns
unfolding depth
returns c = c.entry.ensures
