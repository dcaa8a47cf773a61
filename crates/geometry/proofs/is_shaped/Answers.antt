use Rattle.geometry.proofs.GeometryLaws.{shape-known, shape-told}
use Rattle.geometry.proofs.is_shaped.Goals as goal

pub returns-then-outline : goal.returns-then-outline
returns-then-outline c = shape-known c.requires.1 c.if-outline.true

pub returns-else-outline : goal.returns-else-outline
returns-else-outline c = shape-told _ c.requires.0 c.depth_of.ensures c.shaped.ensures
