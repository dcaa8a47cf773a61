use Rattle.geometry.proofs.GeometryLaws.{boundary-none, boundary-is}
use Rattle.geometry.proofs.boundary_at.Goals as goal

pub returns-then-code-eq0 : goal.returns-then-code-eq0
returns-then-code-eq0 c = boundary-none _ c.array-kind.ensures c.if-code-eq0.true

pub returns : goal.returns
returns c = boundary-is _ c.array-kind.ensures c.if-code-eq0.false c.depth_of.ensures c.boundary.ensures
