use Rattle.geometry.proofs.GeometryLaws.{over-unshaped, over-shaped}
use Rattle.geometry.proofs.over_boundary.Goals as goal

pub returns-then-not-is_shaped : goal.returns-then-not-is_shaped
returns-then-not-is_shaped c =
    over-unshaped _ _ c.requires.coded c.values_depth_of-depth.ensures c.ranged-range.ensures c.is_shaped.ensures c.if-not-is_shaped.true

pub returns : goal.returns
returns c =
    over-shaped _ _ c.requires.coded c.values_depth_of-depth.ensures c.ranged-range.ensures c.is_shaped.ensures c.if-not-is_shaped.false
    c.matches.ensures
