use Rattle.geometry.proofs.GeometryLaws.{over_nothing, over-found, over-uncoded, overlaid}
use Rattle.geometry.proofs.over_outline.Goals as goal

pub over_boundary-requires : goal.over_boundary-requires
over_boundary-requires c = overlaid c.requires.0 c.requires.1 c.in-Some.is c.if-outline-ne0.true

pub returns-in-Some : goal.returns-in-Some
returns-in-Some c = over-found _ _ c.in-Some.is c.over_boundary.ensures

pub returns-in_default : goal.returns-in_default
returns-in_default c = over-uncoded _ _ c.in-Some.is c.if-outline-ne0.false

pub returns-in_default-2 : goal.returns-in_default-2
returns-in_default-2 c = over_nothing _ _ c.in_default.is
