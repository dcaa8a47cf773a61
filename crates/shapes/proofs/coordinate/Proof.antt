-- `shapes::coordinate` meets its contract.
use Rattle.std.proofs.lemmas.Bool.{not_from_false}
use Rattle.shapes.proofs.Parts.{coordinate-none, coordinate-is}
use Rattle.shapes.proofs.Rules.{shapes}
use Rattle.shapes.proofs.coordinate.Statement.{statement}
use Rattle.shapes.proofs.coordinate.Tie as tie

returns : tie.Need-returns-then-not-is_number
returns c = coordinate-none _ c.is_number.ensures (not_from_false _ c.if-not-is_number.true)

returns-2 : tie.Need-returns
returns-2 c = coordinate-is _ (search shapes) c.start.ensures c.end.ensures c.fits_32.ensures c.unless.ensures

pub coordinate_spec : {M : Type 1} → statement M
coordinate_spec = tie.close (tie.spec (λ c κs. search shapes) returns (λ c κs. search shapes) (λ c κs. search shapes) (λ c κs. search shapes) (λ c κs. search shapes) returns-2)
