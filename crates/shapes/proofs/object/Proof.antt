-- `shapes::object` meets its contract.
use Rattle.shapes.specs.Laws.{object-is}
use Rattle.shapes.proofs.Rules.{shapes}
use Rattle.shapes.proofs.object.Statement.{statement}
use Rattle.shapes.proofs.object.Tie as tie

returns : tie.Need-returns
returns c = object-is _ _ c.unless.ensures c.is_object.ensures

pub object_spec : {M : Type 1} → statement M
object_spec = tie.close (tie.spec (λ c κs. search shapes) (λ c κs. search shapes) returns)
