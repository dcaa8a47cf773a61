-- `shapes::array` meets its contract.
use Rattle.shapes.specs.Laws.{array-is}
use Rattle.shapes.proofs.Rules.{shapes}
use Rattle.shapes.proofs.array.Statement.{statement}
use Rattle.shapes.proofs.array.Tie as tie

returns : tie.Need-returns
returns c = array-is _ _ c.unless.ensures c.is_array.ensures

pub array_spec : {M : Type 1} → statement M
array_spec = tie.close (tie.spec (λ c κs. search shapes) (λ c κs. search shapes) returns)
