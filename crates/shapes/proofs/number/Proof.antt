-- `shapes::number` meets its contract.
use Rattle.shapes.specs.Laws.{number_is}
use Rattle.shapes.proofs.Rules.{shapes}
use Rattle.shapes.proofs.number.Statement.{statement}
use Rattle.shapes.proofs.number.Tie as tie

returns : tie.Need-returns
returns c = number_is _ _ c.unless.ensures c.is_number.ensures

pub number_spec : {M : Type 1} → statement M
number_spec = tie.close (tie.spec (λ c κs. search shapes) (λ c κs. search shapes) returns)
