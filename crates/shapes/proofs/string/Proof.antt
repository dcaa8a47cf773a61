-- `shapes::string` meets its contract.
use Rattle.shapes.specs.Laws.{string-is}
use Rattle.shapes.proofs.Rules.{shapes}
use Rattle.shapes.proofs.string.Statement.{statement}
use Rattle.shapes.proofs.string.Tie as tie

returns : tie.Need-returns
returns c = string-is _ _ c.unless.ensures c.is_string.ensures

pub string_spec : {M : Type 1} → statement M
string_spec = tie.close (tie.spec (λ c κs. search shapes) (λ c κs. search shapes) returns)
