-- `shapes::is_integer` meets its contract.
use Rattle.shapes.proofs.Rules.{shapes}
use Rattle.shapes.proofs.is_integer.Statement.{statement}
use Rattle.shapes.proofs.is_integer.Tie as tie

pub is_integer_spec : {M : Type 1} → statement M
is_integer_spec = tie.close (tie.spec (λ c κs. search shapes) (λ c. search shapes) (λ c κs. search shapes) (λ c κs. search shapes) (λ c κs. search shapes) (λ c. search shapes))
