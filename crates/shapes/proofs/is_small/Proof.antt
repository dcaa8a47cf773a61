-- `shapes::is_small` meets its contract.
use Rattle.shapes.proofs.Rules.{shapes}
use Rattle.shapes.proofs.is_small.Statement.{statement}
use Rattle.shapes.proofs.is_small.Tie as tie

pub is_small_spec : {M : Type 1} → statement M
is_small_spec = tie.close (tie.spec (λ c κs. search shapes) (λ c. search shapes) (λ c κs. search shapes) (λ c κs. search shapes) (λ c κs. search shapes) (λ c. search shapes))
