-- `shapes::need` meets its contract.
use Rattle.shapes.proofs.Rules.{shapes}
use Rattle.shapes.proofs.need.Statement.{statement}
use Rattle.shapes.proofs.need.Tie as tie

pub need_spec : {M : Type 1} → statement M
need_spec = tie.close (tie.spec (λ c. search shapes) (λ c. search shapes) (λ c κs. search shapes) (λ c κs. search shapes) (λ c. search shapes) (λ c. search shapes))
