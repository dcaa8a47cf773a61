-- `shapes::is_triple` meets its contract.
use Rattle.shapes.proofs.Rules.{shapes}
use Rattle.shapes.proofs.is_triple.Statement.{statement}
use Rattle.shapes.proofs.is_triple.Tie as tie

pub is_triple_spec : {M : Type 1} → statement M
is_triple_spec = tie.close (tie.spec (λ c κs. search shapes) (λ c. search shapes) (λ c κs. search shapes) (λ c. search shapes) (λ c κs. search shapes) (λ c. search shapes))
