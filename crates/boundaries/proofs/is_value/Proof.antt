-- `boundaries::is_value` meets its contract.
use Rattle.boundaries.proofs.Rules.{nested}
use Rattle.boundaries.proofs.is_value.Statement.{statement}
use Rattle.boundaries.proofs.is_value.Tie as tie

pub is_value_spec : {M : Type 1} → statement M
is_value_spec = tie.close (tie.spec (λ c κs. search nested) (λ c. search nested) (λ c κs. search nested) (λ c. search nested))
