-- `boundaries::agree` meets its contract.
use Rattle.boundaries.proofs.Rules.{nested}
use Rattle.boundaries.proofs.agree.Statement.{statement}
use Rattle.boundaries.proofs.agree.Tie as tie

pub agree_spec : {M : Type 1} → statement M
agree_spec = tie.close (tie.spec (λ c κs. search nested) (λ c. search nested) (λ c κs. search nested) (λ c κs. search nested) (λ c. search nested))
