-- `scalars::scalar` meets its contract.
use Rattle.scalars.proofs.Rules.{scalars}
use Rattle.scalars.proofs.scalar.Statement.{statement}
use Rattle.scalars.proofs.scalar.Tie as tie

pub scalar_spec : {M : Type 1} → statement M
scalar_spec =
    tie.close
    (tie.spec
    (λ c. search scalars) (λ c. search scalars) (λ c κs. search scalars) (λ c. search scalars) (λ c κs. search scalars)
    (λ c. search scalars) (λ c κs. search scalars) (λ c. search scalars) (λ c κs. search scalars) (λ c. search scalars)
    (λ c κs. search scalars) (λ c. search scalars) (λ c κs. search scalars) (λ c. search scalars) (λ c κs. search scalars)
    (λ c. search scalars) (λ c. search scalars) (λ c. search scalars) (λ c. search scalars) (λ c. search scalars)
    (λ c. search scalars) (λ c. search scalars) (λ c. search scalars) (λ c. search scalars))
