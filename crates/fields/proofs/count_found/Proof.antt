-- `fields::count_found` meets its contract.
use Rattle.fields.proofs.Rules.{fields}
use Rattle.fields.proofs.count_found.Statement.{statement}
use Rattle.fields.proofs.count_found.Tie as tie

pub count_found_spec : {M : Type 1} → statement M
count_found_spec =
    tie.close
    (tie.spec
    (λ c. search fields)
    (λ c. search fields)
    (λ c. search fields)
    (λ c κs. search fields)
    (λ c. search fields))
