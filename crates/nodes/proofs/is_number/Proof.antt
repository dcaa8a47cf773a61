-- `nodes::is_number` meets its contract.
use Rattle.nodes.proofs.Firsts.{firsts}
use Rattle.nodes.proofs.is_number.Statement.{statement}
use Rattle.nodes.proofs.is_number.Tie as tie

pub is_number_spec : {M : Type 1} → statement M
is_number_spec = tie.close (tie.spec (λ c κs. search firsts) (λ c. search firsts) (λ c. search firsts) (λ c. search firsts) (λ c. search firsts))
