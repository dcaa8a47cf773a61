-- `nodes::is_array` meets its contract.
use Rattle.nodes.proofs.Firsts.{firsts}
use Rattle.nodes.proofs.is_array.Statement.{statement}
use Rattle.nodes.proofs.is_array.Tie as tie

pub is_array_spec : {M : Type 1} → statement M
is_array_spec = tie.close (tie.spec (λ c κs. search firsts) (λ c. search firsts))
