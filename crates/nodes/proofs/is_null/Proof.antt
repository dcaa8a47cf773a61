-- `nodes::is_null` meets its contract.
use Rattle.nodes.proofs.Firsts.{firsts}
use Rattle.nodes.proofs.is_null.Statement.{statement}
use Rattle.nodes.proofs.is_null.Tie as tie

pub is_null_spec : {M : Type 1} → statement M
is_null_spec = tie.close (tie.spec (λ c κs. search firsts) (λ c. search firsts))
