-- `nodes::is_object` meets its contract.
use Rattle.nodes.proofs.Firsts.{firsts}
use Rattle.nodes.proofs.is_object.Statement.{statement}
use Rattle.nodes.proofs.is_object.Tie as tie

pub is_object_spec : {M : Type 1} → statement M
is_object_spec = tie.close (tie.spec (λ c κs. search firsts) (λ c. search firsts))
