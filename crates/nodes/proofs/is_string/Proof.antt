-- `nodes::is_string` meets its contract.
use Rattle.nodes.proofs.Firsts.{firsts}
use Rattle.nodes.proofs.is_string.Statement.{statement}
use Rattle.nodes.proofs.is_string.Tie as tie

pub is_string_spec : {M : Type 1} → statement M
is_string_spec = tie.close (tie.spec (λ c κs. search firsts) (λ c. search firsts))
