-- `nodes::lead` meets its contract.
use Rattle.nodes.proofs.Firsts.{firsts}
use Rattle.nodes.proofs.lead.Statement.{statement}
use Rattle.nodes.proofs.lead.Tie as tie

pub lead_spec : {M : Type 1} → statement M
lead_spec = tie.close (tie.spec (λ c κs. search firsts) (λ c. search firsts) (λ c. search firsts))
