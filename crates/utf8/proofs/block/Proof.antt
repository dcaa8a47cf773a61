-- `utf8::block` meets its contract.
use Rattle.utf8.proofs.Rules.{chars}
use Rattle.utf8.proofs.block.Statement.{statement}
use Rattle.utf8.proofs.block.Tie as tie

pub block_spec : {M : Type 1} → statement M
block_spec =
    tie.close
    (tie.spec
    (λ c κs. search chars)
    (λ c. search chars)
    (λ c. search chars)
    (λ c. search chars)
    (λ c κs. search chars)
    (λ c. search chars))
