-- `nodes::fault_at` meets its contract.
use mathlib.Core.Path.{refl}
use borrow.Author.Rules.{rules}
use Rattle.nodes.specs.Faults.{fault}
use Rattle.nodes.proofs.fault_at.Statement.{statement}
use Rattle.nodes.proofs.fault_at.Tie as tie

returns : tie.Need-returns
unfolding fault
returns c = refl

pub fault_at_spec : {M : Type 1} → statement M
fault_at_spec = tie.close (tie.spec (λ c. search rules) (λ c. search rules) (λ c. search rules) returns)
