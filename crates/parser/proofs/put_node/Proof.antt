-- `parser::put_node` meets its contract.
use native.Mathlib.Omega.{arith}
use lib.ListN.{length-set}
use borrow.Author.Rules.{rules}
use Rattle.parser.proofs.Nodes.{three}
use Rattle.parser.proofs.put_node.Statement.{statement}
use Rattle.parser.proofs.put_node.Tie as tie

pub put_node_spec : {M : Type 1} → statement M
put_node_spec =
    tie.close
    (tie.spec
    (λ c. search rules) (λ c. search rules) (λ c. search rules) (λ c. search rules) (λ c. search rules) (λ c. search rules)
    (λ c. simp length-set (omega arith))
    (λ c. search rules) (λ c. search rules) (λ c. search rules) (λ c. search rules) (λ c. search rules)
    (λ c. three _ _ _ _ _ c.requires.room))
