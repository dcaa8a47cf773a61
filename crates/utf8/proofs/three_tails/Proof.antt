-- `utf8::three_tails` meets its contract.
use native.Mathlib.Omega.{arith}
use Rattle.utf8.specs.Rows.{utf8_tail}
use Rattle.utf8.proofs.Arms.{there}
use Rattle.utf8.proofs.Rules.{chars}
use Rattle.utf8.proofs.three_tails.Statement.{statement}
use Rattle.utf8.proofs.three_tails.Tie as tie

pub three_tails_spec : {M : Type 1} → statement M
three_tails_spec =
    tie.close
    (tie.spec
    (λ c κs. search chars)
    (λ c. omega (arith, there _ c.args.at utf8_tail c.tail.ensures c.if-tail.true))
    (λ c κs. search chars)
    (λ c. search chars)
    (λ c. search chars))
