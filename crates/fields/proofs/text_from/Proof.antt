-- `fields::text_from` meets its contract.
use native.Mathlib.Omega.{arith}
use Rattle.fields.specs.Laws.{string-fits}
use Rattle.fields.proofs.Rules.{fields}
use Rattle.fields.proofs.text_from.Statement.{statement}
use Rattle.fields.proofs.text_from.Tie as tie

add-result : tie.Need-overflow_add-result
add-result c = omega (arith, string-fits c.requires)

pub text_from_spec : {M : Type 1} → statement M
text_from_spec = tie.close (tie.spec (λ c κs. search fields) add-result (λ c. search fields))
