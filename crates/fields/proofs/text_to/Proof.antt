-- `fields::text_to` meets its contract.
use native.Mathlib.Omega.{arith}
use Rattle.fields.specs.Laws.{string-some}
use Rattle.fields.proofs.Rules.{fields}
use Rattle.fields.proofs.text_to.Statement.{statement}
use Rattle.fields.proofs.text_to.Tie as tie

sub-result : tie.Need-overflow_sub-result
sub-result c = omega (arith, string-some c.requires)

pub text_to_spec : {M : Type 1} → statement M
text_to_spec = tie.close (tie.spec (λ c κs. search fields) sub-result (λ c. search fields))
