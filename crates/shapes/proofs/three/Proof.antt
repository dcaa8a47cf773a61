-- `shapes::three` meets its contract.
use Rattle.std.proofs.lemmas.Bool.{not_from_false, not_from_true}
use Rattle.shapes.proofs.Parts.{three-none, three-is}
use Rattle.shapes.proofs.Rules.{shapes}
use Rattle.shapes.proofs.three.Statement.{statement}
use Rattle.shapes.proofs.three.Tie as tie

returns : tie.Need-returns-then-not-is_array
returns c = three-none _ c.is_array.ensures (not_from_false _ c.if-not-is_array.true)

returns-2 : tie.Need-returns
returns-2 c = three-is _ c.is_array.ensures (not_from_true _ c.if-not-is_array.false) c.count.ensures c.unless.ensures

pub three_spec : {M : Type 1} → statement M
three_spec = tie.close (tie.spec (λ c κs. search shapes) returns (λ c κs. search shapes) (λ c κs. search shapes) returns-2)
