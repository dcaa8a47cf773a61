-- `shapes::three_pairs` meets its contract.
use Rattle.shapes.proofs.Parts.{three-pairs-is}
use Rattle.shapes.proofs.Rules.{shapes}
use Rattle.shapes.proofs.three_pairs.Statement.{statement}
use Rattle.shapes.proofs.three_pairs.Tie as tie

returns : tie.Need-returns
returns c = three-pairs-is _ _ _ c.array-kind.ensures c.three-shape.ensures c.entries.ensures

pub three_pairs_spec : {M : Type 1} → statement M
three_pairs_spec = tie.close (tie.spec (λ c κs. search shapes) (λ c κs. search shapes) (λ c κs. search shapes) returns)
