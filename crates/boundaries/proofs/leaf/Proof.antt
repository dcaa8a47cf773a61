-- `boundaries::leaf` meets its contract.
use Rattle.std.proofs.lemmas.Bool.{not_from_false, not_from_true}
use Rattle.shapes.proofs.Parts.{clears-best}
use Rattle.boundaries.proofs.Outline.{leaf-no, leaf-yes}
use Rattle.boundaries.proofs.Rules.{nested}
use Rattle.boundaries.proofs.leaf.Statement.{statement}
use Rattle.boundaries.proofs.leaf.Tie as tie

returns : tie.Need-returns-then-is_ranged
returns c = clears-best _ _ c.is_ranged.ensures c.if-is_ranged.true

returns-2 : tie.Need-returns-then-not-is_integer
returns-2 c = leaf-no _ _ c.is_integer.ensures (not_from_false _ c.if-not-is_integer.true) c.unless.ensures

returns-3 : tie.Need-returns
returns-3 c = leaf-yes _ _ c.is_integer.ensures (not_from_true _ c.if-not-is_integer.false) c.below.ensures

pub leaf_spec : {M : Type 1} → statement M
leaf_spec = tie.close (tie.spec (λ c κs. search nested) returns (λ c κs. search nested) (λ c κs. search nested) returns-2 (λ c κs. search nested) returns-3)
