-- `boundaries::below` meets its contract.
use Rattle.std.proofs.lemmas.Bool.{not_from_false}
use Rattle.boundaries.proofs.Depths.{below_none, below-is}
use Rattle.boundaries.proofs.Rules.{nested}
use Rattle.boundaries.proofs.below.Statement.{statement}
use Rattle.boundaries.proofs.below.Tie as tie

returns : tie.Need-returns-then-not-is_number
returns c = below_none _ _ c.is_number.ensures (not_from_false _ c.if-not-is_number.true)

returns-2 : tie.Need-returns
returns-2 c = below-is _ _ (search nested) c.start.ensures c.end.ensures c.is_below.ensures c.unless.ensures

pub below_spec : {M : Type 1} → statement M
below_spec = tie.close (tie.spec (λ c κs. search nested) returns (λ c κs. search nested) (λ c κs. search nested) (λ c κs. search nested) (λ c κs. search nested) returns-2)
