-- `shapes::unless` meets its contract.
use Rattle.shapes.specs.Laws.{unless-yes, unless-no}
use Rattle.shapes.proofs.Rules.{shapes}
use Rattle.shapes.proofs.unless.Statement.{statement}
use Rattle.shapes.proofs.unless.Tie as tie

returns : tie.Need-returns-then-kept
returns c = unless-yes _ _ c.if-kept.true

returns-2 : tie.Need-returns
returns-2 c = unless-no _ _ c.if-kept.false c.start.ensures c.fault_at.ensures c.lesser.ensures

pub unless_spec : {M : Type 1} → statement M
unless_spec = tie.close (tie.spec returns (λ c κs. search shapes) (λ c κs. search shapes) (λ c κs. search shapes) returns-2)
