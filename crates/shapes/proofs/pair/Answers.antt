-- The numeral's pair, or the fault.
use Rattle.shapes.proofs.Parts.{pair-fault, pair-taken}
use Rattle.shapes.proofs.Rules.{shapes}
use Rattle.shapes.proofs.pair.Goals as goal

pub returns-in_default : goal.returns-in_default
returns-in_default c = search (shapes, pair-fault)

pub returns : goal.returns
returns c = search (shapes, pair-taken)
