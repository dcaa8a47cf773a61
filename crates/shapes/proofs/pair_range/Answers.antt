use Rattle.shapes.proofs.Parts.{pair-none, pair-in, pair-out}
use Rattle.shapes.proofs.Rules.{shapes}
use Rattle.shapes.proofs.pair_range.Goals as goal

pub returns-then-not-is_number : goal.returns-then-not-is_number
returns-then-not-is_number c = search (shapes, pair-none)

pub returns-in-Ok : goal.returns-in-Ok
returns-in-Ok c = pair-in _ (search shapes) c.pair.ensures c.in-Ok.is

pub returns-in-Err : goal.returns-in-Err
returns-in-Err c = pair-out _ (search shapes) c.pair.ensures c.in-Err.is c.lesser.ensures
