use Rattle.shapes.specs.Laws.{checking}
use Rattle.geometry.proofs.Elements.{each-begin, each-node, each-turn, each-done}
use Rattle.geometry.proofs.array_of.Goals as goal

pub loop-k-init : goal.loop-k-init
loop-k-init g c = search (checking, each-begin)

pub check-least-requires : goal.check-least-requires
check-least-requires g c = c.requires.callable _ _ (each-node c.loop-k.invariant c.in-Some.ensures.steps)

pub loop-k-preserved : goal.loop-k-preserved
loop-k-preserved g c = each-turn c.loop-k.invariant c.in-Some.ensures.steps c.check-least.ensures

pub returns : goal.returns
returns g c = λ f m. each-done c.loop-k.invariant c.array-least.ensures c.in-None.ensures.steps f m
