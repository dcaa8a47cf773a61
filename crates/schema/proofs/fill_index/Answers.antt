use Rattle.fields.specs.Laws.{at-node}
use Rattle.schema.proofs.Filling.{fill-nothing, fill-begin, fill-turn, fill_stop, fill_done, fill-found}
use Rattle.schema.proofs.fill_index.Goals as goal

pub returns-in_default : goal.returns-in_default
returns-in_default c = fill-nothing c.requires.1 c.in_default.is

pub names-k-items-requires : goal.names-k-items-requires
names-k-items-requires c = at-node c.requires.0 c.in-Some.is

pub loop-k-init : goal.loop-k-init
loop-k-init c = search (fill-begin, at-node, c.requires.1, c.requires.0, c.in-Some.is, c.names-k-items.ensures)

pub loop-k-preserved : goal.loop-k-preserved
loop-k-preserved c = fill-turn c.loop-k.invariant c.in-Some-k.ensures.steps c.if-full.false

pub returns-then-full : goal.returns-then-full
returns-then-full c = fill-found c.in-Some.is (fill_stop c.loop-k.invariant c.in-Some-k.ensures.steps c.if-full.true)

pub returns : goal.returns
returns c = fill-found c.in-Some.is (fill_done c.loop-k.invariant c.in-None.ensures.steps)
