use Rattle.std.proofs.Common.{refl}
use Rattle.repeats.proofs.Rule6.{compare-walk, compare-begin, compare-name, compare-found, compare-again, compare-done}
use Rattle.repeats.proofs.repeats.Goals as goal

pub loop-j-init-derived : goal.loop-j-init-derived
loop-j-init-derived c = (compare-walk c.requires refl c.into_iter-j-iterator.ensures.into_iter_gives, tt)

pub loop-j-init : goal.loop-j-init
loop-j-init c = compare-begin c.requires refl c.into_iter-j-iterator.ensures.into_iter_gives

pub same_names-requires : goal.same_names-requires
same_names-requires c = (compare-name c.loop-j.invariant c.in-Some.ensures.steps, c.requires.name)

pub returns-then-same_names : goal.returns-then-same_names
returns-then-same_names c = compare-found c.loop-j.invariant c.in-Some.ensures.steps c.same_names.ensures c.if-same_names.true

pub loop-j-preserved : goal.loop-j-preserved
loop-j-preserved c = compare-again c.loop-j.invariant c.in-Some.ensures.steps c.same_names.ensures c.if-same_names.false

pub returns : goal.returns
returns c = compare-done c.loop-j.invariant c.in-None.ensures.steps.0
