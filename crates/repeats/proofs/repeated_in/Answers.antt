use Rattle.std.proofs.Common.{ap, ◌∙◌}
use Rattle.repeats.proofs.Passes.{lent-begin}
use Rattle.repeats.proofs.Rule6.{sweeps, sweep-begin, sweep-name, sweep-other, sweep-onward, sweep-told}
use Rattle.repeats.proofs.repeated_in.Goals as goal

pub returns-then-text-start-ne123 : goal.returns-then-text-start-ne123
returns-then-text-start-ne123 c = search sweeps

pub next-n-requires : goal.next-n-requires
next-n-requires c = search sweeps

pub loop-seen-init : goal.loop-seen-init
loop-seen-init c =
    let q = ap (λ s. s.iter) c.into_iter-seen-iterator.ensures.into_iter_gives ∙ c.enumerate-seen-items.ensures.source in
    (sweep-begin _ c.requires.0 c.start.ensures c.if-text-start-ne123.false c.names.ensures.whole q tt, lent-begin c.requires.1)

-- an object of many names
pub returns-then-n-links : goal.returns-then-n-links
returns-then-n-links c =
    sweep-other c.loop-seen.invariant.0 c.in-Some.ensures.steps.0 c.loop-seen.invariant.1 c.next-n.ensures c.if-n-links.true c.chained_in.ensures

pub repeat_at-least-requires : goal.repeat_at-least-requires
repeat_at-least-requires c = sweep-name c.loop-seen.invariant.0 c.in-Some.ensures.steps.0

pub loop-seen-preserved : goal.loop-seen-preserved
loop-seen-preserved c = (sweep-onward c.loop-seen.invariant.0 c.in-Some.ensures.steps.0 c.repeat_at-least.ensures, c.loop-seen.invariant.1)

pub returns : goal.returns
returns c = sweep-told c.loop-seen.invariant.0 _ c.in-None.ensures.steps.0
