use Rattle.repeats.proofs.Rule6.{threads, thread-name, thread-again, thread-told}
use Rattle.repeats.proofs.chained_in.Goals as goal

pub loop-k-init : goal.loop-k-init
loop-k-init c = search threads

pub chain_at-requires : goal.chain_at-requires
chain_at-requires c = thread-name c.loop-k.invariant c.in-Some.ensures.steps

pub loop-k-preserved : goal.loop-k-preserved
loop-k-preserved c = thread-again c.loop-k.invariant c.in-Some.ensures.steps c.in_ok-least.ensures

pub returns : goal.returns
returns c = thread-told c.loop-k.invariant c.in-None.ensures.steps
