use Rattle.repeats.proofs.Rule6.{enters, enter-name, enter-again, enter-done}
use Rattle.repeats.proofs.entered_names.Goals as goal

pub loop-k-init : goal.loop-k-init
loop-k-init c = search enters

pub entry_at-requires : goal.entry_at-requires
entry_at-requires c = enter-name c.loop-k.invariant c.in-Some.ensures.steps

pub loop-k-preserved : goal.loop-k-preserved
loop-k-preserved c = enter-again c.loop-k.invariant c.in-Some.ensures.steps c.in_ok-turn.ensures

pub returns : goal.returns
returns c = enter-done c.loop-k.invariant c.in-None.ensures.steps
