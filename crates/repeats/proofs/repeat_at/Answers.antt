use Rattle.repeats.proofs.Rule6.{names}
use Rattle.repeats.proofs.repeat_at.Goals as goal

pub returns-then-not-repeats : goal.returns-then-not-repeats
returns-then-not-repeats c = search names

pub returns : goal.returns
returns c = search names
