use Rattle.repeats.proofs.Rule6.{repeated-told}
use Rattle.repeats.proofs.entered_in.Goals as goal

pub returns-then-text-start-ne123 : goal.returns-then-text-start-ne123
returns-then-text-start-ne123 c = search repeated-told
