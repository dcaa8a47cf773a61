use Rattle.marks.proofs.Rules.{asking}
use Rattle.marks.proofs.answers.Goals as goal

pub returns-then-other-set : goal.returns-then-other-set
returns-then-other-set c = search asking

pub returns-else-other-set : goal.returns-else-other-set
returns-else-other-set c = search asking
