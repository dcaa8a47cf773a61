use Rattle.links.proofs.Rules.{sweeping}
use Rattle.links.proofs.City.mark_all.Goals as goal

pub returns-then-mark_all : goal.returns-then-mark_all
returns-then-mark_all c = search sweeping

pub returns : goal.returns
returns c = search sweeping
