-- The first bytes of two strings.
use Rattle.compare.proofs.Rules.{scans}
use Rattle.compare.proofs.apart.Goals as goal

pub returns-then-at-end : goal.returns-then-at-end
returns-then-at-end c = search scans

pub returns : goal.returns
returns c = search scans
