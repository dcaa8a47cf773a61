use Rattle.links.proofs.Rules.{absents}
use Rattle.links.proofs.absent.Goals as goal

pub returns-then-not-is_string : goal.returns-then-not-is_string
returns-then-not-is_string c = search absents

pub returns : goal.returns
returns c = search absents
