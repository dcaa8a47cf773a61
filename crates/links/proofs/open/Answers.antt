use Rattle.links.proofs.Rules.{opens}
use Rattle.links.proofs.open.Goals as goal

pub returns-then-not-is_string : goal.returns-then-not-is_string
returns-then-not-is_string c = search opens

pub returns : goal.returns
returns c = search opens
