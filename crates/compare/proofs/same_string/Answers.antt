-- What a look at the strings as they stand tells.
use Rattle.compare.proofs.Scans.{rest-string}
use Rattle.compare.proofs.Rules.{scans}
use Rattle.compare.proofs.same_string.Goals as goal

pub returns-in-Ok : goal.returns-in-Ok
returns-in-Ok c = search scans

pub returns-in-Err : goal.returns-in-Err
returns-in-Err c = rest-string c.requires.0 c.requires.1 c.in-Err.ensures c.same_decoded.ensures
