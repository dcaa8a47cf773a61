-- What a look at the strings as they stand tells.
use Rattle.compare.proofs.Scans.{rest-word}
use Rattle.compare.proofs.Rules.{scans}
use Rattle.compare.proofs.is_word.Goals as goal

pub returns-in-Ok : goal.returns-in-Ok
returns-in-Ok c = search scans

pub returns-in-Err : goal.returns-in-Err
returns-in-Err c = rest-word c.requires c.in-Err.ensures c.is_word_decoded.ensures
