-- The byte, below the range or not, and the text's end.
use Rattle.utf8.proofs.Rules.{chars}
use Rattle.utf8.proofs.has.Goals as goal

pub returns-then-low-b : goal.returns-then-low-b
returns-then-low-b c = search chars

pub returns-else-low-b : goal.returns-else-low-b
returns-else-low-b c = search chars

pub returns-in-None : goal.returns-in-None
returns-in-None c = search chars
