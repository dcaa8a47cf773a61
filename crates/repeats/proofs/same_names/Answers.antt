use Rattle.repeats.proofs.Entries.{texts}
use Rattle.repeats.proofs.same_names.Goals as goal

pub returns-then-not-apart : goal.returns-then-not-apart
returns-then-not-apart c = search texts

pub returns-else-not-apart : goal.returns-else-not-apart
returns-else-not-apart c = search texts
