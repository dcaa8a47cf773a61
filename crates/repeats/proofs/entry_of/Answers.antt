use Rattle.repeats.proofs.Entries.{texts}
use Rattle.repeats.proofs.entry_of.Goals as goal

pub returns : goal.returns
returns c = search texts
