use Rattle.writer.proofs.Fills.{copied}
use Rattle.writer.proofs.string.Goals as goal

pub returns : goal.returns
returns c = search copied
