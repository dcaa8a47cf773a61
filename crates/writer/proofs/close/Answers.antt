use Rattle.writer.specs.Laws.{headed}
use Rattle.writer.proofs.close.Goals as goal

pub returns : goal.returns
returns c = headed c.requires.0 c.requires.1 c.put4-middle.ensures.writes c.put2.ensures.writes
