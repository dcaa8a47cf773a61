use Rattle.nodes.proofs.Loops.{count-is}
use Rattle.nodes.proofs.count.Goals as goal

pub returns : goal.returns
returns c = count-is c.requires c.elements.ensures.whole c.count.ensures.ran
