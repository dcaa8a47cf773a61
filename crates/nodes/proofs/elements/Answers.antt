use Rattle.nodes.proofs.Stepping.{siblings}
use Rattle.nodes.proofs.elements.Goals as goal

pub returns-clause-whole : goal.returns-clause-whole
returns-clause-whole c = search siblings

pub returns-clause-walks : goal.returns-clause-walks
returns-clause-walks c = search siblings
