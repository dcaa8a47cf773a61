use Rattle.nodes.proofs.Stepping.{siblings}
use Rattle.nodes.proofs.SiblingsIterator.next.Goals as goal

pub next-self-requires : goal.next-self-requires
next-self-requires c = search siblings

pub returns-clause-goes : goal.returns-clause-goes
returns-clause-goes c = search siblings

pub returns-clause-steps : goal.returns-clause-steps
returns-clause-steps c = search siblings
