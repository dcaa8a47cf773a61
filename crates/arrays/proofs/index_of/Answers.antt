-- A number of few digits, or another.
use Rattle.arrays.proofs.Nodes.{index-quick, index-whole}
use Rattle.arrays.proofs.index_of.Goals as goal

pub returns-in-Some : goal.returns-in-Some
returns-in-Some c = index-quick c.requires c.start-from.ensures c.end-to.ensures c.in-Some.ensures

pub returns-in-None : goal.returns-in-None
returns-in-None c = index-whole c.requires c.start-from.ensures c.end-to.ensures c.integer.ensures
