-- A number of few digits, or another that 32 signed bits hold.
use Rattle.arrays.proofs.Nodes.{coordinate-quick}
use Rattle.arrays.proofs.Rules.{arrays}
use Rattle.arrays.proofs.coordinate.Goals as goal

pub small-requires-clause-text_value : goal.small-requires-clause-text_value
small-requires-clause-text_value c = search arrays

pub returns-in-Some : goal.returns-in-Some
returns-in-Some c = coordinate-quick c.requires c.start-from.ensures c.end-to.ensures c.in-Some.ensures c.put4.ensures.writes

pub returns-in-None : goal.returns-in-None
returns-in-None c = search arrays
