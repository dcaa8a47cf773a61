-- What `search` is handed to close what the functions leave.
use Rattle.shapes.specs.Laws.{checking}
use Rattle.shapes.proofs.Parts.{clears-none, number-node}
use Rattle.boundaries.proofs.Depths.{value-null, value-integer}
use Rattle.boundaries.proofs.Both.{agree-kind, agree-is}

pub ruleset nested = (checking, clears-none, number-node, value-null, value-integer, agree-kind, agree-is)
