-- What `search` is handed to close what the functions leave.
use borrow.Author.Rules.{rules}
use Rattle.nodes.specs.Reads.{node-first, node-second, node-room, node-onward}
use Rattle.arrays.specs.Laws.{laying-begin, laying-node, laying-item, laying-turn, laying-done, laying-same}
use Rattle.arrays.proofs.Nodes.{coordinate-number, index_number, number-order, number-inside, pair-asked, pair-out, pair-wrote, coordinate-small, coordinate-quick, coordinate-wrote, index-quick, index-whole, index-wrote, triple-elements, pairs-done, vertex-done, null-wrote, value-is, value-wrote, leaf, deeper, nesting-start, nesting-same, nesting-item, nesting-index, nesting-fits}

-- a node
pub ruleset nodes = (node-first, node-second, node-room, node-onward)

-- a number at a node
pub ruleset numbers = (coordinate-number, index_number, number-order, number-inside, coordinate-small, coordinate-quick, coordinate-wrote, index-quick, index-whole, index-wrote)

-- a pair, and a semantic value
pub ruleset values = (pair-asked, pair-out, pair-wrote, null-wrote, value-is, value-wrote)

-- a loop over the elements of an array
pub ruleset elements = (laying-begin, laying-node, laying-item, laying-turn, laying-done, laying-same)

-- what stands at a depth
pub ruleset depths = (triple-elements, pairs-done, vertex-done, leaf, deeper)

-- the loop over an array of a boundary
pub ruleset nesting = (nesting-start, nesting-same, nesting-item, nesting-index, nesting-fits)

pub ruleset arrays = (rules, nodes, numbers, values, elements, depths, nesting)
