-- A tree has no more words than its table.
use Rattle.std.proofs.Common.{rules}
use Rattle.examining.specs.Laws.{tree-words}
use Rattle.laying.proofs.lay_tree.Goals as goal

pub lay_rows-requires-2 : goal.lay_rows-requires-2
lay_rows-requires-2 c = let (tree, words, zeroes) = c.requires in (tree, tree-words tree words, search rules, zeroes)
