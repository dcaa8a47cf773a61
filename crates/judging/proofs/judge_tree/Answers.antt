-- A tree has no more words than its table.
use Rattle.std.proofs.Common.{rules}
use Rattle.examining.specs.Laws.{tree-words}
use Rattle.judging.proofs.judge_tree.Goals as goal

pub judge_rows-requires-2 : goal.judge_rows-requires-2
judge_rows-requires-2 c = let (tree, words) = c.requires in (tree, tree-words tree words, search rules)
