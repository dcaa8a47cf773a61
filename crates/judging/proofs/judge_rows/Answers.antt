-- The rows were just made.
use Rattle.std.proofs.Common.{refl}
use Rattle.examining.specs.Laws.{rows-room}
use Rattle.judging.proofs.judge_rows.Goals as goal

pub judge_table-requires : goal.judge_table-requires
judge_table-requires g c =
    let (tree, words, low) = c.requires in
    (tree, rows-room g.row.N tree refl words low, rows-room g.row.N tree refl words low)
