-- The rows were just made.
use Rattle.std.proofs.Common.{refl}
use Rattle.examining.specs.Laws.{rows-room}
use Rattle.laying.proofs.lay_rows.Goals as goal

pub lay_table-requires : goal.lay_table-requires
lay_table-requires g c =
    let (tree, words, low, zeroes) = c.requires in
    (tree, rows-room g.row.N tree refl words low, rows-room g.row.N tree refl words low, zeroes)
