use Rattle.writer.proofs.Fills.{size-le, no_room, placed}
use Rattle.writer.proofs.put.Goals as goal

pub returns-then-end-sheet : goal.returns-then-end-sheet
returns-then-end-sheet g c = search (no_room, size-le)

pub returns : goal.returns
returns g c = search placed
