-- The sheet is written, or does not fit.
use Rattle.laying.proofs.Sheets.{lays}
use Rattle.laying.proofs.lay_sheet.Goals as goal

pub sheet-length-requires : goal.sheet-length-requires
sheet-length-requires c = search lays

pub returns-then-length-room : goal.returns-then-length-room
returns-then-length-room c = search lays

pub returns : goal.returns
returns c = search lays
