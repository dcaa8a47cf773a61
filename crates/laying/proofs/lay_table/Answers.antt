-- No fault was found, or the least is refused.
use Rattle.laying.proofs.Sheets.{lays}
use Rattle.laying.proofs.lay_table.Goals as goal

pub returns-then-walked-lt-NO_FAULT : goal.returns-then-walked-lt-NO_FAULT
returns-then-walked-lt-NO_FAULT c = search lays

pub offsets-offsets-requires : goal.offsets-offsets-requires
offsets-offsets-requires c = search lays

pub lay_sheet-requires : goal.lay_sheet-requires
lay_sheet-requires c = search lays
