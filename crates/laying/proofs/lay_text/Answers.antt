-- The refusal by rule 3 or 4.
use Rattle.laying.proofs.Sheets.{lays}
use Rattle.laying.proofs.lay_text.Goals as goal

pub returns-in_err-n : goal.returns-in_err-n
returns-in_err-n g c = search lays
