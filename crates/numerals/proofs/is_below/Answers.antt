-- The sign and the magnitude are the integer's.
use Rattle.numerals.proofs.Wholes.{wholes}
use Rattle.numerals.proofs.is_below.Goals as goal

pub returns : goal.returns
returns c = search wholes
