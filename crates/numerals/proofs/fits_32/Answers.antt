-- The sign and the magnitude are the integer's.
use Rattle.numerals.proofs.Wholes.{wholes}
use Rattle.numerals.proofs.fits_32.Goals as goal

pub returns : goal.returns
returns c = search wholes
