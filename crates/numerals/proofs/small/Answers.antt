-- The magnitude is that of the integer.
use Rattle.numerals.proofs.Wholes.{wholes}
use Rattle.numerals.proofs.small.Goals as goal

pub with_sign-requires : goal.with_sign-requires
with_sign-requires c = search wholes

pub returns : goal.returns
returns c = search wholes
