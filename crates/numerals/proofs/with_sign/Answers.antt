-- A number that 63 bits hold has either sign.
use Rattle.numerals.proofs.Wholes.{wholes}
use Rattle.numerals.proofs.with_sign.Goals as goal

pub returns-then-negative : goal.returns-then-negative
returns-then-negative c = search wholes

pub returns-else-negative : goal.returns-else-negative
returns-else-negative c = search wholes
