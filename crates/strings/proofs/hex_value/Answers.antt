-- The value of a digit, by the range that the byte is in.
use Rattle.strings.proofs.Rules.{strings}
use Rattle.strings.proofs.hex_value.Goals as goal

pub returns-in-0-to-57 : goal.returns-in-0-to-57
returns-in-0-to-57 c = search strings

pub returns-in-0-to-70 : goal.returns-in-0-to-70
returns-in-0-to-70 c = search strings

pub returns-in_default : goal.returns-in_default
returns-in_default c = search strings
