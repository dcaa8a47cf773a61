-- A digit's value, or none.
use Rattle.std.proofs.Common.{rules}
use Rattle.utf8.specs.Ascii.{is_digit}
use Rattle.numerals.proofs.digit.Goals as goal

pub returns-then-is_ascii_digit : goal.returns-then-is_ascii_digit
unfolding is_digit
returns-then-is_ascii_digit c = search rules

pub returns-else-is_ascii_digit : goal.returns-else-is_ascii_digit
unfolding is_digit
returns-else-is_ascii_digit c = search rules
