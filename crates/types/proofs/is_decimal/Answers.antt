-- Two digits and what stands between them.
use Rattle.utf8.specs.Ascii.{is_digit}
use Rattle.types.proofs.Rules.{types}
use Rattle.types.proofs.is_decimal.Goals as goal

pub returns-then-not-is_ascii_digit : goal.returns-then-not-is_ascii_digit
unfolding is_digit
returns-then-not-is_ascii_digit c = search types

pub returns : goal.returns
unfolding is_digit
returns c = search types
