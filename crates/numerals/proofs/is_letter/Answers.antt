-- The bytes e and E.
use Rattle.std.proofs.Common.{rules}
use Rattle.numerals.proofs.Bytes.{a-letter, no-letter}
use Rattle.numerals.proofs.is_letter.Goals as goal

pub returns-in-101 : goal.returns-in-101
returns-in-101 c = search (rules, a-letter)

pub returns-in_default : goal.returns-in_default
returns-in_default c = search (rules, no-letter)
