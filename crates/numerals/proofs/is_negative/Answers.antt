-- The first byte is a minus sign, or another, or there is none.
use Rattle.std.proofs.Common.{rules}
use Rattle.numerals.proofs.Bytes.{sign-there, sign-other, sign-empty}
use Rattle.numerals.proofs.is_negative.Goals as goal

pub returns-in-45 : goal.returns-in-45
returns-in-45 c = search (rules, sign-there)

pub returns-in_default : goal.returns-in_default
returns-in_default c = search (rules, sign-empty)

pub returns-in_default-2 : goal.returns-in_default-2
returns-in_default-2 c = search (rules, sign-other)
