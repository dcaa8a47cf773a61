-- A character in one to four bytes.
use Rattle.strings.proofs.Rules.{strings}
use Rattle.strings.proofs.encoded.Goals as goal

pub returns-then-u-lt128 : goal.returns-then-u-lt128
returns-then-u-lt128 c = search strings

pub returns-then-u-lt2048 : goal.returns-then-u-lt2048
returns-then-u-lt2048 c = search strings

pub returns-then-u-lt65536 : goal.returns-then-u-lt65536
returns-then-u-lt65536 c = search strings

pub returns : goal.returns
returns c = search strings
