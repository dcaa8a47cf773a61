-- The bytes that the decoder hands out.
use Rattle.utf8.specs.Ascii.{is_digit}
use Rattle.words.specs.Words.{is_lod}
use Rattle.types.proofs.Rules.{types}
use Rattle.types.proofs.is_lod.Goals as goal

pub returns-in_default : goal.returns-in_default
returns-in_default c = search types

pub returns-in_default-next : goal.returns-in_default-next
unfolding is_digit
returns-in_default-next c = search types

pub returns-in_default-next-2 : goal.returns-in_default-next-2
returns-in_default-next-2 c = search types

pub returns-then-is_decimal : goal.returns-then-is_decimal
unfolding is_lod
returns-then-is_decimal c = search types

pub returns-else-is_decimal : goal.returns-else-is_decimal
unfolding is_lod
returns-else-is_decimal c = search types
