-- The first byte of the word, and what is left of it.
use Rattle.std.proofs.Common.{arith}
use Rattle.strings.specs.Ahead.{ahead, away}
use Rattle.strings.proofs.Rules.{steps}
use Rattle.strings.proofs.decoder.Decoder.pop_byte.Goals as goal

pub returns-clause-bytes : goal.returns-clause-bytes
unfolding ahead
returns-clause-bytes c = search steps

pub returns-clause-nearer : goal.returns-clause-nearer
unfolding away
returns-clause-nearer c = omega arith
