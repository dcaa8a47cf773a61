-- No character is begun.
use Rattle.std.proofs.Common.{refl, arith}
use Rattle.utf8.specs.Bytes.{le}
use Rattle.strings.specs.Ahead.{ahead, away}
use Rattle.strings.proofs.decoder.Decoder.new.Goals as goal

pub returns-clause-bytes : goal.returns-clause-bytes
unfolding ahead le
returns-clause-bytes c = refl

pub returns-clause-far : goal.returns-clause-far
unfolding away
returns-clause-far c = omega arith
