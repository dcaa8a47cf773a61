-- Writing what the decoder has ahead gives what writing all of it gives.
use Rattle.strings.specs.Ahead.{ahead}
use Rattle.strings.proofs.Loops.{Writing}
use Rattle.strings.proofs.copy_ahead.Given as goal

abbrev pub invariant-loop-b : goal.invariant-loop-b
invariant-loop-b l = Writing (ahead l.fn.rest) (ahead l.b-iterator) l.fn.out l.out l.fn.to l.o
