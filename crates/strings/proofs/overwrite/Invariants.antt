-- The first k bytes are written.
use Rattle.strings.proofs.Loops.{Over}
use Rattle.strings.proofs.overwrite.Given as goal

abbrev pub invariant-loop-k : goal.invariant-loop-k
invariant-loop-k l = Over l.part l.bytes l.k
