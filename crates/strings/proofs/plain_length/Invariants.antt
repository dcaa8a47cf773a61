-- The bytes so far stand for themselves.
use Rattle.strings.proofs.Scans.{Past}
use Rattle.strings.proofs.plain_length.Given as goal

abbrev pub invariant-loop-k : goal.invariant-loop-k
invariant-loop-k l = Past l.raw l.k
