-- The number of what the decoder has ahead, after the bytes so far, is that of all.
use Rattle.strings.specs.Ahead.{ahead}
use Rattle.everywhere.specs.Chains.{hash_from}
use Rattle.everywhere.proofs.Hashes.{Hashing}
use Rattle.everywhere.proofs.hash_ahead.Given as goal

abbrev pub invariant-loop-b : goal.invariant-loop-b
invariant-loop-b l = Hashing (hash_from l.fn.seed (ahead l.fn.rest)) (ahead l.b-iterator) l.h
