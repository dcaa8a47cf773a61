-- The number of what is left of the string, after the bytes so far, is that of all.
use Rattle.strings.specs.Spans.{Span, decode_at}
use Rattle.everywhere.specs.Chains.{hash_from}
use Rattle.everywhere.proofs.Hashes.{Hashing}
use Rattle.everywhere.proofs.hash.Given as goal

abbrev pub invariant-loop-i : goal.invariant-loop-i
invariant-loop-i l = (Span l.text l.i l.end) × Hashing (hash_from 0 (decode_at l.text l.at l.end)) (decode_at l.text l.i l.end) l.h
