-- The words so far are others.
use Rattle.std.proofs.Common.{map}
use Rattle.strings.specs.Spans.{decode_at}
use Rattle.words.proofs.Places.{Passed}
use Rattle.words.proofs.number.Given as goal

abbrev pub invariant-loop-k : goal.invariant-loop-k
invariant-loop-k l = Passed (map (λ word. word.now) l.words) (decode_at l.text l.at l.end) l.k
