use Rattle.strings.specs.Spans.{Span, decode_at}
use Rattle.trie.proofs.Rules.{Walking}
use Rattle.trie.proofs.walk.Given as goal

abbrev pub invariant-loop-i : goal.invariant-loop-i
invariant-loop-i l = (Span l.text l.i l.end) × Walking l.initial.trie l.count 0 (decode_at l.text l.at l.end) l.trie l.p (decode_at l.text l.i l.end)
