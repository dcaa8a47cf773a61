-- The bytes that are handed out lead from the first entry to the one that is reached.
use Rattle.strings.specs.Ahead.{ahead}
use Rattle.trie.proofs.Rules.{Walking}
use Rattle.trie.proofs.walk_ahead.Given as goal

abbrev pub invariant-loop-b : goal.invariant-loop-b
invariant-loop-b l = Walking l.fn.trie l.fn.begin.count l.fn.begin.entry (ahead l.fn.rest) l.trie l.p (ahead l.b-iterator)
