use Rattle.trie.proofs.Rules.{Seeks}
use Rattle.trie.proofs.slot_of.Given as goal

abbrev pub invariant-loop : goal.invariant-loop
invariant-loop l = Seeks l.trie l.c l.b l.s l.q l.bits
