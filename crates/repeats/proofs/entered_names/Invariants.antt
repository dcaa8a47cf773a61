use Rattle.repeats.proofs.Rule6.{Enters}
use Rattle.repeats.proofs.entered_names.Given as goal

abbrev pub invariant-loop-k : goal.invariant-loop-k
invariant-loop-k l = Enters l.text l.table l.initial.trie l.trie l.turn.count l.i l.best l.k-iterator l.turn.least
