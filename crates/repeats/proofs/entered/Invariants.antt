use Rattle.everywhere.proofs.Passes.{Always, Pass}
use Rattle.repeats.specs.Names.{own6}
use Rattle.repeats.proofs.Passes.{TrieLent}
use Rattle.repeats.proofs.entered.Given as goal

abbrev pub invariant-loop-k : goal.invariant-loop-k
invariant-loop-k l = (Pass Always 6 own6 l.text l.table l.n l.best l.k l.least) × (TrieLent l.initial.trie l.trie)
