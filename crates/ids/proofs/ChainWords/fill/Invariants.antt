use Rattle.ids.proofs.Chains.{Filling}
use Rattle.ids.proofs.ChainWords.fill.Given as goal

abbrev pub invariant-loop-k : goal.invariant-loop-k
invariant-loop-k l = Filling l.text l.table l.offsets l.initial.self.nexts l.self.heads l.self.nexts l.k
