use Rattle.records.proofs.Whole.{Objecting}
use Rattle.records.proofs.objects.Given as goal

abbrev pub invariant-loop-k : goal.invariant-loop-k
invariant-loop-k l = Objecting l.text l.table l.offsets l.children l.parents l.k l.initial.sheet l.sheet l.at l.o
