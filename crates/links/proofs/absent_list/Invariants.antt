use Rattle.links.proofs.Absents.{Listing}
use Rattle.links.proofs.absent_list.Given as goal

abbrev pub invariant-loop-k : goal.invariant-loop-k
invariant-loop-k l = Listing l.text l.table l.i l.numbers l.count l.best l.k-iterator.a l.k-iterator.b.rest.now l.least l.seen
