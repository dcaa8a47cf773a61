use Rattle.links.proofs.Opens.{Opening}
use Rattle.links.proofs.open_list.Given as goal

abbrev pub invariant-loop-k : goal.invariant-loop-k
invariant-loop-k l = Opening l.text l.table l.i l.numbers l.set l.own l.best l.k-iterator.a l.k-iterator.b.rest.now l.least
