use Rattle.repeats.proofs.Links.{Follows}
use Rattle.repeats.proofs.in_chain.Given as goal

abbrev pub invariant-loop : goal.invariant-loop
invariant-loop l = Follows l.text l.table l.links l.head l.k l.e
