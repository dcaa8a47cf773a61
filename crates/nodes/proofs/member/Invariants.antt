use Rattle.nodes.proofs.Loops.{Searching}
use Rattle.nodes.proofs.member.Given as goal

abbrev pub invariant-loop-key : goal.invariant-loop-key
invariant-loop-key l = Searching l.text l.table l.i l.name l.key-iterator
