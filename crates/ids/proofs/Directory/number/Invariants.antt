use Rattle.ids.proofs.Chains.{Trailing, to_go}
use Rattle.ids.proofs.Directory.number.Given as goal

abbrev pub invariant-loop-left : goal.invariant-loop-left
invariant-loop-left l = Trailing l.self.text.now l.self.table.now l.self.offsets.now l.self.chains.now.heads l.self.chains.now.nexts l.i l.left

abbrev pub decreases-loop-left : goal.decreases-loop-left
decreases-loop-left l = to_go l.left
