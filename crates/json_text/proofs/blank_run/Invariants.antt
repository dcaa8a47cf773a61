use Rattle.std.proofs.Common.{◌-◌, length}
use Rattle.json_text.specs.Says.{Stays, blanks}
use Rattle.json_text.proofs.blank_run.Given as goal

abbrev pub invariant-loop-i : goal.invariant-loop-i
invariant-loop-i l = Stays blanks l.text l.at l.i

abbrev pub decreases-loop-i : goal.decreases-loop-i
decreases-loop-i l = length l.text - l.i
