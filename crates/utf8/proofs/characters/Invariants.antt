-- The characters from `at` to here are counted.
use Rattle.std.proofs.Common.{length, ◌-◌}
use Rattle.utf8.proofs.Places.{Reached}
use Rattle.utf8.proofs.characters.Given as goal

abbrev pub invariant-loop-i : goal.invariant-loop-i
invariant-loop-i l = Reached l.text l.at l.i

abbrev pub decreases-loop-i : goal.decreases-loop-i
decreases-loop-i l = length l.text - l.i
