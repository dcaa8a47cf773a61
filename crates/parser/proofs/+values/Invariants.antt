use Rattle.std.proofs.Common.{◌+◌, length, ◌-◌, ◌*◌}
use Rattle.parser.proofs.Growth.{Inside}
use Rattle.parser.proofs.+values.Given as goal

abbrev pub decreases-container : goal.decreases-container
decreases-container l = 5 * l.levels + 4

abbrev pub decreases-entry : goal.decreases-entry
decreases-entry l = 5 * l.levels + 3

abbrev pub decreases-element : goal.decreases-element
decreases-element l = 5 * l.levels + 2

abbrev pub decreases-member : goal.decreases-member
decreases-member l = 5 * l.levels + 2

abbrev pub decreases-item : goal.decreases-item
decreases-item l = 5 * l.levels + 1

abbrev pub decreases-value : goal.decreases-value
decreases-value l = 5 * l.levels

abbrev pub invariant-container-loop-taken : goal.invariant-container-loop-taken
invariant-container-loop-taken l = Inside l.kind l.text l.initial.table l.table l.at l.levels l.n l.i l.m

abbrev pub decreases-container-loop-taken : goal.decreases-container-loop-taken
decreases-container-loop-taken l = length l.text - l.i
