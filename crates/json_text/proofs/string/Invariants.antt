use Rattle.std.proofs.Common.{◌-◌, ◌≤◌, length}
use Rattle.std.specs.Prelude.{Ok}
use Rattle.json_text.specs.Says.{Reads, chars_of, to}
use Rattle.json_text.proofs.string.Given as goal

abbrev pub invariant-loop-i : goal.invariant-loop-i
invariant-loop-i l = (l.i ≤ length l.text) × Reads l.text chars_of (to chars_of) l.at (Ok l.i)

abbrev pub decreases-loop-i : goal.decreases-loop-i
decreases-loop-i l = length l.text - l.i
