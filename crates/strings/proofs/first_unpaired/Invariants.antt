-- The first place of what is left is the first place of the string.
use Rattle.std.proofs.Common.{◌≡◌, ◌-◌}
use Rattle.strings.specs.Spans.{Span, unpaired_at, first_of}
use Rattle.strings.proofs.first_unpaired.Given as goal

abbrev pub invariant-loop-i : goal.invariant-loop-i
invariant-loop-i l = (Span l.text l.i l.end) × (first_of (unpaired_at l.text l.at l.end) ≡ first_of (unpaired_at l.text l.i l.end))

abbrev pub decreases-loop-i : goal.decreases-loop-i
decreases-loop-i l = l.end - l.i
