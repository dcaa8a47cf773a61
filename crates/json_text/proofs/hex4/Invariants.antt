use Rattle.std.proofs.Common.{◌≤◌, length}
use Rattle.json_text.proofs.Parts.{Hexes}
use Rattle.json_text.proofs.hex4.Given as goal

abbrev pub invariant-loop-i : goal.invariant-loop-i
invariant-loop-i l = (l.i ≤ length l.text) × Hexes l.text l.at l.i
