use Rattle.std.proofs.Common.{◌+◌, ◌≤◌, length}
use Rattle.json_text.proofs.Parts.{Spells}
use Rattle.scalars.proofs.word.Given as goal

abbrev pub invariant-loop-k : goal.invariant-loop-k
invariant-loop-k l = (l.at + l.k ≤ length l.text) × Spells l.text l.word l.at l.k (l.at + l.k)
