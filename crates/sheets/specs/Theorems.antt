-- What the theorems of proofs/Theorems.antt speak of.
use Rattle.std.specs.Prelude.{ℕ, ◌<◌, ◌≡◌, length}
use mathlib.Core.List.{List}
use Rattle.verdict.specs.Exact.{BreaksNone}
use Rattle.sheets.specs.Laid.{sheet_of_text}

-- the text breaks no rule and its sheet is longer than the room: 18 at 0, to 0
abbrev pub NoRoom : List ℕ → ℕ → ℕ → ℕ → ℕ → Type 0
NoRoom x r s p e = (s ≡ 18) × (p ≡ 0) × (e ≡ 0) × BreaksNone x × (r < length (sheet_of_text x))
