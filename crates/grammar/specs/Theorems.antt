-- What the theorems of proofs/Theorems.antt speak of.
use Rattle.std.specs.Prelude.{ℕ, ◌≡◌, List, ◌⊎◌}
use Rattle.json_text.specs.Machine.{bad, too_deep, read}

-- the machine stops at n: the text is bad there, or opens a level too many there
abbrev pub Stopped : List ℕ → ℕ → Type 0
Stopped x n = (read x ≡ bad n) ⊎ (read x ≡ too_deep n)
