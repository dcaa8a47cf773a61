-- What the laws of rows in proofs/RowLaws.antt speak of.
use Prim.Native.Nat.{ℕ}
use Rattle.std.specs.Prelude.{◌≡◌, length}
use mathlib.Core.List.{List}
use Rattle.utf8.specs.Utf8.{encode}
use Rattle.utf8.specs.Rows.{Begins}

-- the text begins with a character of n bytes
abbrev pub Character : ℕ → List ℕ → Type 0
Character n text = (c : ℕ) × Begins c text × (n ≡ length (encode c))
