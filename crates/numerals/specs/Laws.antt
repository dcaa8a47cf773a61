-- What the laws of numerals in proofs/Laws.antt speak of.
use Rattle.std.specs.Prelude.{ℕ, ◌%◌, ◌<◌, ◌≡◌, ◌⊎◌, pos, nat_abs}
use mathlib.Core.List.{List, [], ◌∷◌}
use Rattle.numerals.specs.Numerals.{Decimal}

-- zero with no power, or a number that is no multiple of ten
abbrev pub Canonical : Decimal → Type 0
Canonical d = ((d.m ≡ pos 0) × (d.e ≡ pos 0)) ⊎ (nat_abs d.m % 10 ≡ 0 → ⊥)

-- a list of digits' values
abbrev pub Below10 : List ℕ → Type 0
Below10 [] = Unit {0}
Below10 (d ∷ ds) = (d < 10) × Below10 ds
