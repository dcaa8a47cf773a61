-- Faults as numbers, and the least of them.
use Rattle.std.specs.Prelude.{ℕ, ◌+◌, ◌*◌, ◌/◌, ◌%◌, min, List, [], ◌∷◌}

-- A fault is a broken rule with its place, as one number. Places are below 65,536, so that the least number is the fault that is given
-- (docs/RULES.md, "The answer").
unfoldable pub fault : ℕ → ℕ → ℕ
fault rule place = rule * 65536 + place

unfoldable pub rule_of : ℕ → ℕ
rule_of f = f / 65536

unfoldable pub place_in : ℕ → ℕ
place_in f = f % 65536

-- the least of best and the faults
unfoldable pub least : ℕ → List ℕ → ℕ
least best [] = best
least best (f ∷ fs) = least (min best f) fs

-- greater than every fault
abbrev pub no_fault : ℕ
no_fault = 18 * 65536
