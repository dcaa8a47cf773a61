-- The end that belongs to a place of a tree (docs/RULES.md, "The answer").
use Rattle.std.specs.Prelude.{ℕ, cond, List, [], ◌∷◌, eqb}
use Rattle.everywhere.specs.Parts.{Part, part_place, part_end}

-- the ends of the parts, the values and names, that begin at a place
unfoldable pub ends_at : ℕ → List Part → List ℕ
unfolding part_place part_end
ends_at place [] = []
ends_at place (d ∷ ds) = cond (eqb (part_place d) place) (part_end d ∷ ends_at place ds) (ends_at place ds)

-- "one past the last byte of the value or name at that place"; where none begins, the place itself
unfoldable pub end_at : ℕ → List Part → ℕ
unfolding ends_at
end_at place ds = elim (ends_at place ds) [ [] ↦ place | e ∷ es ↦ e ]
