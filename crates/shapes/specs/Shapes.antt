-- Rules 12 and 13 of docs/RULES.md: shapes of nested arrays and ranges of numbers.
use Rattle.std.specs.Prelude.{ℕ, zero, suc, Bool, true, false, cond, not, ◌&&◌, ◌||◌, List, [], ◌∷◌, ◌++◌, ◌⊎◌, length, eqb}
use Rattle.std.proofs.Math.Option.{Option, some}
use Rattle.std.proofs.Math.Option as option
use Rattle.std.proofs.Common.{inl, inr}
use Rattle.numerals.specs.Numerals.{Decimal, is_integer, integer, pair_of, fits32, is_below}
use Rattle.json_text.specs.Tree.{Json, place_of}
use Rattle.nodes.specs.Access.{is_null_value, is_number_value, is_array_value, elements, numeral_of}
use Rattle.nodes.specs.Faults.{fault}
use Rattle.shapes.specs.Checks.{Check, unless, is_some, for_each, each_element, numeral}

-- a numeral that is an integer
unfoldable pub is_integer_value : Json → Bool
unfolding is_number_value is_integer numeral_of
is_integer_value v = is_number_value v && is_integer (numeral_of v)

unfoldable pub all_integers : List Json → Bool
unfolding is_integer_value
all_integers [] = true
all_integers (v ∷ vs) = is_integer_value v && all_integers vs

-- rule 12: "`scale` and `translate` hold three numbers (place: the array)"
unfoldable pub three_entries : Check
unfolding unless is_array_value elements
three_entries v = unless (not (is_array_value v) || eqb (length (elements v)) 3) 12 v

-- rule 13: "A numeral that cannot be read as such a pair is refused 13"
unfoldable pub pair_range : Check
unfolding numeral is_some pair_of
pair_range = numeral 13 (λ raw. is_some (pair_of raw))

-- such a number's pair, or its fault
unfoldable pub or_fault : Json → Option Decimal → Decimal ⊎ ℕ
unfolding fault place_of
or_fault v option.none = inr (fault 13 (place_of v))
or_fault v (some d) = inl d

unfoldable pub pair_or_fault : Json → Decimal ⊎ ℕ
unfolding or_fault pair_of numeral_of
pair_or_fault v = or_fault v (pair_of (numeral_of v))

unfoldable pub is_triple : Json → Bool
unfolding is_array_value elements all_integers
is_triple v = is_array_value v && eqb (length (elements v)) 3 && all_integers (elements v)

-- rule 13: "Vertex integers fit 32 signed bits"
unfoldable pub coordinate : Check
unfolding numeral fits32 integer
coordinate = numeral 13 (λ raw. fits32 (integer raw))

-- rule 12: "Each vertex is an array of three integers (place: that element of `vertices`)"
unfoldable pub vertex : Check
unfolding unless is_triple each_element coordinate
vertex v = cond (is_triple v) (each_element coordinate v) (unless false 12 v)

-- rule 12: "Boundaries are arrays down to the depth of their type, where integers stand (place: the first wrong element)"
unfoldable pub shaped : ℕ → Check
unfolding unless is_integer_value is_array_value for_each elements
shaped zero v = unless (is_integer_value v) 12 v
shaped (suc d) v = unless (is_array_value v) 12 v ++ for_each (shaped d) (elements v)

-- rule 13 for each integer at that depth, with a count that it is below
unfoldable pub ranged : ℕ → ℕ → Check
unfolding numeral is_below integer for_each elements
ranged count zero v = numeral 13 (λ raw. is_below count (integer raw)) v
ranged count (suc d) v = for_each (ranged count d) (elements v)

-- a check of two lists' elements, side by side
unfoldable pub for_both : (Json → Check) → List Json → List Json → List ℕ
for_both c [] ws = []
for_both c (v ∷ vs) [] = []
for_both c (v ∷ vs) (w ∷ ws) = c v w ++ for_both c vs ws

-- rule 12: "`values` has the same count as the boundary at each of its levels (place: the array that differs), arrays above its last level
-- and integers or `null` there (place: the element)"
unfoldable pub matches : ℕ → Json → Check
unfolding unless is_integer_value is_null_value is_array_value for_both elements
matches zero b v = unless (is_integer_value v || is_null_value v) 12 v
matches (suc d) b v =
    unless (is_array_value v && eqb (length (elements b)) (length (elements v))) 12 v
    ++ cond (is_array_value v && eqb (length (elements b)) (length (elements v))) (for_both (matches d) (elements b) (elements v)) []
