-- What the writers ask of the numbers of a text; those of an accepted text are so (rules 12 and 13).
use Rattle.std.specs.Prelude.{◌≡◌, true, false, ℕ, zero, suc, ◌^◌, length}
use Rattle.numerals.specs.Numerals.{pair_of, integer, fits32, is_below}
use Rattle.json_text.specs.Tree.{Json}
use Rattle.nodes.specs.Access.{is_null_value, is_number_value, elements, numeral_of}
use Rattle.shapes.specs.Checks.{is_some}
use Rattle.shapes.specs.Shapes.{is_integer_value}
use Rattle.model.specs.Code.{All}

-- a number that is a pair in range
unfoldable pub Pair : Json → Type 0
unfolding is_number_value is_some pair_of numeral_of
Pair v = (is_number_value v ≡ true) × (is_some (pair_of (numeral_of v)) ≡ true)

-- an integer of 32 signed bits
unfoldable pub Coordinate : Json → Type 0
unfolding is_integer_value fits32 integer numeral_of
Coordinate v = (is_integer_value v ≡ true) × (fits32 (integer (numeral_of v)) ≡ true)

-- an integer from 0 to 2^32 - 1
unfoldable pub Index : Json → Type 0
unfolding is_integer_value is_below integer numeral_of
Index v = (is_integer_value v ≡ true) × (is_below (2 ^ 32) (integer (numeral_of v)) ≡ true)

-- such an integer or null
unfoldable pub Value : Json → Type 0
unfolding is_null_value Index
Value v = is_null_value v ≡ false → Index v

-- each element
unfoldable pub Elements : (Json → Type 0) → Json → Type 0
unfolding elements
Elements P v = All P (elements v)

-- three elements
unfoldable pub Triple : (Json → Type 0) → Json → Type 0
unfolding elements Elements
Triple P v = (length (elements v) ≡ 3) × Elements P v

-- what stands d levels deep
unfoldable pub Leaves : (Json → Type 0) → ℕ → Json → Type 0
unfolding Elements
Leaves P zero v = P v
Leaves P (suc d) v = Elements (Leaves P d) v
