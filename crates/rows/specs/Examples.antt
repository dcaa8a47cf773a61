-- Link numbers decided by computation: those of the city objects of a small text.
use Rattle.std.specs.Prelude.{ℕ, ◌≡◌, refl, List, [], ◌∷◌, map}
use Prim.Native.String.{String}
use Rattle.utf8.specs.Ascii.{ascii, is_digit}
use Rattle.json_text.specs.Tree.{◌◂◌, with}
use Rattle.json_text.specs.Machine.{Outcome, reads, bad, too_deep, read, step, want_step, got_step, next_step, name_step, mant_step, nought_step, is_blank, is_hex, is_escape}
use Rattle.nodes.specs.Access.{Member}
use Rattle.fields.specs.Fields.{objects_of}
use Rattle.ids.specs.Says.{names_of}
use Rattle.marks.specs.Marks.{row_of}
use Rattle.rows.specs.Rows.{link_numbers, listed_count}

-- the city objects of a text; none of a text that has no tree
unfoldable objects_in : List ℕ → List Member
unfolding read objects_of ascii step want_step got_step next_step name_step mant_step nought_step is_blank is_digit is_hex is_escape ◌◂◌ with
objects_in text = in_tree (read text)
  where
    in_tree : Outcome → List Member
    in_tree (reads v) = objects_of v
    in_tree (bad n) = []
    in_tree (too_deep n) = []

-- what each of them lists under a name, by number
unfoldable numbers_in : String → List ℕ → List (List ℕ)
unfolding objects_in names_of link_numbers
numbers_in name text = map (λ m. link_numbers (names_of (objects_in text)) name m.1) (objects_in text)

-- two objects: the second, the first, and an ID that no object has, which has the number 2
absent-id : numbers_in "children" (ascii "{\"CityObjects\":{\"a\":{\"children\":[\"b\",\"a\",\"c\"]},\"b\":{}}}") ≡ (1 ∷ 0 ∷ 2 ∷ []) ∷ [] ∷ []
unfolding numbers_in
absent-id = refl

-- a value that is no string has that number too
no-string : numbers_in "parents" (ascii "{\"CityObjects\":{\"a\":{},\"b\":{\"parents\":[0,\"a\"]}}}") ≡ [] ∷ (2 ∷ 0 ∷ []) ∷ []
unfolding numbers_in
no-string = refl

-- the other list of an object is not read, and a value that is no array lists nothing
other_name : numbers_in "parents" (ascii "{\"CityObjects\":{\"a\":{\"children\":[\"a\"]},\"b\":{\"parents\":\"a\"}}}") ≡ [] ∷ [] ∷ []
unfolding numbers_in
other_name = refl

-- how many values are listed in all
counted : listed_count "parents" (objects_in (ascii "{\"CityObjects\":{\"a\":{\"parents\":[\"c\"]},\"b\":{\"parents\":[0,\"a\"]}}}")) ≡ 3
unfolding objects_in listed_count
counted = refl

-- a table of three rows, the middle one empty: four words say where they begin and end
rows_of : map (row_of (4 ∷ 6 ∷ 6 ∷ 7 ∷ 1 ∷ 2 ∷ 0 ∷ [])) (0 ∷ 1 ∷ 2 ∷ []) ≡ (1 ∷ 2 ∷ []) ∷ [] ∷ (0 ∷ []) ∷ []
unfolding row_of
rows_of = refl
