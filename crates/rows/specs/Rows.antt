-- The numbers of the objects that city objects list.
use Rattle.std.specs.Prelude.{ℕ, ◌+◌, cond, List, [], ◌∷◌, map, length}
use Prim.Native.String.{String}
use Rattle.json_text.specs.Tree.{Json}
use Rattle.nodes.specs.Access.{is_string_value, Member, text_of}
use Rattle.fields.specs.Fields.{listed_in}
use Rattle.model.specs.Model.{object_number}

-- the number of the object that a listed value names, where `names` are the IDs of all; their count, if it names none
unfoldable pub link_number : List (List ℕ) → Json → ℕ
unfolding is_string_value object_number text_of
link_number names v = cond (is_string_value v) (object_number names (text_of v)) (length names)

-- the numbers of the objects that an object lists under a name
unfoldable pub link_numbers : List (List ℕ) → String → Json → List ℕ
unfolding link_number listed_in
link_numbers names name o = map (link_number names) (listed_in name o)

-- how many values some objects list under a name, in all
unfoldable pub listed_count : String → List Member → ℕ
unfolding listed_in
listed_count name [] = 0
listed_count name (m ∷ ms) = length (listed_in name m.1) + listed_count name ms
