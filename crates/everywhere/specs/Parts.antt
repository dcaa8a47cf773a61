-- The parts of a tree: every value and every name, with its place and its end.
use Rattle.std.specs.Prelude.{ℕ, List, [], ◌∷◌, ◌++◌}
use Rattle.json_text.specs.Tree.{Json, Items, ◌▸◌, Members, member, Name, place_of, end_of}
use Rattle.json_text.specs.Tree as tree

-- a value or a name
pub data Part : Type 0 where
  value : Json → Part
  name : Name → Part

-- its place, the offset of its first byte, and its end, one past that of its last
unfoldable pub part_place : Part → ℕ
unfolding place_of
part_place (value v) = place_of v
part_place (name k) = k.place

unfoldable pub part_end : Part → ℕ
unfolding end_of
part_end (value v) = end_of v
part_end (name k) = k.end

-- the parts of a value, of elements and of members, in the text's order: a value before what it holds, a name before its value
unfoldable mutual
  pub parts : Json → List Part
  parts (tree.null p e) = value (tree.null p e) ∷ []
  parts (tree.bool p e b) = value (tree.bool p e b) ∷ []
  parts (tree.num p e raw) = value (tree.num p e raw) ∷ []
  parts (tree.str p e raw) = value (tree.str p e raw) ∷ []
  parts (tree.arr p e vs) = value (tree.arr p e vs) ∷ parts_in vs
  parts (tree.obj p e ms) = value (tree.obj p e ms) ∷ parts_of ms

  pub parts_in : Items → List Part
  parts_in tree.no_items = []
  parts_in (v ▸ vs) = parts v ++ parts_in vs

  pub parts_of : Members → List Part
  parts_of tree.empty = []
  parts_of (member k v ms) = name k ∷ (parts v ++ parts_of ms)
