-- Rules 15 to 17 of docs/RULES.md, over the IDs of the city objects as decoded: all places at which a tree breaks them.
use Rattle.std.specs.Prelude.{ℕ, Bool, false, cond, not, ◌&&◌, ◌||◌, List, [], ◌∷◌, ◌++◌}
use Prim.Native.String.{String}
use Rattle.std.proofs.Math.Option.{Option, some}
use Rattle.std.proofs.Math.Option as option
use Rattle.words.specs.Words.{object_words, code_of, is, is_second_level}
use Rattle.json_text.specs.Tree.{Json}
use Rattle.nodes.specs.Access.{is_string_value, Member, name_of, text_of, first_named}
use Rattle.everywhere.specs.Everywhere.{among}
use Rattle.shapes.specs.Checks.{unless, is_some, is_empty}
use Rattle.fields.specs.Fields.{listed_in, type_text, objects_of}

-- the IDs among listed values: the strings, as decoded
unfoldable pub ids_among : List Json → List (List ℕ)
unfolding is_string_value text_of
ids_among [] = []
ids_among (v ∷ vs) = cond (is_string_value v) (text_of v ∷ []) [] ++ ids_among vs

unfoldable pub ids_in : String → Option Json → List (List ℕ)
unfolding ids_among listed_in
ids_in name option.none = []
ids_in name (some o) = ids_among (listed_in name o)

-- a link from the object `id` to the object that the string s names, whose other side is listed under `back`:
-- rule 15: "linked ID absent from the objects, or listed before in the same list" at "that string";
-- rule 17: "one-sided link" at "the listed string"; `excused`: the linked object need not list this one
unfoldable pub link : List Member → String → List ℕ → Bool → List (List ℕ) → Json → List ℕ
unfolding unless is_some among ids_in first_named text_of
link objects back id excused earlier s =
    let other = first_named (text_of s) objects in
    unless (is_some other && not (among earlier (text_of s))) 15 s
    ++ unless (excused || among (ids_in back other) id) 17 s

-- the links of one list, after those that were listed earlier
unfoldable pub links_from : List Member → String → List ℕ → Bool → List (List ℕ) → List Json → List ℕ
unfolding link is_string_value ids_among
links_from objects back id excused earlier [] = []
links_from objects back id excused earlier (s ∷ ss) =
    cond (is_string_value s) (link objects back id excused earlier s) []
    ++ links_from objects back id excused (ids_among (s ∷ []) ++ earlier) ss

-- rule 16: "second-level object with no parent listed" at "the object"
unfoldable pub parent_link : Json → List ℕ
unfolding unless is_second_level code_of object_words type_text is_empty listed_in
parent_link o = unless (not (is_second_level (code_of object_words (type_text o)) && is_empty (listed_in "parents" o))) 16 o

-- rule 17: "A listed parent must list the object as child. A listed child must list the object as parent, unless the object is a `CityObjectGroup`."
unfoldable pub links_of : List Member → Member → List ℕ
unfolding links_from listed_in parent_link is type_text name_of
links_of objects m =
    links_from objects "parents" (name_of m) (is "CityObjectGroup" (type_text m.1)) [] (listed_in "children" m.1)
    ++ links_from objects "children" (name_of m) false [] (listed_in "parents" m.1)
    ++ parent_link m.1

unfoldable pub links_of_each : List Member → List Member → List ℕ
unfolding links_of
links_of_each objects [] = []
links_of_each objects (m ∷ ms) = links_of objects m ++ links_of_each objects ms

-- the links of all objects
unfoldable pub link_faults : Json → List ℕ
unfolding links_of_each objects_of
link_faults v = links_of_each (objects_of v) (objects_of v)
