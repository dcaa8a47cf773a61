-- The faults of links in the order in which they are found: those of rule 15 first, then those of rules 16 and 17.
-- Only contracts of private functions cite them: that together they are those of Links is `split-objects` in the proofs.
use Rattle.std.specs.Prelude.{ℕ, Bool, false, cond, not, ◌&&◌, ◌||◌, List, [], ◌∷◌, ◌++◌}
use Prim.Native.String.{String}
use Rattle.words.specs.Words.{is}
use Rattle.json_text.specs.Tree.{Json}
use Rattle.nodes.specs.Access.{is_string_value, Member, members, name_of, text_of, first_named}
use Rattle.everywhere.specs.Everywhere.{among}
use Rattle.shapes.specs.Checks.{unless, is_some}
use Rattle.fields.specs.Fields.{elements_in, listed_in, type_text}
use Rattle.rules.specs.Links.{ids_among, ids_in, parent_link}

-- rule 15 of one value of a list, after those that were listed earlier
unfoldable pub absent_at : List Member → List (List ℕ) → Json → List ℕ
absent_at objects earlier s =
    cond (is_string_value s) (unless (is_some (first_named (text_of s) objects) && not (among earlier (text_of s))) 15 s) []

-- and of a list
unfoldable pub absent : List Member → List (List ℕ) → List Json → List ℕ
absent objects earlier [] = []
absent objects earlier (s ∷ ss) = absent_at objects earlier s ++ absent objects (ids_among (s ∷ []) ++ earlier) ss

-- rule 17 of one value of a list of the object `id`, whose other side is listed under `back`: a link is open if the other side does not list it
unfoldable pub open_at : List Member → String → List ℕ → Bool → Json → List ℕ
open_at objects back id excused s =
    cond (is_string_value s) (unless (excused || among (ids_in back (first_named (text_of s) objects)) id) 17 s) []

-- and of a list
unfoldable pub open_in : List Member → String → List ℕ → Bool → List Json → List ℕ
open_in objects back id excused [] = []
open_in objects back id excused (s ∷ ss) = open_at objects back id excused s ++ open_in objects back id excused ss

-- what a value lists under a name, which is given as bytes
unfoldable pub listed_under : List ℕ → Json → List Json
listed_under name v = elements_in (first_named name (members v))

-- rule 15 of what an object lists under a name
unfoldable pub absent_under : List ℕ → List Member → Member → List ℕ
absent_under name objects m = absent objects [] (listed_under name m.1)

-- rule 17 of the children of an object, and rules 16 and 17 of its parents
unfoldable pub open_children : List Member → Member → List ℕ
open_children objects m = open_in objects "parents" (name_of m) (is "CityObjectGroup" (type_text m.1)) (listed_in "children" m.1)

unfoldable pub open_parents : List Member → Member → List ℕ
open_parents objects m = open_in objects "children" (name_of m) false (listed_in "parents" m.1) ++ parent_link m.1
