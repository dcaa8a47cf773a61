-- What the rules look up in objects.
use Rattle.std.specs.Prelude.{ℕ, List, [], length}
use Prim.Native.String.{String}
use Rattle.std.proofs.Math.Option.{Option, none, some}
use Rattle.json_text.specs.Tree.{Json}
use Rattle.nodes.specs.Access.{elements, members, Member, text_of, find}

-- the text of a string that was sought, empty if there is none
unfoldable pub text_in : Option Json → List ℕ
unfolding text_of
text_in none = []
text_in (some v) = text_of v

-- the text of a value's `type`
unfoldable pub type_text : Json → List ℕ
unfolding text_in find
type_text v = text_in (find "type" v)

-- how many elements a value that was sought has, 0 if there is none
unfoldable pub count_in : Option Json → ℕ
unfolding elements
count_in none = 0
count_in (some v) = length (elements v)

-- the elements of a value that was sought
unfoldable pub elements_in : Option Json → List Json
unfolding elements
elements_in none = []
elements_in (some v) = elements v

-- what an object lists under a name
unfoldable pub listed_in : String → Json → List Json
unfolding elements_in find
listed_in name o = elements_in (find name o)

-- the members of a value that was sought
unfoldable pub members_in : Option Json → List Member
unfolding members
members_in none = []
members_in (some v) = members v

-- the city objects
unfoldable pub objects_of : Json → List Member
unfolding members_in find
objects_of v = members_in (find "CityObjects" v)
