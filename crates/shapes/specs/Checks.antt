-- Checks of a value by docs/RULES.md.
use Rattle.std.specs.Prelude.{ℕ, Bool, true, false, cond, not, ◌||◌, List, [], ◌∷◌, ◌++◌}
use Prim.Native.String.{String}
use Rattle.std.proofs.Math.Option.{Option, some}
use Rattle.std.proofs.Math.Option as option
use Rattle.json_text.specs.Tree.{Json, place_of}
use Rattle.nodes.specs.Access.{is_number_value, is_string_value, is_array_value, is_object_value, elements, members, Member, text_of, numeral_of, find}
use Rattle.nodes.specs.Faults.{fault}

-- a check lists all faults that it finds in a value
abbrev pub Check : Type 0
Check = Json → List ℕ

-- the fault of a rule at a value, unless it is kept there
unfoldable pub unless : Bool → ℕ → Json → List ℕ
unfolding fault place_of
unless kept rule v = cond kept [] (fault rule (place_of v) ∷ [])

-- each of several checks
unfoldable pub all : List Check → Check
all [] v = []
all (c ∷ cs) v = c v ++ all cs v

-- a check of what was found, if something was
unfoldable pub on : Check → Option Json → List ℕ
on c option.none = []
on c (some v) = c v

-- a check of the member of that name, if the value is an object that has one; rule 7: "A name counts only in the object it belongs to"
unfoldable pub at : String → Check → Check
unfolding on find
at name c v = on c (find name v)

-- a check of each
unfoldable pub for_each : Check → List Json → List ℕ
for_each c [] = []
for_each c (v ∷ vs) = c v ++ for_each c vs

-- a check of each element
unfoldable pub each_element : Check → Check
unfolding for_each elements
each_element c v = for_each c (elements v)

-- the values of members
unfoldable pub values : List Member → List Json
values [] = []
values (m ∷ ms) = m.1 ∷ values ms

-- a check of each member's value
unfoldable pub each_member : Check → Check
unfolding for_each values members
each_member c v = for_each c (values (members v))

-- rule 7: "wrong JSON kind" at "the value"
unfoldable pub object_kind : Check
unfolding unless is_object_value
object_kind v = unless (is_object_value v) 7 v

unfoldable pub string_kind : Check
unfolding unless is_string_value
string_kind v = unless (is_string_value v) 7 v

unfoldable pub number_kind : Check
unfolding unless is_number_value
number_kind v = unless (is_number_value v) 7 v

unfoldable pub array_kind : Check
unfolding unless is_array_value
array_kind v = unless (is_array_value v) 7 v

unfoldable pub is_some : {A : Type 0} → Option A → Bool
is_some option.none = false
is_some (some v) = true

unfoldable pub is_empty : {A : Type 0} → List A → Bool
is_empty [] = true
is_empty (v ∷ vs) = false

-- rule 8: "required member absent" at "the object"; of a value of another kind it says nothing, since rule 7 has a fault there
unfoldable pub needs : List String → Check
unfolding unless is_some find is_object_value
needs [] v = []
needs (n ∷ ns) v = unless (not (is_object_value v) || is_some (find n v)) 8 v ++ needs ns v

-- a rule about a string's text, as 10, "wrong word" at "the value"; of a value of another kind it says nothing
unfoldable pub text : ℕ → (List ℕ → Bool) → Check
unfolding unless is_string_value text_of
text rule ok v = unless (not (is_string_value v) || ok (text_of v)) rule v

-- a rule about a numeral's bytes, as 13, "number out of range" at "the number"; of a value of another kind it says nothing
unfoldable pub numeral : ℕ → (List ℕ → Bool) → Check
unfolding unless is_number_value numeral_of
numeral rule ok v = unless (not (is_number_value v) || ok (numeral_of v)) rule v
