-- What is looked up in a JSON tree. A value of another kind has no elements, no members and no text.
use Rattle.std.specs.Prelude.{ℕ, Bool, true, false, cond, List, [], ◌∷◌}
use Prim.Native.String.{String}
use Rattle.std.proofs.Math.Option.{Option, some}
use Rattle.std.proofs.Math.Option as option
use Rattle.utf8.specs.Ascii.{ascii}
use Rattle.utf8.specs.Utf8.{same}
use Rattle.strings.specs.Strings.{decode}
use Rattle.json_text.specs.Tree.{Json, null, bool, num, str, arr, obj, Items, no_items, ◌▸◌, Members, empty, member, Name}

-- the kinds of JSON value
unfoldable pub is_null_value : Json → Bool
is_null_value (null p e) = true
is_null_value (bool p e b) = false
is_null_value (num p e raw) = false
is_null_value (str p e raw) = false
is_null_value (arr p e vs) = false
is_null_value (obj p e ms) = false

unfoldable pub is_number_value : Json → Bool
is_number_value (null p e) = false
is_number_value (bool p e b) = false
is_number_value (num p e raw) = true
is_number_value (str p e raw) = false
is_number_value (arr p e vs) = false
is_number_value (obj p e ms) = false

unfoldable pub is_string_value : Json → Bool
is_string_value (null p e) = false
is_string_value (bool p e b) = false
is_string_value (num p e raw) = false
is_string_value (str p e raw) = true
is_string_value (arr p e vs) = false
is_string_value (obj p e ms) = false

unfoldable pub is_array_value : Json → Bool
is_array_value (null p e) = false
is_array_value (bool p e b) = false
is_array_value (num p e raw) = false
is_array_value (str p e raw) = false
is_array_value (arr p e vs) = true
is_array_value (obj p e ms) = false

unfoldable pub is_object_value : Json → Bool
is_object_value (null p e) = false
is_object_value (bool p e b) = false
is_object_value (num p e raw) = false
is_object_value (str p e raw) = false
is_object_value (arr p e vs) = false
is_object_value (obj p e ms) = true

-- the elements of an array
unfoldable pub listed : Items → List Json
listed no_items = []
listed (v ▸ vs) = v ∷ listed vs

unfoldable pub elements : Json → List Json
unfolding listed
elements (null p e) = []
elements (bool p e b) = []
elements (num p e raw) = []
elements (str p e raw) = []
elements (arr p e vs) = listed vs
elements (obj p e ms) = []

-- the members of an object
abbrev pub Member : Type 0
Member = Name × Json

unfoldable pub pairs : Members → List Member
pairs empty = []
pairs (member k v ms) = (k, v) ∷ pairs ms

unfoldable pub members : Json → List Member
unfolding pairs
members (null p e) = []
members (bool p e b) = []
members (num p e raw) = []
members (str p e raw) = []
members (arr p e vs) = []
members (obj p e ms) = pairs ms

-- "names and strings are compared after escapes are decoded": a member's name
unfoldable pub name_of : Member → List ℕ
unfolding decode
name_of m = decode m.0.raw

-- a string's text
unfoldable pub text_of : Json → List ℕ
unfolding decode
text_of (null p e) = []
text_of (bool p e b) = []
text_of (num p e raw) = []
text_of (str p e raw) = decode raw
text_of (arr p e vs) = []
text_of (obj p e ms) = []

-- a numeral's bytes
unfoldable pub numeral_of : Json → List ℕ
numeral_of (null p e) = []
numeral_of (bool p e b) = []
numeral_of (num p e raw) = raw
numeral_of (str p e raw) = []
numeral_of (arr p e vs) = []
numeral_of (obj p e ms) = []

-- the first member of that name
unfoldable pub first_named : List ℕ → List Member → Option Json
unfolding same name_of
first_named name [] = option.none
first_named name (m ∷ ms) = cond (same name (name_of m)) (some m.1) (first_named name ms)

unfoldable pub find : String → Json → Option Json
unfolding ascii first_named members
find name v = first_named (ascii name) (members v)
