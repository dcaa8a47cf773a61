-- Texts that are alike and texts that are not (docs/SHEET.md, "Alike texts"), by computation.
use Rattle.std.specs.Prelude.{◌≡◌, refl, List, ◌++◌, map, Bool, true, false, ℕ, ℤ}
use Rattle.std.proofs.Common.{ap}
use Prim.Native.String.{String}
use Rattle.utf8.specs.Ascii.{ascii, is_digit}
use Rattle.utf8.specs.Utf8.{same}
use Rattle.utf8.specs.Laws.{never, same_refl}
use Rattle.strings.specs.Strings.{decode}
use Rattle.numerals.specs.Numerals.{decimal, whole_of}
use Rattle.json_text.specs.Tree.{Json, ◌◂◌, with}
use Rattle.json_text.specs.Machine.{tree_of, step, want_step, got_step, next_step, name_step, mant_step, nought_step, is_blank, is_hex, is_escape}
use Rattle.nodes.specs.Access.{is_null_value, is_number_value, is_string_value, is_array_value, listed, elements, members, name_of, text_of, numeral_of, find}
use Rattle.model.specs.Model.{Three}
use Rattle.model.specs.Read.{get, or_null, maybe_decimal, zero_if_none, decimal_of, integer_of, natural, three_of, model_of}
use Rattle.model.specs.Alike.{Agree, surface_shape, semantics_shape, geometry_shape, object_shape, transform_shape, root_shape, Alike, same_text, alike-same-model}
use Rattle.model.proofs.AlikeTest.{agrees, agrees-agree}

-- ---- the texts

-- no objects
unfoldable pub bare : List ℕ
unfolding ascii
bare = ascii "{\"type\":\"CityJSON\",\"version\":\"2.0\",\"transform\":{\"scale\":[1,1,1],\"translate\":[0,0,0]},\"CityObjects\":{},\"vertices\":[]}"

-- members in another order, an escape in a name, numbers by value, an unexamined member
unfoldable pub bare-respelled : List ℕ
unfolding ascii
bare-respelled =
    ascii "{\"vertices\":[],\"metadata\":1,\"CityObjects\":{},"
    ++ ascii "\"transform\":{\"translate\":[0,-0,0e9],\"scale\":[1,10e-1,0.01E+2]},\"version\":\"2.0\",\"ty\\u0070e\":\"CityJSON\"}"

-- a building and its part
unfoldable pub building : List ℕ
unfolding ascii
building =
    ascii "{\"type\":\"CityJSON\",\"version\":\"2.0\",\"metadata\":{},\"transform\":{\"scale\":[0.001,0.001,0.001],\"translate\":[0,10,-5]},"
    ++ ascii "\"CityObjects\":{\"house\":{\"type\":\"Building\",\"children\":[\"part\"],\"attributes\":{\"height\":3}},"
    ++ ascii "\"part\":{\"type\":\"BuildingPart\",\"parents\":[\"house\"],\"geometry\":[{\"type\":\"MultiSurface\",\"lod\":\"2.1\","
    ++ ascii "\"boundaries\":[[[0,1,2]],[[2,1,0]]],\"semantics\":{\"surfaces\":[{\"type\":\"RoofSurface\",\"+slope\":1}],\"values\":[0,null]}}]}},"
    ++ ascii "\"vertices\":[[0,0,0],[1,0,0],[0,1,0]]}"

-- the same city model: the objects in the same order, other members in another; escapes in names and strings; numbers by value; other unexamined members
unfoldable pub building-respelled : List ℕ
unfolding ascii
building-respelled =
    ascii "{\"vertices\":[[0,0,0],[1,0,-0],[0,1,0]],\"CityObjects\":{\"h\\u006fuse\":{\"children\":[\"p\\u0061rt\"],\"ty\\u0070e\":\"\\u0042uilding\"},"
    ++ ascii "\"part\":{\"attributes\":{},\"geometry\":[{\"+colour\":[],\"semantics\":{\"values\":[0,null],\"surfaces\":[{\"type\":\"\\u0052oofSurface\"}]},"
    ++ ascii "\"boundaries\":[[[0,1,2]],[[2,1,0]]],\"lod\":\"2\\u002e1\",\"type\":\"MultiSurface\"}],\"parents\":[\"house\"],\"type\":\"BuildingPart\"}},"
    ++ ascii "\"transform\":{\"translate\":[0e3,1E1,-5.0],\"scale\":[1e-3,10.00e-4,0.0010]},\"version\":\"2.0\",\"type\":\"CityJSON\",\"+extra\":null}"

-- ---- alike

-- opening this opens all that a tree and what is looked up in it need
unfoldable reading : List ℕ → Json
unfolding tree_of step want_step got_step next_step name_step mant_step nought_step is_blank is_digit is_hex is_escape ◌◂◌ with listed elements members find decode decimal
reading text = tree_of text

-- and this all that the test of two texts needs
unfoldable passes : List ℕ → List ℕ → Bool
unfolding reading agrees same name_of text_of numeral_of is_null_value is_number_value is_string_value is_array_value
    root_shape transform_shape object_shape geometry_shape semantics_shape surface_shape
passes x y = agrees root_shape (tree_of x) (tree_of y)

passes-alike : (x y : List ℕ) → passes x y ≡ true → Alike (tree_of x) (tree_of y)
unfolding Alike passes
passes-alike x y t = agrees-agree root_shape (tree_of x) (tree_of y) t

pub bare_alike : Alike (tree_of bare) (tree_of bare-respelled)
unfolding passes bare bare-respelled
bare_alike = passes-alike bare bare-respelled refl

pub building-alike : Alike (tree_of building) (tree_of building-respelled)
unfolding passes building building-respelled
building-alike = passes-alike building building-respelled refl

-- ---- not alike

-- two roads, with this version, these types and this coordinate of the vertex
unfoldable roads : (version first second coordinate : String) → List ℕ
unfolding ascii
roads version first second coordinate =
    ascii "{\"type\":\"CityJSON\",\"version\":\"" ++ ascii version ++ ascii "\",\"transform\":{\"scale\":[1,1,1],\"translate\":[0,0,0]},"
    ++ ascii "\"CityObjects\":{\"a\":{\"type\":\"" ++ ascii first
    ++ ascii "\"},\"b\":{\"type\":\"" ++ ascii second ++ ascii "\"}},\"vertices\":[[0,0," ++ ascii coordinate ++ ascii "]]}"

differ : (x y : List ℕ) → same x y ≡ false → x ≡ y → ⊥
differ x y n e = never (rw (← e) (same_refl x)) n

-- another version
version-differs : Alike (tree_of (roads "2.0" "Road" "Road" "0")) (tree_of (roads "2.1" "Road" "Road" "0")) → ⊥
unfolding Alike Agree root_shape roads reading text_of same
version-differs a = differ _ _ refl (same_text _ _ a.1.0)

-- an object of another type
type-differs : Alike (tree_of (roads "2.0" "Road" "Road" "0")) (tree_of (roads "2.0" "Road" "Railway" "0")) → ⊥
unfolding Alike Agree root_shape object_shape roads reading text_of same
type-differs a = differ _ _ refl (same_text _ _ a.1.1.1.0.1.0.1.0)

-- another vertex
vertex-differs : Alike (tree_of (roads "2.0" "Road" "Road" "0")) (tree_of (roads "2.0" "Road" "Road" "1")) → ⊥
unfolding roads reading same model_of get or_null maybe_decimal zero_if_none decimal_of whole_of integer_of natural three_of
vertex-differs a = differ _ _ refl (ap (λ t. map (λ (v : Three ℤ). natural v.z) t.vertices) (alike-same-model _ _ a))
