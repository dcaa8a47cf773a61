-- Rules 7 to 14 of docs/RULES.md, as a schema: all places at which a tree breaks them.
use Rattle.std.specs.Prelude.{ℕ, Bool, cond, not, ◌||◌, List, [], ◌∷◌, ◌++◌, drop, eqb}
use Prim.Native.String.{String}
use Rattle.std.proofs.Math.Option.{Option, some}
use Rattle.std.proofs.Math.Option as option
use Rattle.utf8.specs.Ascii.{ascii}
use Rattle.utf8.specs.Utf8.{same}
use Rattle.words.specs.Words.{object_words, geometry_words, surface_words, code_of, is_one, is, is_added, is_added_name, is_lod, depth, values_depth, is_permitted}
use Rattle.json_text.specs.Tree.{Json}
use Rattle.nodes.specs.Access.{members, Member, find}
use Rattle.nodes.specs.Faults.{fault}
use Rattle.fields.specs.Fields.{type_text, count_in}
use Rattle.shapes.specs.Checks.{Check, all, at, each_element, each_member, object_kind, string_kind, number_kind, array_kind, needs, text, is_empty}
use Rattle.shapes.specs.Shapes.{three_entries, pair_range, vertex, shaped, ranged, matches}

-- ---- words

-- rule 10: "types from the lists below or, for a geometry or a city object, those of rule 11"
unfoldable pub is_object_type : List ℕ → Bool
unfolding is_one object_words is_added
is_object_type t = is_one object_words t || is_added t

unfoldable pub is_geometry_type : List ℕ → Bool
unfolding is_one geometry_words is
is_geometry_type t = is_one geometry_words t || is "GeometryInstance" t

-- rule 10: "A surface type may instead be `+` and at least one more byte"
unfoldable pub is_surface_type : List ℕ → Bool
unfolding is_one surface_words is_added_name
is_surface_type t = is_one surface_words t || is_added_name t

-- ---- the schema

-- rule 7, below: "Object: root, `transform`, `CityObjects`, each city object, `attributes`, each geometry, `semantics`, each surface.
-- String: the `type` of the root, of a city object, a geometry and a surface, `version`, `lod`, each entry of a city object's `children` and `parents`.
-- Number: each entry of `scale` and `translate`.
-- .. Array: `scale`, `translate`, `vertices`, `geometry`, `children`, `parents`, `boundaries`, `surfaces`, `values`."

-- a string that is this word
unfoldable pub one_word : List ℕ → Check
unfolding all string_kind text same
one_word w = all (string_kind ∷ text 10 (same w) ∷ [])

unfoldable pub word : String → Check
unfolding one_word ascii
word w = one_word (ascii w)

-- a city object's type; rule 11: "not carried: .. an object type beginning `+`" at "the value"
unfoldable pub object_type : Check
unfolding all string_kind text is_object_type is_added
object_type = all (string_kind ∷ text 10 is_object_type ∷ text 11 (λ w. not (is_added w)) ∷ [])

-- the type of a geometry, whose code (0: none) is given, of an object whose type has a code; rule 11: "not carried: `GeometryInstance`";
-- rule 14: "geometry type not permitted for the object type" at "geometry's `type` value"
unfoldable pub geometry_type : ℕ → ℕ → Check
unfolding all string_kind text is_geometry_type is is_permitted
geometry_type object code =
    all (string_kind ∷ text 10 is_geometry_type ∷ text 11 (λ w. not (is "GeometryInstance" w)) ∷ text 14 (λ w. eqb code 0 || is_permitted object code) ∷ [])

unfoldable pub lod : Check
unfolding all string_kind text is_lod
lod = all (string_kind ∷ text 10 is_lod ∷ [])

unfoldable pub surface_type : Check
unfolding all string_kind text is_surface_type
surface_type = all (string_kind ∷ text 10 is_surface_type ∷ [])

-- the boundary of a geometry whose type has this code (0: none), with so many vertices;
-- rule 13: "A boundary index is at least 0 and below the vertex count"
unfoldable pub boundary : ℕ → ℕ → Check
unfolding shaped ranged depth
boundary vertices code v = cond (eqb code 0) [] (shaped (depth code) v ++ ranged vertices (depth code) v)

unfoldable pub boundaries : ℕ → ℕ → Check
unfolding all array_kind boundary
boundaries vertices code = all (array_kind ∷ boundary vertices code ∷ [])

-- rule 8: "Surface: `type`"
unfoldable pub surface : Check
unfolding all object_kind needs at surface_type
surface = all (object_kind ∷ needs ("type" ∷ []) ∷ at "type" surface_type ∷ [])

unfoldable pub surfaces : Check
unfolding all array_kind each_element surface
surfaces = all (array_kind ∷ each_element surface ∷ [])

-- `values` over a boundary, with so many surfaces; rule 12: "it is judged only if the geometry's boundary is well shaped";
-- rule 13: "a semantic value likewise for the surfaces"
unfoldable pub over_boundary : ℕ → ℕ → Option Json → Check
unfolding matches ranged values_depth shaped depth is_empty
over_boundary count code option.none v = []
over_boundary count code (some b) v =
    cond (eqb code 0) []
    (cond (is_empty (shaped (depth code) b)) (matches (values_depth code) b v) [] ++ ranged count (values_depth code) v)

unfoldable pub values : ℕ → ℕ → Option Json → Check
unfolding all array_kind over_boundary
values count code b = all (array_kind ∷ over_boundary count code b ∷ [])

-- rule 8: "Semantics: `surfaces`, `values`"
unfoldable pub semantics : ℕ → Option Json → Check
unfolding all object_kind needs at surfaces values count_in find
semantics code b v =
    all (object_kind ∷ needs ("surfaces" ∷ "values" ∷ [])
    ∷ at "surfaces" surfaces
    ∷ at "values" (values (count_in (find "surfaces" v)) code b)
    ∷ []) v

-- rule 8: "`lod` unless the type is `GeometryInstance`"
unfoldable pub needs_lod : Check
unfolding is type_text needs
needs_lod v = cond (is "GeometryInstance" (type_text v)) [] (needs ("lod" ∷ []) v)

-- a geometry of an object whose type has this code, with so many vertices; rule 8: "Geometry: `type`, `boundaries`"
unfoldable pub geometry : ℕ → ℕ → Check
unfolding all object_kind needs needs_lod at geometry_type lod code_of geometry_words type_text boundaries semantics find
geometry vertices object v =
    let code = code_of geometry_words (type_text v) in
    all (object_kind ∷ needs ("type" ∷ "boundaries" ∷ []) ∷ needs_lod
    ∷ at "type" (geometry_type object code)
    ∷ at "lod" lod
    ∷ at "boundaries" (boundaries vertices code)
    ∷ at "semantics" (semantics code (find "boundaries" v))
    ∷ []) v

unfoldable pub geometries : ℕ → ℕ → Check
unfolding all array_kind each_element geometry
geometries vertices object = all (array_kind ∷ each_element (geometry vertices object) ∷ [])

-- a list of IDs
unfoldable pub links : Check
unfolding all array_kind each_element string_kind
links = all (array_kind ∷ each_element string_kind ∷ [])

-- rule 8: "City object: `type`"
unfoldable pub city_object : ℕ → Check
unfolding all object_kind needs at object_type links geometries code_of object_words type_text
city_object vertices v =
    all (object_kind ∷ needs ("type" ∷ [])
    ∷ at "type" object_type
    ∷ at "attributes" object_kind
    ∷ at "children" links
    ∷ at "parents" links
    ∷ at "geometry" (geometries vertices (code_of object_words (type_text v)))
    ∷ []) v

-- the fault of rule 9 at the first of these members, if there is one
unfoldable pub name_fault : List Member → List ℕ
unfolding fault
name_fault [] = []
name_fault (m ∷ ms) = fault 9 m.0.place ∷ []

-- rule 9: "more than 1,024 city objects" at the "name of the 1,025th"
unfoldable pub object_limit : Check
unfolding name_fault members
object_limit v = name_fault (drop 1024 (members v))

unfoldable pub city_objects : ℕ → Check
unfolding all object_kind object_limit each_member city_object
city_objects vertices = all (object_kind ∷ object_limit ∷ each_member (city_object vertices) ∷ [])

-- `scale` and `translate`
unfoldable pub three_pairs : Check
unfolding all array_kind each_element number_kind three_entries pair_range
three_pairs = all (array_kind ∷ each_element number_kind ∷ three_entries ∷ each_element pair_range ∷ [])

-- rule 8: "Transform: `scale`, `translate`"
unfoldable pub transform : Check
unfolding all object_kind needs at three_pairs
transform = all (object_kind ∷ needs ("scale" ∷ "translate" ∷ []) ∷ at "scale" three_pairs ∷ at "translate" three_pairs ∷ [])

unfoldable pub vertices : Check
unfolding all array_kind each_element vertex
vertices = all (array_kind ∷ each_element vertex ∷ [])

-- rule 8: "Root: `type`, `version`, `transform`, `CityObjects`, `vertices`"; rule 10: "Root type `CityJSON`, version `2.0`"
unfoldable pub city_json : Check
unfolding all object_kind needs at word transform city_objects vertices count_in find
city_json v =
    all (object_kind ∷ needs ("type" ∷ "version" ∷ "transform" ∷ "CityObjects" ∷ "vertices" ∷ [])
    ∷ at "type" (word "CityJSON")
    ∷ at "version" (word "2.0")
    ∷ at "transform" transform
    ∷ at "CityObjects" (city_objects (count_in (find "vertices" v)))
    ∷ at "vertices" vertices
    ∷ []) v
