-- Rules 7 to 17 of docs/RULES.md, by computation: examples of each, those at its bounds among them. The expected verdicts are worked out from that page.
use Rattle.std.specs.Prelude.{ℕ, zero, suc, ◌+◌, ◌*◌, ◌/◌, ◌%◌, ◌≡◌, refl, List, [], ◌∷◌, ◌++◌, map}
use Prim.Native.String.{String}
use Rattle.utf8.specs.Ascii.{ascii}
use Rattle.json_text.specs.Tree.{Json, num, str, arr, obj, no_items, ◌▸◌, Members, empty, member}
use Rattle.json_text.specs.Machine.{reads, read}
use Rattle.everywhere.specs.Everywhere.{rule5}
use Rattle.nodes.specs.Faults.{fault, least, no_fault}
use Rattle.rules.specs.Schema.{city_json}
use Rattle.rules.specs.Links.{link_faults}
use Rattle.verdict.specs.Verdict.{Verdict, accepted, refused, given}
use Rattle.verdict.proofs.Examples.{judges}

-- ---- texts around a part

-- a text with one vertex and the given value of `CityObjects`; the part starts at byte 120
unfoldable around_objects : List ℕ → List ℕ
unfolding ascii
around_objects part =
    ascii "{\"type\":\"CityJSON\",\"version\":\"2.0\",\"transform\":{\"scale\":[1,1,1],\"translate\":[0,0,0]},\"vertices\":[[0,0,0]],\"CityObjects\":"
    ++ (part ++ ascii "}")

unfoldable with_objects : String → List ℕ
unfolding ascii around_objects
with_objects part = around_objects (ascii part)

-- a text with two vertices, whose one object, of a type that may have any geometry, has the given geometries; the part starts at byte 170
unfoldable around_geometries : List ℕ → List ℕ
unfolding ascii
around_geometries part =
    ascii "{\"type\":\"CityJSON\",\"version\":\"2.0\",\"transform\":{\"scale\":[1,1,1],\"translate\":[0,0,0]},"
    ++ (ascii "\"vertices\":[[0,0,0],[1,1,1]],\"CityObjects\":{\"a1\":{\"type\":\"CityFurniture\",\"geometry\":["
    ++ (part ++ ascii "]}}}"))

unfoldable with_geometries : String → List ℕ
unfolding ascii around_geometries
with_geometries part = around_geometries (ascii part)

-- a geometry of a type, with a boundary
unfoldable geometry : String → String → List ℕ
unfolding ascii
geometry kind boundary =
    ascii "{\"type\":\"" ++ (ascii kind ++ (ascii "\",\"lod\":\"1\",\"boundaries\":" ++ (ascii boundary ++ ascii "}")))

-- some geometries in a row
unfoldable row : List (List ℕ) → List ℕ
unfolding ascii
row [] = []
row (g ∷ []) = g
row (g ∷ h ∷ gs) = g ++ (ascii "," ++ row (h ∷ gs))

-- a geometry of a type, with a boundary, one surface and values
unfoldable with_values : String → String → String → List ℕ
unfolding ascii around_geometries
with_values kind boundary values =
    around_geometries
    (ascii "{\"type\":\"" ++ (ascii kind ++ (ascii "\",\"lod\":\"1\",\"boundaries\":" ++ (ascii boundary
    ++ (ascii ",\"semantics\":{\"surfaces\":[{\"type\":\"Window\"}],\"values\":" ++ (ascii values ++ ascii "}}"))))))

-- a MultiPoint of one point, whose value is the first of some surfaces; the part starts at byte 243
unfoldable with_surfaces : String → List ℕ
unfolding ascii around_geometries
with_surfaces part =
    around_geometries
    (ascii "{\"type\":\"MultiPoint\",\"lod\":\"1\",\"boundaries\":[0],\"semantics\":{\"surfaces\":[" ++ (ascii part ++ ascii "],\"values\":[0]}}"))

-- an object of a type, with empty geometries of two types
unfoldable with_two : String → String → String → List ℕ
unfolding ascii around_objects geometry row
with_two object one two =
    around_objects
    (ascii "{\"a\":{\"type\":\"" ++ (ascii object ++ (ascii "\",\"geometry\":["
    ++ (row (geometry one "[]" ∷ geometry two "[]" ∷ []) ++ ascii "]}}"))))

-- a text with no object and no vertex, with the given `type` and `version` of the root
unfoldable with_root : String → String → List ℕ
unfolding ascii
with_root kind version =
    ascii "{\"type\":\"" ++ (ascii kind ++ (ascii "\",\"version\":\"" ++ (ascii version
    ++ ascii "\",\"transform\":{\"scale\":[1,1,1],\"translate\":[0,0,0]},\"CityObjects\":{},\"vertices\":[]}")))

-- a text with no object and no vertex, with the given value of `transform`; the part starts at byte 80
unfoldable with_transform : String → List ℕ
unfolding ascii
with_transform part =
    ascii "{\"type\":\"CityJSON\",\"version\":\"2.0\",\"CityObjects\":{}, \"vertices\":[], \"transform\":"
    ++ (ascii part ++ ascii "}")

-- a text with no object, with the given value of `vertices`; the part starts at byte 120
unfoldable with_vertices : String → List ℕ
unfolding ascii
with_vertices part =
    ascii "{\"type\":\"CityJSON\",\"version\":\"2.0\",\"transform\":{\"scale\":[0.1,0.1,0.1],\"translate\":[10,0,0]},\"CityObjects\":{},\"vertices\":"
    ++ (ascii part ++ ascii "}")

-- ---- the table

-- a text, and its verdict by the rules
abbrev Example : Type 0
Example = List ℕ × Verdict

unfoldable examples : List Example
unfolding ascii around_objects with_objects around_geometries with_geometries geometry row with_values with_surfaces with_two with_root with_transform with_vertices
examples =
    -- the texts around the parts break no rule themselves
    -- no object
    (with_objects "{}", accepted 0)
    -- one object with one geometry
    ∷ (with_geometries "{\"type\":\"MultiPoint\",\"lod\":\"1\",\"boundaries\":[0,1]}", accepted 1)
    -- a transform that moves nothing
    ∷ (with_transform "{\"scale\":[1,1,1],\"translate\":[0,0,0]}", accepted 0)
    -- no vertex
    ∷ (with_vertices "[]", accepted 0)
    -- rule 7: an escape in the name `type` is decoded
    ∷ (ascii "{\"ty\\u0070e\":1}", refused 7 13 14)
    -- rule 7 comes before rule 8, though the place of rule 8 is earlier
    ∷ (ascii "{\"version\":2.0}", refused 7 11 14)
    -- rule 7: of two wrong kinds the smaller place
    ∷ (ascii "{\"vertices\":{},\"type\":null}", refused 7 12 14)
    -- rule 7: `transform` is an object
    ∷ (with_transform "[]", refused 7 80 82)
    -- rule 7: `scale` is an array
    ∷ (with_transform "{\"scale\":1,\"translate\":[0,0,0]}", refused 7 89 90)
    -- rule 7: an entry of `translate` is a number
    ∷ (with_transform "{\"scale\":[1,1,1],\"translate\":[0,\"0\",0]}", refused 7 112 115)
    -- rule 7: `CityObjects` is an object
    ∷ (with_objects "[]", refused 7 120 122)
    -- rule 7: a city object is an object
    ∷ (with_objects "{\"a\":null}", refused 7 125 129)
    -- rule 7: `attributes` is an object
    ∷ (with_objects "{\"a\":{\"type\":\"Road\",\"attributes\":[]}}", refused 7 153 155)
    -- rule 7: `children` is an array
    ∷ (with_objects "{\"a\":{\"type\":\"Road\",\"children\":\"b\"}}", refused 7 151 154)
    -- rule 7: an entry of `parents` is a string
    ∷ (with_objects "{\"a\":{\"type\":\"Road\",\"parents\":[0]}}", refused 7 151 152)
    -- rule 7: `geometry` is an array
    ∷ (with_objects "{\"a\":{\"type\":\"Road\",\"geometry\":{}}}", refused 7 151 153)
    -- rule 7: a geometry is an object
    ∷ (with_geometries "[]", refused 7 170 172)
    -- rule 7: `lod` is a string
    ∷ (with_geometries "{\"type\":\"MultiPoint\",\"lod\":1,\"boundaries\":[0]}", refused 7 197 198)
    -- rule 7: `boundaries` is an array
    ∷ (with_geometries "{\"type\":\"MultiPoint\",\"lod\":\"1\",\"boundaries\":0}", refused 7 214 215)
    -- rule 7: `semantics` is an object
    ∷ (with_geometries "{\"type\":\"MultiPoint\",\"lod\":\"1\",\"boundaries\":[0],\"semantics\":null}", refused 7 230 234)
    -- rule 7: a surface is an object
    ∷ (with_surfaces "\"Window\"", refused 7 243 251)
    -- rule 7: `values` is an array
    ∷ (with_values "MultiPoint" "[0]" "null", refused 7 271 275)
    -- rule 7: a name counts only in the object it belongs to
    ∷ (with_objects "{\"a\":{\"type\":\"Road\",\"scale\":0,\"lod\":0,\"attributes\":{\"type\":0}}}", accepted 1)
    -- rule 7: `children` and `parent` of a surface are unexamined
    ∷ (with_surfaces "{\"type\":\"Door\",\"children\":0,\"parent\":\"x\"}", accepted 1)
    -- rule 8: the root has no `vertices`
    ∷ (ascii " {\"type\":\"\",\"version\":\"\",\"transform\":{},\"CityObjects\":{}}", refused 8 1 57)
    -- rule 8: `transform` has no `translate`
    ∷ (with_transform "{\"scale\":[1,1,1]}", refused 8 80 97)
    -- rule 8: a city object has no `type`
    ∷ (with_objects "{\"a\":{\"type\":\"Road\"},\"b\":{}}", refused 8 145 147)
    -- rule 8: a geometry has no `lod`
    ∷ (with_geometries "{\"type\":\"MultiPoint\",\"boundaries\":[0]}", refused 8 170 208)
    -- rule 8: a `GeometryInstance` needs no `lod`, so that rule 11 is the lowest
    ∷ (with_geometries "{\"type\":\"GeometryInstance\",\"boundaries\":[0]}", refused 11 178 196)
    -- rule 8: a `GeometryInstance` needs `boundaries`
    ∷ (with_geometries "{\"type\":\"GeometryInstance\",\"lod\":\"1\"}", refused 8 170 207)
    -- rule 8: a geometry of an unknown type needs a `lod`
    ∷ (with_geometries "{\"type\":\"Point\",\"boundaries\":[0]}", refused 8 170 203)
    -- rule 8: `semantics` has no `values`
    ∷ (with_geometries "{\"type\":\"MultiPoint\",\"lod\":\"1\",\"boundaries\":[0],\"semantics\":{\"surfaces\":[]}}", refused 8 230 245)
    -- rule 8: a surface has no `type`
    ∷ (with_surfaces "{\"type\":\"Door\"},{}", refused 8 259 261)
    -- rule 8: a name counts only in the object it belongs to
    ∷ (with_geometries "{\"lod\":\"1\",\"boundaries\":[0],\"texture\":{\"type\":\"MultiPoint\"}}", refused 8 170 230)
    -- rule 10: the root's `type` is `CityJSON`
    ∷ (with_root "CityJSONFeature" "2.0", refused 10 8 25)
    -- rule 10: `version` is `2.0`
    ∷ (with_root "CityJSON" "2.0.1", refused 10 29 36)
    -- rule 10: a word is compared after its escapes are decoded
    ∷ (with_root "\\u0043ityJSON" "2\\u002e0", accepted 0)
    -- rule 10: an object type has its capital letters
    ∷ (with_objects "{\"a\":{\"type\":\"road\"}}", refused 10 133 139)
    -- rule 10: an object type is not empty
    ∷ (with_objects "{\"a\":{\"type\":\"\"}}", refused 10 133 135)
    -- rule 10: a geometry type is one of the list
    ∷ (with_geometries "{\"type\":\"Point\",\"lod\":\"1\",\"boundaries\":[0]}", refused 10 178 185)
    -- rule 10: a geometry type has no `+`
    ∷ (with_geometries "{\"type\":\"+MultiPoint\",\"lod\":\"1\",\"boundaries\":[0]}", refused 10 178 191)
    -- rule 10: `lod`, digit, point, digit
    ∷ (with_geometries "{\"type\":\"MultiPoint\",\"lod\":\"2.1\",\"boundaries\":[0]}", accepted 1)
    -- rule 10: `lod`, a point is followed by a digit
    ∷ (with_geometries "{\"type\":\"MultiPoint\",\"lod\":\"2.\",\"boundaries\":[0]}", refused 10 197 201)
    -- rule 10: `lod`, one digit follows the point
    ∷ (with_geometries "{\"type\":\"MultiPoint\",\"lod\":\"2.10\",\"boundaries\":[0]}", refused 10 197 203)
    -- rule 10: `lod`, a digit is not followed by a digit
    ∷ (with_geometries "{\"type\":\"MultiPoint\",\"lod\":\"10\",\"boundaries\":[0]}", refused 10 197 201)
    -- rule 10: `lod`, not empty
    ∷ (with_geometries "{\"type\":\"MultiPoint\",\"lod\":\"\",\"boundaries\":[0]}", refused 10 197 199)
    -- rule 10: `lod`, the mark between the digits is a point
    ∷ (with_geometries "{\"type\":\"MultiPoint\",\"lod\":\"2,1\",\"boundaries\":[0]}", refused 10 197 202)
    -- rule 10: a surface type is one of the list
    ∷ (with_surfaces "{\"type\":\"Roof\"}", refused 10 251 257)
    -- rule 10: a surface type may be `+` and one more byte
    ∷ (with_surfaces "{\"type\":\"+a\"}", accepted 1)
    -- rule 10: a surface type is not `+` alone
    ∷ (with_surfaces "{\"type\":\"+\"}", refused 10 251 254)
    -- rule 11: `GeometryInstance`
    ∷ (with_geometries "{\"type\":\"GeometryInstance\",\"template\":0,\"boundaries\":[0]}", refused 11 178 196)
    -- rule 11: `GeometryInstance` with a `lod` and a boundary of a wrong shape
    ∷ (with_geometries "{\"boundaries\":[\"x\"],\"lod\":\"1\",\"type\":\"GeometryInstance\"}", refused 11 207 225)
    -- rule 11: an object type beginning `+`
    ∷ (with_objects "{\"a\":{\"type\":\"+House\"}}", refused 11 133 141)
    -- rule 11: an object type that is `+` alone
    ∷ (with_objects "{\"a\":{\"type\":\"+\"}}", refused 11 133 136)
    -- rule 11: the `+` may be escaped
    ∷ (with_objects "{\"a\":{\"type\":\"\\u002bHouse\"}}", refused 11 133 146)
    -- rule 11 comes after rule 10
    ∷ (with_geometries "{\"type\":\"GeometryInstance\",\"lod\":\"x\",\"boundaries\":[0]}", refused 10 203 206)
    -- rule 12: `scale` holds three numbers
    ∷ (with_transform "{\"scale\":[1,1],\"translate\":[0,0,0]}", refused 12 89 94)
    -- rule 12: `translate` holds three numbers
    ∷ (with_transform "{\"scale\":[1,1,1],\"translate\":[0,0,0,0]}", refused 12 109 118)
    -- rule 12: a vertex has three integers
    ∷ (with_vertices "[[0,0,0],[0,0]]", refused 12 129 134)
    -- rule 12: a vertex has integers, with no fraction
    ∷ (with_vertices "[[0,0,0.0]]", refused 12 121 130)
    -- rule 12: a vertex has integers, with no exponent part
    ∷ (with_vertices "[[0,1e0,0]]", refused 12 121 130)
    -- rule 12: a vertex is an array, and rule 7 says nothing of it
    ∷ (with_vertices "[\"x\"]", refused 12 121 124)
    -- rule 12: a MultiLineString has a boundary of depth 2
    ∷ (with_geometries "{\"type\":\"MultiLineString\",\"lod\":\"1\",\"boundaries\":[[0],0]}", refused 12 224 225)
    -- rule 12: a MultiPoint has a boundary of depth 1
    ∷ (with_geometries "{\"type\":\"MultiPoint\",\"lod\":\"1\",\"boundaries\":[0,[0]]}", refused 12 217 220)
    -- rule 12: a MultiSurface has a boundary of depth 3, and one bracket more is wrong
    ∷ (with_geometries "{\"type\":\"MultiSurface\",\"lod\":\"1\",\"boundaries\":[[[[0]]]]}", refused 12 219 222)
    -- rule 12: an index has no fraction
    ∷ (with_geometries "{\"type\":\"MultiPoint\",\"lod\":\"1\",\"boundaries\":[0.0]}", refused 12 215 218)
    -- rule 12: an index has no exponent part
    ∷ (with_geometries "{\"type\":\"CompositeSurface\",\"lod\":\"1\",\"boundaries\":[[[0,1E0]]]}", refused 12 225 228)
    -- rule 12: an index is not null
    ∷ (with_geometries "{\"type\":\"Solid\",\"lod\":\"1\",\"boundaries\":[[[[null]]]]}", refused 12 213 217)
    -- rule 12: the depths of all geometry types
    ∷ (
      around_geometries
          (row
          (geometry "MultiPoint" "[0]" ∷ geometry "MultiLineString" "[[0]]" ∷ geometry "MultiSurface" "[[[0]]]" ∷ geometry "CompositeSurface" "[[[0]]]"
          ∷ geometry "Solid" "[[[[0]]]]" ∷ geometry "MultiSolid" "[[[[[0]]]]]" ∷ geometry "CompositeSolid" "[[[[[0]]]]]" ∷ [])),
      accepted 1,
    )
    -- rule 12: empty arrays are permitted at each level
    ∷ (
      around_geometries (row (geometry "MultiPoint" "[]" ∷ geometry "Solid" "[[],[[]],[[[]]]]" ∷ geometry "MultiSolid" "[[[[]]]]" ∷ [])),
      accepted 1,
    )
    -- rule 12: `values` at each depth
    -- rule 12: values of depth 1, one too many
    ∷ (with_values "MultiPoint" "[0,1]" "[0,0,0]", refused 12 273 280)
    -- rule 12: values of depth 1, one too few
    ∷ (with_values "MultiLineString" "[[0],[1]]" "[0]", refused 12 282 285)
    -- rule 12: values of depth 1 count the surfaces of a MultiSurface, not their rings
    ∷ (with_values "MultiSurface" "[[[0],[1]]]" "[0]", accepted 1)
    -- rule 12: values of depth 1 that count rings
    ∷ (with_values "MultiSurface" "[[[0],[1]]]" "[0,0]", refused 12 281 286)
    -- rule 12: an array at the last level of values
    ∷ (with_values "CompositeSurface" "[[[0]]]" "[[0]]", refused 12 282 285)
    -- rule 12: values of depth 2
    ∷ (with_values "Solid" "[[[[0]],[[1]]],[]]" "[[0,null],[]]", accepted 1)
    -- rule 12: values of depth 2, a wrong count of shells
    ∷ (with_values "Solid" "[[[[0]]]]" "[[0],[0]]", refused 12 272 281)
    -- rule 12: values of depth 2, a wrong count in a shell
    ∷ (with_values "Solid" "[[[[0]]],[[[0]],[[1]]]]" "[[0],[0]]", refused 12 291 294)
    -- rule 12: a number above the last level of values
    ∷ (with_values "Solid" "[[[[0]]]]" "[0]", refused 12 273 274)
    -- rule 12: null above the last level of values
    ∷ (with_values "Solid" "[[[[0]]]]" "[null]", refused 12 273 277)
    -- rule 12: values of depth 3
    ∷ (with_values "CompositeSolid" "[[[[[0]]]],[]]" "[[[0]],[]]", accepted 1)
    -- rule 12: values of depth 3, a wrong count of solids
    ∷ (with_values "CompositeSolid" "[[[[[0]]]]]" "[]", refused 12 283 285)
    -- rule 12: values of depth 3, a wrong count of shells
    ∷ (with_values "MultiSolid" "[[[[[0]]]]]" "[[]]", refused 12 280 282)
    -- rule 12: values of depth 3, a wrong count in a shell
    ∷ (with_values "MultiSolid" "[[[[[0]]]]]" "[[[0,0]]]", refused 12 281 286)
    -- rule 12: a string at the last level of values
    ∷ (with_values "MultiPoint" "[0]" "[\"0\"]", refused 12 272 275)
    -- rule 12: a value has no fraction
    ∷ (with_values "MultiPoint" "[0]" "[0.0]", refused 12 272 275)
    -- rule 12: values are not judged if the boundary has a wrong shape
    ∷ (
      with_geometries "{\"semantics\":{\"values\":[0,0,0],\"surfaces\":[{\"type\":\"Window\"}]},\"type\":\"MultiPoint\",\"lod\":\"1\",\"boundaries\":[\"x\"]}",
      refused 12 277 280,
    )
    -- rule 13: the greatest 32-bit integer
    ∷ (with_vertices "[[2147483647,0,0]]", accepted 0)
    -- rule 13: one more
    ∷ (with_vertices "[[0,2147483648,0]]", refused 13 124 134)
    -- rule 13: the least 32-bit integer
    ∷ (with_vertices "[[0,-2147483648,0]]", accepted 0)
    -- rule 13: one less
    ∷ (with_vertices "[[0,0,-2147483649]]", refused 13 126 137)
    -- rule 13: -0 in a vertex
    ∷ (with_vertices "[[-0,0,-0]]", accepted 0)
    -- rule 13: the last of two vertices
    ∷ (with_geometries "{\"type\":\"MultiPoint\",\"lod\":\"1\",\"boundaries\":[1]}", accepted 1)
    -- rule 13: an index is below the vertex count
    ∷ (with_geometries "{\"type\":\"MultiPoint\",\"lod\":\"1\",\"boundaries\":[1,2]}", refused 13 217 218)
    -- rule 13: -0 is the index 0
    ∷ (with_geometries "{\"type\":\"MultiPoint\",\"lod\":\"1\",\"boundaries\":[-0]}", accepted 1)
    -- rule 13: an index is at least 0
    ∷ (with_geometries "{\"type\":\"Solid\",\"lod\":\"1\",\"boundaries\":[[[[0,-1]]]]}", refused 13 215 217)
    -- rule 13: an index that 64 bits do not hold
    ∷ (with_geometries "{\"type\":\"MultiPoint\",\"lod\":\"1\",\"boundaries\":[18446744073709551616]}", refused 13 215 235)
    -- rule 13: -0 is the semantic value 0
    ∷ (with_values "MultiPoint" "[0]" "[-0]", accepted 1)
    -- rule 13: -1 is not null
    ∷ (with_values "MultiPoint" "[0]" "[-1]", refused 13 272 274)
    -- rule 13: a semantic value is below the surface count
    ∷ (with_values "MultiPoint" "[0,1]" "[0,1]", refused 13 276 277)
    -- rule 13: no surfaces, so that null alone is in range
    ∷ (with_geometries "{\"type\":\"MultiPoint\",\"lod\":\"1\",\"boundaries\":[0,1],\"semantics\":{\"surfaces\":[],\"values\":[null,0]}}", refused 13 262 263)
    -- rule 13: e is 22
    ∷ (with_transform "{\"scale\":[1e22,0.1E+23,-100e20],\"translate\":[0,0,0]}", accepted 0)
    -- rule 13: e is 23, since m is no multiple of ten
    ∷ (with_transform "{\"scale\":[1,1,10e22],\"translate\":[0,0,0]}", refused 13 94 99)
    -- rule 13: e is -22
    ∷ (with_transform "{\"scale\":[1e-22,10e-23,0.1e-21],\"translate\":[0,0,0]}", accepted 0)
    -- rule 13: e is -23
    ∷ (with_transform "{\"scale\":[1,1,1],\"translate\":[0.1e-22,0,0]}", refused 13 110 117)
    -- rule 13: m is 10^15 - 1, and 10^15 is the pair (1, 15)
    ∷ (with_transform "{\"scale\":[1,1,1],\"translate\":[999999999999999,-999999999999999,1000000000000000]}", accepted 0)
    -- rule 13: m is 10^15 + 1
    ∷ (with_transform "{\"scale\":[1,1,1],\"translate\":[0,1000000000000001,0]}", refused 13 112 128)
    -- rule 13: zero is (0, 0) however it is written
    ∷ (with_transform "{\"scale\":[-0,0.000,0e99],\"translate\":[0E-99,-0.0e1,0]}", accepted 0)
    -- rule 14: LandUse has a MultiSurface
    ∷ (with_objects "{\"a\":{\"type\":\"LandUse\",\"geometry\":[{\"type\":\"MultiSurface\",\"lod\":\"1\",\"boundaries\":[[[0]]]}]}}", accepted 1)
    -- rule 14: LandUse has no Solid
    ∷ (with_objects "{\"a\":{\"type\":\"LandUse\",\"geometry\":[{\"type\":\"Solid\",\"lod\":\"1\",\"boundaries\":[]}]}}", refused 14 163 170)
    -- rule 14: Building has no MultiSolid
    ∷ (with_two "Building" "CompositeSolid" "MultiSolid", refused 14 216 228)
    -- rule 14: GenericCityObject has all but MultiSolid
    ∷ (with_two "GenericCityObject" "MultiPoint" "MultiSolid", refused 14 221 233)
    -- rule 14: TINRelief has a CompositeSurface alone
    ∷ (with_two "TINRelief" "CompositeSurface" "MultiSurface", refused 14 219 233)
    -- rule 14: WaterBody has no MultiPoint
    ∷ (with_two "WaterBody" "MultiLineString" "MultiPoint", refused 14 218 230)
    -- rule 14: PlantCover has no MultiLineString
    ∷ (with_two "PlantCover" "MultiSolid" "MultiLineString", refused 14 214 231)
    -- rule 14: the object's type may come after its geometry
    ∷ (with_objects "{\"a\":{\"geometry\":[{\"type\":\"MultiPoint\",\"lod\":\"1\",\"boundaries\":[0]}],\"type\":\"Bridge\"}}", refused 14 146 158)
    -- rule 14 comes after rule 13
    ∷ (with_objects "{\"a\":{\"type\":\"LandUse\",\"geometry\":[{\"type\":\"MultiPoint\",\"lod\":\"1\",\"boundaries\":[1]}]}}", refused 13 200 201)
    -- rule 15: a child that is no object
    ∷ (with_objects "{\"a\":{\"type\":\"Road\",\"children\":[\"b\"]}}", refused 15 152 155)
    -- rule 15: a parent that is no object
    ∷ (with_objects "{\"a\":{\"type\":\"Road\",\"parents\":[\"A\"]}}", refused 15 151 154)
    -- rule 15: a child of a group that is no object
    ∷ (with_objects "{\"a\":{\"type\":\"CityObjectGroup\",\"children\":[\"b\"]}}", refused 15 163 166)
    -- rule 15: a child listed before in the same list
    ∷ (with_objects "{\"a\":{\"type\":\"Road\",\"children\":[\"b\",\"b\"]},\"b\":{\"type\":\"Road\",\"parents\":[\"a\"]}}", refused 15 156 159)
    -- rule 15: listed before, as decoded
    ∷ (with_objects "{\"a\":{\"type\":\"Road\",\"children\":[\"b\",\"\\u0062\"]},\"b\":{\"type\":\"Road\",\"parents\":[\"a\"]}}", refused 15 156 164)
    -- rule 15: IDs are compared after their escapes are decoded
    ∷ (with_objects "{\"a\":{\"type\":\"Road\",\"children\":[\"\\u0062\"]},\"\\u0062\":{\"type\":\"Road\",\"parents\":[\"\\u0061\"]}}", accepted 2)
    -- rule 15: the same ID in both lists of an object, which is its own child and parent
    ∷ (with_objects "{\"a\":{\"type\":\"Road\",\"children\":[\"a\"],\"parents\":[\"a\"]}}", accepted 1)
    -- rule 15: `children` among the attributes is unexamined
    ∷ (with_objects "{\"a\":{\"type\":\"Road\",\"attributes\":{\"children\":[\"b\"]}}}", accepted 1)
    -- rule 16: a second-level object with no `parents`
    ∷ (with_objects "{\"a\":{\"type\":\"BuildingPart\"}}", refused 16 125 148)
    -- rule 16: a second-level object with an empty list of parents
    ∷ (with_objects "{\"a\":{\"type\":\"Tunnel\"},\"b\":{\"type\":\"TunnelFurniture\",\"parents\":[]}}", refused 16 147 186)
    -- rule 16: a first-level object needs no parent
    ∷ (with_objects "{\"a\":{\"type\":\"Waterway\",\"parents\":[]}}", accepted 1)
    -- rule 16: BridgePart is of the second level
    ∷ (with_objects "{\"a\":{\"type\":\"BridgePart\",\"children\":[]}}", refused 16 125 160)
    -- rule 16: a second-level object with a parent
    ∷ (with_objects "{\"a\":{\"type\":\"Building\",\"children\":[\"b\"]},\"b\":{\"type\":\"BuildingRoom\",\"parents\":[\"a\"]}}", accepted 2)
    -- rule 16 comes before rule 17
    ∷ (with_objects "{\"a\":{\"type\":\"Building\",\"children\":[\"b\"]},\"b\":{\"type\":\"BuildingPart\"}}", refused 16 166 189)
    -- rule 17: a listed child does not list the object as parent
    ∷ (with_objects "{\"a\":{\"type\":\"Road\",\"children\":[\"b\"]},\"b\":{\"type\":\"Road\"}}", refused 17 152 155)
    -- rule 17: a listed parent does not list the object as child
    ∷ (with_objects "{\"a\":{\"type\":\"Building\"},\"b\":{\"type\":\"BuildingPart\",\"parents\":[\"a\"]}}", refused 17 183 186)
    -- rule 17: a listed child lists another parent alone
    ∷ (
      around_objects
          (ascii "{\"a\":{\"type\":\"Road\",\"children\":[\"c\"]},\"b\":{\"type\":\"Road\",\"children\":[\"c\"]},"
          ++ ascii "\"c\":{\"type\":\"Road\",\"parents\":[\"b\"]}}"),
      refused 17 152 155,
    )
    -- rule 17: a listed child that lists the object as child, not as parent
    ∷ (with_objects "{\"a\":{\"type\":\"Road\",\"children\":[\"b\"]},\"b\":{\"type\":\"Road\",\"children\":[\"a\"]}}", refused 17 152 155)
    -- rule 17: a child of a group need not list it as parent
    ∷ (with_objects "{\"a\":{\"type\":\"CityObjectGroup\",\"children\":[\"b\"]},\"b\":{\"type\":\"Road\"}}", accepted 2)
    -- rule 17: a group that is a listed parent must list the object as child
    ∷ (with_objects "{\"a\":{\"type\":\"CityObjectGroup\"},\"b\":{\"type\":\"Road\",\"parents\":[\"a\"]}}", refused 17 182 185)
    -- rule 17: a parent that a group lists must list the group as child
    ∷ (with_objects "{\"a\":{\"type\":\"CityObjectGroup\",\"parents\":[\"b\"]},\"b\":{\"type\":\"Road\"}}", refused 17 162 165)
    -- rule 17: the group's type after its links, and escaped
    ∷ (with_objects "{\"a\":{\"children\":[\"b\"],\"ty\\u0070e\":\"CityObject\\u0047roup\"},\"b\":{\"type\":\"Road\"}}", accepted 2)
    -- members in another order
    -- the members of the root and of `transform` in another order
    ∷ (
      ascii "{\"vertices\":[],\"CityObjects\":{},\"transform\":{\"translate\":[0,0,0],\"scale\":[1,1,1]},\"version\":\"2.0\",\"type\":\"CityJSON\"}",
      accepted 0,
    )
    -- the vertex count is that of `vertices`, wherever it stands
    ∷ (
      ascii "{\"CityObjects\":{\"a\":{\"geometry\":[{\"boundaries\":[0,1],\"lod\":\"1\",\"type\":\"MultiPoint\"}],\"type\":\"Road\"}},"
          ++ ascii "\"vertices\":[[0,0,0]],\"transform\":{\"translate\":[0,0,0],\"scale\":[1,1,1]},\"version\":\"2.0\",\"type\":\"CityJSON\"}",
      refused 13 50 51,
    )
    -- a geometry's members, order 1
    ∷ (
      with_geometries "{\"type\":\"Solid\",\"lod\":\"1\",\"boundaries\":[[[[0]]]],\"semantics\":{\"surfaces\":[{\"type\":\"Window\"}],\"values\":[[0]]}}",
      accepted 1,
    )
    -- a geometry's members, order 2
    ∷ (
      with_geometries "{\"semantics\":{\"values\":[[0]],\"surfaces\":[{\"type\":\"Window\"}]},\"boundaries\":[[[[0]]]],\"lod\":\"1\",\"type\":\"Solid\"}",
      accepted 1,
    )
    -- a geometry's members, order 3
    ∷ (
      with_geometries "{\"lod\":\"1\",\"semantics\":{\"surfaces\":[{\"type\":\"Window\"}],\"values\":[[0]]},\"type\":\"Solid\",\"boundaries\":[[[[0]]]]}",
      accepted 1,
    )
    -- rule 13: the surface count is that of `surfaces`, wherever it stands
    ∷ (
      with_geometries "{\"type\":\"MultiPoint\",\"lod\":\"1\",\"boundaries\":[0],\"semantics\":{\"values\":[1],\"surfaces\":[{\"type\":\"Window\"}]}}",
      refused 13 241 242,
    )
    -- rule 16: the same place with the members in one order
    ∷ (with_objects "{\"a\":{\"type\":\"BuildingPart\",\"attributes\":{},\"children\":[],\"parents\":[],\"geometry\":[]}}", refused 16 125 205)
    -- rule 16: and in another
    ∷ (with_objects "{\"a\":{\"geometry\":[],\"parents\":[],\"children\":[],\"attributes\":{},\"type\":\"BuildingPart\"}}", refused 16 125 205)
    -- rule 17: a child that comes before its parent
    ∷ (with_objects "{\"b\":{\"parents\":[\"a\"],\"type\":\"BuildingPart\"},\"a\":{\"children\":[\"b\"],\"type\":\"Building\"}}", accepted 2)
    -- `type` with an escape in a city object
    ∷ (with_objects "{\"a\":{\"ty\\u0070e\":\"Road\"}}", accepted 1)
    -- rule 10: `type` with an escape in a city object
    ∷ (with_objects "{\"a\":{\"ty\\u0070e\":\"Rode\"}}", refused 10 138 144)
    -- rule 12: `type` and `boundaries` with an escape in a geometry
    ∷ (with_geometries "{\"ty\\u0070e\":\"MultiLineString\",\"lod\":\"1\",\"\\u0062oundaries\":[0]}", refused 12 230 231)
    -- ends: white space after a name, after an object, after a literal and after a string with an escape is no part of it
    ∷ (ascii "{ \"a\" : 1 , \"\\u0061\" : 2 }", refused 6 12 20)
    ∷ (ascii " { \"b\" : [ ] } \n", refused 8 1 14)
    ∷ (ascii "{ \"type\" : null , \"version\" : 2 }", refused 7 11 15)
    ∷ (
      ascii "{\"type\":\"CityJS\\u004fM\" ,\"version\":\"2.0\",\"transform\":{\"scale\":[1,1,1],\"translate\":[0,0,0]},\"CityObjects\":{},\"vertices\":[]}",
      refused 10 8 23,
    )
    ∷ []

-- every text of the table has the verdict beside it
all-examples : map (λ e. judges e.0) examples ≡ map (λ e. e.1) examples
unfolding judges examples
all-examples = refl

-- ---- rule 9, on trees

-- the four digits of a number
unfoldable digits : ℕ → List ℕ
digits i = (48 + i / 1000 % 10) ∷ (48 + i / 100 % 10) ∷ (48 + i / 10 % 10) ∷ (48 + i % 10) ∷ []

-- so many members `"dddd":{"type":"Road"}`, whose names have the digits of i and the numbers after it:
-- the name of 0 stands at 121, and each next one 23 bytes later
unfoldable road_members : ℕ → ℕ → Members
unfolding ascii digits
road_members zero i = empty
road_members (suc n) i =
    let p = 121 + 23 * i in
    member (record { place = p; end = p + 6; raw = digits i })
    (obj (p + 7) (p + 22) (member (record { place = p + 8; end = p + 14; raw = ascii "type" }) (str (p + 15) (p + 21) (ascii "Road")) empty))
    (road_members n (i + 1))

-- three equal numbers of one digit, as an array that starts at p
unfoldable triple : ℕ → ℕ → Json
triple digit p = arr p (p + 7) (num (p + 1) (p + 2) (digit ∷ []) ▸ num (p + 3) (p + 4) (digit ∷ []) ▸ num (p + 5) (p + 6) (digit ∷ []) ▸ no_items)

-- the tree of the text of `with_objects` with so many roads
unfoldable many_roads : ℕ → Json
unfolding ascii road_members triple
many_roads n =
    obj 0 (23 * n + 122)
    (member (record { place = 1; end = 7; raw = ascii "type" }) (str 8 18 (ascii "CityJSON"))
    (member (record { place = 19; end = 28; raw = ascii "version" }) (str 29 34 (ascii "2.0"))
    (member (record { place = 35; end = 46; raw = ascii "transform" }) (obj 47 84
    (member (record { place = 48; end = 55; raw = ascii "scale" }) (triple 49 56)
    (member (record { place = 64; end = 75; raw = ascii "translate" }) (triple 48 76) empty)))
    (member (record { place = 85; end = 95; raw = ascii "vertices" }) (arr 96 105 (triple 48 97 ▸ no_items))
    (member (record { place = 106; end = 119; raw = ascii "CityObjects" }) (obj 120 (23 * n + 121) (road_members n 0)) empty)))))

-- a text with three roads is read as that tree
three-roads : read (with_objects "{\"0000\":{\"type\":\"Road\"},\"0001\":{\"type\":\"Road\"},\"0002\":{\"type\":\"Road\"}}") ≡ reads (many_roads 3)
unfolding judges with_objects many_roads
three-roads = refl

-- the verdict of a tree by rules 5 and 7 to 17: rule 6 is left out, since computing it for so many names takes long
unfoldable judged_but_names : Json → Verdict
unfolding given least fault rule5 city_json link_faults
judged_but_names v = given v (least no_fault (map (fault 5) (rule5 v) ++ (city_json v ++ link_faults v)))

-- rule 9: 1,024 objects are not too many; stated of the tree, since reading so long a text takes minutes by computation
not-too-many : judged_but_names (many_roads 1024) ≡ accepted 1024
unfolding judged_but_names many_roads
not-too-many = refl

-- rule 9: 1,025 objects are, at the name of the last, which stands at 121 + 23 * 1024; of the tree likewise
too_many : judged_but_names (many_roads 1025) ≡ refused 9 23673 23679
unfolding judged_but_names many_roads
too_many = refl
