-- The city model of a JSON tree (docs/SHEET.md). Whatever is not there, or is of another kind, reads as empty, zero or none.
-- For an accepted text that matters for absent lists (`or_null`), for null (`value_of`) and for absent semantics alone.
use Rattle.std.specs.Prelude.{cond, List, [], ◌∷◌, map, ℕ, zero, suc, ◌-◌, get_or, eqb, ℤ, pos, negsuc}
use Rattle.std.proofs.Math.Option
use Rattle.std.proofs.Math.Option.{Option, none, some}
use Prim.Native.String.{String}
use Rattle.numerals.specs.Numerals.{Decimal, decimal, whole_of}
use Rattle.words.specs.Words.{object_words, geometry_words, surface_words, code_of, depth, values_depth}
use Rattle.json_text.specs.Tree as tree
use Rattle.json_text.specs.Tree.{Json}
use Rattle.nodes.specs.Access.{Member, elements, members, name_of, text_of, find}
use Rattle.model.specs.Model.{Nest, Three, Lod, Surface, listed, added, Semantics, Geometry, Object, Model}

-- "Absent and empty `children`, `parents` or `geometry` are the same": what is absent reads as null, which has no elements
unfoldable pub or_null : Option Json → Json
or_null none = tree.null 0 0
or_null (some j) = j

-- the member of this name, or null
unfoldable pub get : String → Json → Json
get name j = or_null (find name j)

-- a number, by its value
unfoldable pub maybe_decimal : Json → Option Decimal
maybe_decimal (tree.null p e) = none
maybe_decimal (tree.bool p e b) = none
maybe_decimal (tree.num p e raw) = some (decimal raw)
maybe_decimal (tree.str p e raw) = none
maybe_decimal (tree.arr p e vs) = none
maybe_decimal (tree.obj p e ms) = none

unfoldable pub zero_if_none : Option Decimal → Decimal
zero_if_none none = record { m = pos 0; e = pos 0 }
zero_if_none (some d) = d

unfoldable pub decimal_of : Json → Decimal
decimal_of j = zero_if_none (maybe_decimal j)

-- the value of a whole number
unfoldable pub integer_of : Json → ℤ
integer_of j = whole_of (decimal_of j)

unfoldable pub natural : ℤ → ℕ
natural (pos n) = n
natural (negsuc n) = 0

unfoldable pub index_of : Json → ℕ
index_of j = natural (integer_of j)

-- a semantic value: none where the value is no number, as null
unfoldable pub value_of : Json → Option ℕ
value_of j = Option.map (λ d. natural (whole_of d)) (maybe_decimal j)

unfoldable pub three_of : {A : Type 0} → (Json → A) → Json → Three A
three_of read j = let l = elements j in record { x = read (get_or l 0 (tree.null 0 0)); y = read (get_or l 1 (tree.null 0 0)); z = read (get_or l 2 (tree.null 0 0)) }

unfoldable pub nest_of : {A : Type 0} → (Json → A) → (d : ℕ) → Json → Nest A d
nest_of read zero j = read j
nest_of read (suc d) j = map (nest_of read d) (elements j)

unfoldable pub minor_of : List ℕ → Option ℕ
minor_of [] = none
minor_of (a ∷ []) = none
minor_of (a ∷ b ∷ []) = none
minor_of (a ∷ b ∷ c ∷ r) = some (c - 48)

unfoldable pub lod_of : List ℕ → Lod
lod_of t = record { major = get_or t 0 0 - 48; minor = minor_of t }

unfoldable pub surface_named : List ℕ → Surface
surface_named w = cond (eqb (get_or w 0 0) 43) (added w) (listed (code_of surface_words w))

unfoldable pub surface_of : Json → Surface
surface_of j = surface_named (text_of (get "type" j))

unfoldable pub semantics_of : (code : ℕ) → Json → Semantics code
semantics_of code j = record { surfaces = map surface_of (elements (get "surfaces" j)); values = nest_of value_of (values_depth code) (get "values" j) }

unfoldable pub geometry_of : Json → Geometry
geometry_of j =
    let c = code_of geometry_words (text_of (get "type" j)) in
    record {
      code = c;
      lod = lod_of (text_of (get "lod" j));
      boundary = nest_of index_of (depth c) (get "boundaries" j);
      semantics = Option.map (semantics_of c) (find "semantics" j);
    }

unfoldable pub object_of : Member → Object (List ℕ)
object_of m =
    let j = m.1 in
    record {
      id = name_of m;
      code = code_of object_words (text_of (get "type" j));
      children = map text_of (elements (get "children" j));
      parents = map text_of (elements (get "parents" j));
      geometries = map geometry_of (elements (get "geometry" j));
    }

-- "The town is what is read from the JSON values"
unfoldable pub model_of : Json → Model
model_of j = record {
  scale = three_of decimal_of (get "scale" (get "transform" j));
  translate = three_of decimal_of (get "translate" (get "transform" j));
  vertices = map (three_of integer_of) (elements (get "vertices" j));
  objects = map object_of (members (get "CityObjects" j));
}
