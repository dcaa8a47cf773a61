-- The bytes of the records of a geometry, and of its parts.
use Rattle.std.specs.Prelude.{List, [], ◌++◌, ℕ}
use Rattle.std.proofs.Math.Option.{Option, none, some}
use Rattle.json_text.specs.Tree.{Json}
use Rattle.nodes.specs.Access.{elements, find}
use Rattle.fields.specs.Fields.{text_in}
use Rattle.words.specs.Words.{depth, values_depth}
use Rattle.utf8.specs.Bytes.{le}
use Rattle.model.specs.Code.{concat_map}
use Rattle.model.specs.Model.{rec, lay_rec, lod_code, lay_nest, lay_values, surface_recs, semantics_recs, geometry_recs}
use Rattle.model.specs.Read.{get, or_null, index_of, value_of, nest_of, lod_of, surface_of, semantics_of, geometry_of}

-- what f gives for the elements of a value that was sought, one after the other
unfoldable pub each_in : (Json → List ℕ) → Option Json → List ℕ
each_in f o = concat_map f (elements (or_null o))

-- a surface: kind 7
unfoldable pub surface_bytes : Json → List ℕ
surface_bytes v = concat_map lay_rec (surface_recs (surface_of v))

-- values: kind 8
unfoldable pub values_bytes : ℕ → Json → List ℕ
values_bytes code v = lay_rec (rec 8 (lay_values (values_depth code) (nest_of value_of (values_depth code) v)))

-- semantics of a geometry of that code: kinds 7 and 8
unfoldable pub semantics_bytes : ℕ → Json → List ℕ
semantics_bytes code v = concat_map lay_rec (semantics_recs code (some (semantics_of code v)))

-- semantics that may be absent
unfoldable pub semantics_in : ℕ → Option Json → List ℕ
semantics_in code none = []
semantics_in code (some v) = semantics_bytes code v

-- a geometry's type, lod and boundary: kind 6
unfoldable pub shape_bytes : ℕ → Json → List ℕ
shape_bytes code v =
    lay_rec (rec 6 (le 2 code ++ le 2 (lod_code (lod_of (text_in (find "lod" v)))) ++ lay_nest (depth code) (nest_of index_of (depth code) (get "boundaries" v))))

-- a geometry: kind 6, and with semantics kinds 7 and 8
unfoldable pub geometry_bytes : Json → List ℕ
geometry_bytes v = concat_map lay_rec (geometry_recs (geometry_of v))
