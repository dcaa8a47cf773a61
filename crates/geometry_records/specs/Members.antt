-- What the writers ask and tell of the members of a value, and of the payload of a record. A name is written as bytes.
use Rattle.std.specs.Prelude.{◌≡◌, true, List, ◌++◌, ℕ}
use Rattle.std.proofs.Math.Option.{some}
use Rattle.utf8.specs.Bytes.{le}
use Rattle.strings.specs.Spans.{Span, decode_at}
use Rattle.json_text.specs.Tree.{Json}
use Rattle.json_text.specs.Table.{Sub}
use Rattle.nodes.specs.Access.{elements, members, first_named, find}
use Rattle.words.specs.Words.{is_lod, depth, values_depth}
use Rattle.fields.specs.Fields.{text_in}
use Rattle.model.specs.Code.{concat_map}
use Rattle.model.specs.Model.{lod_code, lay_nest, lay_values, lay_surface}
use Rattle.model.specs.Read.{get, index_of, value_of, nest_of, lod_of, surface_named}
use Rattle.geometry_records.specs.Bytes.{each_in, surface_bytes, values_bytes, semantics_in, geometry_bytes}
use Rattle.geometry_records.specs.declared.Quote.{Quote}

-- ---- a member

-- the member of that name is there
pub record There (name : List ℕ) (v : Json) : Type 0 where
  pub value : Json
  pub found : first_named name (members v) ≡ some value

-- and P holds of it
pub record Named (P : Json → Type 0) (name : List ℕ) (v : Json) : Type 0 where
  pub there : There name v
  pub holds : P there.value

-- the member of that name of the value at the node i stands at the node r
pub record Leads (name x t : List ℕ) (i r : ℕ) : Type 0 where
  pub is : (v : Json) → Sub x t i v → (w : Json) × (first_named name (members v) ≡ some w) × Sub x t r w

-- q is where the bytes of the member of that name stand; no bytes, if there is none that is a string
pub record QuotesIn (name x t : List ℕ) (i : ℕ) (q : Quote) : Type 0 where
  pub span : Span x q.from q.to
  pub text : (v : Json) → Sub x t i v → decode_at x q.from q.to ≡ text_in (first_named name (members v))

-- the lod of a geometry
unfoldable pub LodFits : Json → Type 0
LodFits v = is_lod (text_in (find "lod" v)) ≡ true

-- ---- the bytes of a member

-- the lod of a geometry
unfoldable pub lod_member : Json → List ℕ
lod_member v = le 2 (lod_code (lod_of (text_in (find "lod" v))))

-- the boundary of a geometry of that code
unfoldable pub boundary_member : ℕ → Json → List ℕ
boundary_member code v = lay_nest (depth code) (nest_of index_of (depth code) (get "boundaries" v))

-- the semantics of a geometry of that code
unfoldable pub semantics_member : ℕ → Json → List ℕ
semantics_member code v = semantics_in code (find "semantics" v)

-- the surfaces and the values of semantics
unfoldable pub surfaces_member : Json → List ℕ
surfaces_member v = each_in surface_bytes (find "surfaces" v)

unfoldable pub values_member : ℕ → Json → List ℕ
values_member code v = values_bytes code (get "values" v)

-- the geometries of an object
unfoldable pub geometries_member : Json → List ℕ
geometries_member v = each_in geometry_bytes (find "geometry" v)

-- ---- the payload of a record

-- a surface
unfoldable pub surface_payload : Json → List ℕ
surface_payload v = lay_surface (surface_named (text_in (find "type" v)))

-- the values of semantics
unfoldable pub values_payload : ℕ → Json → List ℕ
values_payload code v = lay_values (values_depth code) (nest_of value_of (values_depth code) (get "values" v))

-- a geometry's type, lod and boundary
unfoldable pub shape_payload : ℕ → Json → List ℕ
shape_payload code v = le 2 code ++ lod_member v ++ boundary_member code v

-- ---- an array

-- what f gives for the elements of a value, one after the other
unfoldable pub each : (Json → List ℕ) → Json → List ℕ
each f v = concat_map f (elements v)
