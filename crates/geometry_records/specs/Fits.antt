-- What the writers ask of the values of a text; those of an accepted text are so (`Accepted`).
use Rattle.std.specs.Prelude.{◌≡◌, true, ℕ}
use Rattle.std.proofs.Math.Option.{some}
use Prim.Native.String.{String}
use Rattle.json_text.specs.Tree.{Json}
use Rattle.nodes.specs.Access.{find}
use Rattle.words.specs.Words.{geometry_words, code_of, is_lod, depth, values_depth}
use Rattle.fields.specs.Fields.{text_in, type_text}
use Rattle.arrays.specs.Fits.{Index, Value, Leaves}

-- the member of that name is there, and P holds of it
pub record Has (P : Json → Type 0) (name : String) (v : Json) : Type 0 where
  pub value : Json
  pub found : find name v ≡ some value
  pub holds : P value

-- if the member of that name is there, P holds of it
pub record Perhaps (P : Json → Type 0) (name : String) (v : Json) : Type 0 where
  pub holds : (w : Json) → find name v ≡ some w → P w

-- the code of a geometry's type
unfoldable pub geometry_code : Json → ℕ
unfolding code_of type_text
geometry_code v = code_of geometry_words (type_text v)

-- the semantics of a geometry of that code
pub record SemanticsFit (code : ℕ) (v : Json) : Type 0 where
  pub values : Has (Leaves Value (values_depth code)) "values" v

-- a geometry's own members, of that code
pub record ShapeFits (code : ℕ) (v : Json) : Type 0 where
  pub lod : is_lod (text_in (find "lod" v)) ≡ true
  pub boundary : Has (Leaves Index (depth code)) "boundaries" v

pub record GeometryFits (v : Json) : Type 0 where
  pub shape : ShapeFits (geometry_code v) v
  pub semantics : Perhaps (SemanticsFit (geometry_code v)) "semantics" v
