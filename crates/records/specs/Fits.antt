-- What the writers ask of the values of a text; those of an accepted text are so (`Accepted`).
use Rattle.std.specs.Prelude.{◌≡◌, true}
use Rattle.json_text.specs.Tree.{Json}
use Rattle.nodes.specs.Access.{is_string_value}
use Rattle.fields.specs.Fields.{objects_of}
use Rattle.model.specs.Code.{All}
use Rattle.arrays.specs.Fits.{Pair, Coordinate, Elements, Triple}
use Rattle.geometry_records.specs.Fits.{Has, Perhaps, GeometryFits}

-- a string
unfoldable pub Text : Json → Type 0
unfolding is_string_value
Text v = is_string_value v ≡ true

-- a city object
pub record ObjectFits (v : Json) : Type 0 where
  pub children : Perhaps (Elements Text) "children" v
  pub parents : Perhaps (Elements Text) "parents" v
  pub geometries : Perhaps (Elements GeometryFits) "geometry" v

-- the transform
pub record TransformFits (v : Json) : Type 0 where
  pub scale : Has (Triple Pair) "scale" v
  pub translate : Has (Triple Pair) "translate" v

-- the root
pub record RootFits (v : Json) : Type 0 where
  pub transform : Has TransformFits "transform" v
  pub vertices : Has (Elements (Triple Coordinate)) "vertices" v
  pub objects : All (λ m. ObjectFits m.1) (objects_of v)
