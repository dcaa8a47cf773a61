-- What the fields of a sheet can hold.
use Rattle.std.proofs.Math.Option.{Option, none, some}
use Rattle.std.specs.Prelude.{ℕ, zero, suc, ◌^◌, ◌<◌, length}
use Rattle.model.specs.Code.{All, Holds}
use Rattle.model.specs.Good.{Shaped, Leaves, AllThree, GoodLod}
use Rattle.numerals.specs.Numerals.{Decimal}
use Rattle.words.specs.Words.{depth, values_depth}
use Rattle.model.specs.Model.{Nest, Surface, listed, added, Semantics, Geometry, Object, ModelOf, Rec, rec, model_recs}

abbrev pub Word : ℕ → Type 0
Word n = n < 2 ^ 32

abbrev pub Half : ℕ → Type 0
Half n = n < 2 ^ 16

abbrev pub FitDecimal : Decimal → Type 0
FitDecimal d = Holds 8 d.m × Holds 2 d.e

abbrev pub FitNest : (d : ℕ) → Nest ℕ d → Type 0
FitNest zero n = Word n
FitNest (suc d) l = Word (length l) × All (FitNest d) l

abbrev pub FitValue : Option ℕ → Type 0
FitValue none = Unit {0}
FitValue (some n) = n < 0xffff_ffff

abbrev pub FitSurface : Surface → Type 0
FitSurface (listed code) = code < 19
FitSurface (added name) = Unit {0}

abbrev pub FitSemantics : (code : ℕ) → Nest ℕ (depth code) → Option (Semantics code) → Type 0
FitSemantics code b none = Unit {0}
FitSemantics code b (some s) =
    All FitSurface s.surfaces × Shaped (depth code) (values_depth code) b s.values × Leaves FitValue (values_depth code) s.values

pub record FitGeometry (g : Geometry) : Type 0 where
  pub code : Half g.code
  pub lod : GoodLod g.lod
  pub boundary : FitNest (depth g.code) g.boundary
  pub semantics : FitSemantics g.code g.boundary g.semantics

pub record FitObject (o : Object ℕ) : Type 0 where
  pub code : Half o.code
  pub children : All Word o.children
  pub parents : All Word o.parents
  pub geometries : All FitGeometry o.geometries

abbrev pub FitRec : Rec → Type 0
FitRec (rec kind payload) = Half kind × Word (length payload)

pub record FitModel (t : ModelOf ℕ) : Type 0 where
  pub scale : AllThree FitDecimal t.scale
  pub translate : AllThree FitDecimal t.translate
  pub vertices : All (AllThree (Holds 4)) t.vertices
  pub objects : All FitObject t.objects
  pub payloads : All FitRec (model_recs t)
