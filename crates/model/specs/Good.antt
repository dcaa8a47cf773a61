-- What docs/RULES.md asks of a model, apart from links (rules 10, 12, 13, 15), and that its sheet is short.
use Rattle.std.specs.Prelude.{List, [], ◌∷◌, ℕ, zero, suc, ◌^◌, ◌≤◌, ◌<◌, length, ℤ, nat_abs}
use Rattle.std.proofs.Math.Option.{Option, none, some}
use Rattle.std.specs.Int.Signed.{mag}
use Rattle.model.specs.Code.{All}
use Rattle.numerals.specs.Numerals.{Decimal}
use Rattle.words.specs.Words.{depth, values_depth}
use Rattle.model.specs.Model.{Nest, Three, Lod, Surface, listed, added, Semantics, Geometry, Object, Model, object_number, ids_of, sheet_of}

abbrev pub AllThree : {A : Type 0} → (A → Type 0) → Three A → Type 0
AllThree P t = P t.x × P t.y × P t.z

-- P at the bottom, everywhere
abbrev pub Leaves : {A : Type 0} → (A → Type 0) → (d : ℕ) → Nest A d → Type 0
Leaves P zero a = P a
Leaves P (suc d) l = All (Leaves P d) l

abbrev pub GoodDecimal : Decimal → Type 0
GoodDecimal d = (nat_abs d.m < 10 ^ 15) × (nat_abs d.e ≤ 22)

-- 32 signed bits: `mag` is n both for n and for -(n + 1)
abbrev pub GoodVertex : Three ℤ → Type 0
GoodVertex = AllThree (λ z. mag z < 2 ^ 31)

abbrev pub GoodMinor : Option ℕ → Type 0
GoodMinor none = Unit {0}
GoodMinor (some n) = n < 10

abbrev pub GoodLod : Lod → Type 0
GoodLod l = (l.major < 10) × GoodMinor l.minor

abbrev pub GoodSurface : Surface → Type 0
GoodSurface (listed code) = (1 ≤ code) × (code ≤ 18)
GoodSurface (added name) = Unit {0}

-- a semantic value: null, or below the count of surfaces
abbrev pub GoodValue : ℕ → Option ℕ → Type 0
GoodValue count none = Unit {0}
GoodValue count (some n) = n < count

-- two lists of one length, R between their elements
abbrev pub Both : {A B : Type 0} → (A → B → Type 0) → List A → List B → Type 0
Both R [] [] = Unit {0}
Both R [] (b ∷ m) = ⊥
Both R (a ∷ l) [] = ⊥
Both R (a ∷ l) (b ∷ m) = R a b × Both R l m

-- the values have the boundary's counts, at each of their levels
abbrev pub Shaped : (d v : ℕ) → Nest ℕ d → Nest (Option ℕ) v → Type 0
Shaped d zero b x = Unit {0}
Shaped zero (suc v) b x = ⊥
Shaped (suc d) (suc v) b x = Both (Shaped d v) b x

abbrev pub GoodSemantics : (code : ℕ) → Nest ℕ (depth code) → Option (Semantics code) → Type 0
GoodSemantics code b none = Unit {0}
GoodSemantics code b (some s) =
    All GoodSurface s.surfaces
    × Shaped (depth code) (values_depth code) b s.values
    × Leaves (GoodValue (length s.surfaces)) (values_depth code) s.values

pub record GoodGeometry (vertices : ℕ) (g : Geometry) : Type 0 where
  pub code : (1 ≤ g.code) × (g.code ≤ 7)
  pub lod : GoodLod g.lod
  pub boundary : Leaves (λ i. i < vertices) (depth g.code) g.boundary
  pub semantics : GoodSemantics g.code g.boundary g.semantics

-- an ID that an object has
abbrev pub Known : List (List ℕ) → List ℕ → Type 0
Known ids id = object_number ids id < length ids

pub record GoodObject (vertices : ℕ) (ids : List (List ℕ)) (o : Object (List ℕ)) : Type 0 where
  pub code : (1 ≤ o.code) × (o.code ≤ 33)
  pub children : All (Known ids) o.children
  pub parents : All (Known ids) o.parents
  pub geometries : All (GoodGeometry vertices) o.geometries

pub record GoodModel (t : Model) : Type 0 where
  pub scale : AllThree GoodDecimal t.scale
  pub translate : AllThree GoodDecimal t.translate
  pub vertices : All GoodVertex t.vertices
  pub objects : All (GoodObject (length t.vertices) (ids_of t.objects)) t.objects
  pub short : length (sheet_of t) < 2 ^ 32
