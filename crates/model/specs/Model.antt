-- The city model (the paper's town) and its sheet (docs/SHEET.md).
use Rattle.std.specs.Prelude.{cond, List, [], ◌∷◌, ◌++◌, map, ℕ, zero, suc, ◌+◌, ◌*◌, length, ℤ}
use Rattle.std.proofs.Math.Option.{Option, none, some}
use Rattle.utf8.specs.Utf8.{same}
use Rattle.numerals.specs.Numerals.{Decimal}
use Rattle.words.specs.Words.{depth, values_depth}
use Rattle.utf8.specs.Bytes.{le}
use Rattle.model.specs.Code.{signed, concat_map}

-- ---- the model

-- lists of lists, d deep, with an A at the bottom
abbrev pub Nest : Type 0 → ℕ → Type 0
Nest A zero = A
Nest A (suc d) = List (Nest A d)

pub record Three (A : Type 0) : Type 0 where
  pub x : A
  pub y : A
  pub z : A

-- `2.1` is 2 and some 1, `2` is 2 and none
pub record Lod : Type 0 where
  pub major : ℕ
  pub minor : Option ℕ

pub data Surface : Type 0 where
  -- one of the eighteen, by its code
  listed : ℕ → Surface
  -- any other: its whole name, which begins with `+`
  added : List ℕ → Surface

-- "its surfaces' types and its values"
pub record Semantics (code : ℕ) : Type 0 where
  pub surfaces : List Surface
  pub values : Nest (Option ℕ) (values_depth code)

-- "each geometry's type, lod, boundary tree and, if present," its semantics
pub record Geometry : Type 0 where
  pub code : ℕ
  pub lod : Lod
  pub boundary : Nest ℕ (depth code)
  pub semantics : Option (Semantics code)

-- "(ID, type, children, parents, geometries)"; a link to another object is an L: its ID in a model, its number on a sheet
pub record Object (L : Type 0) : Type 0 where
  pub id : List ℕ
  pub code : ℕ
  pub children : List L
  pub parents : List L
  pub geometries : List Geometry

-- "six transform pairs, the vertices, the objects in text order"
pub record ModelOf (L : Type 0) : Type 0 where
  pub scale : Three Decimal
  pub translate : Three Decimal
  pub vertices : List (Three ℤ)
  pub objects : List (Object L)

-- "Two towns are the same when all of this is equal"
abbrev pub Model : Type 0
Model = ModelOf (List ℕ)

-- ---- the sheet

-- a kind and a payload
pub data Rec : Type 0 where
  rec : ℕ → List ℕ → Rec

-- "a four-byte payload length, a two-byte kind, then the payload"
unfoldable pub lay_rec : Rec → List ℕ
lay_rec (rec kind payload) = le 4 (length payload) ++ le 2 kind ++ payload

unfoldable pub lay_three : {A : Type 0} → (A → List ℕ) → Three A → List ℕ
lay_three lay t = lay t.x ++ lay t.y ++ lay t.z

-- "m in 8 bytes and e in 2"
unfoldable pub lay_decimal : Decimal → List ℕ
lay_decimal d = signed 8 d.m ++ signed 2 d.e

unfoldable pub minor_code : Option ℕ → ℕ
minor_code none = 15
minor_code (some n) = n

-- "Lod `2.1` is 2·16+1; `2` is 2·16+15"
unfoldable pub lod_code : Lod → ℕ
lod_code l = l.major * 16 + minor_code l.minor

-- "the boundary in four-byte words: each array as its element count followed by its elements"
unfoldable pub lay_nest : (d : ℕ) → Nest ℕ d → List ℕ
lay_nest zero n = le 4 n
lay_nest (suc d) l = le 4 (length l) ++ concat_map (lay_nest d) l

-- "FFFFFFFF hexadecimal for null"
unfoldable pub lay_value : Option ℕ → List ℕ
lay_value none = le 4 0xffff_ffff
lay_value (some n) = le 4 n

-- "values in order", with no counts
unfoldable pub lay_values : (d : ℕ) → Nest (Option ℕ) d → List ℕ
lay_values zero v = lay_value v
lay_values (suc d) l = concat_map (lay_values d) l

-- "two-byte code, then for 19 the whole decoded name"
unfoldable pub lay_surface : Surface → List ℕ
lay_surface (listed code) = le 2 code
lay_surface (added name) = le 2 19 ++ name

unfoldable pub surface_recs : Surface → List Rec
surface_recs s = rec 7 (lay_surface s) ∷ []

-- "With semantics: kind 7 for each surface .. and one kind 8"
unfoldable pub semantics_recs : (code : ℕ) → Option (Semantics code) → List Rec
semantics_recs code none = []
semantics_recs code (some s) = concat_map surface_recs s.surfaces ++ rec 8 (lay_values (values_depth code) s.values) ∷ []

-- "Geometry: kind 6 (two-byte code, two-byte lod, then the boundary ..)"
unfoldable pub geometry_recs : Geometry → List Rec
geometry_recs g =
    rec 6 (le 2 g.code ++ le 2 (lod_code g.lod) ++ lay_nest (depth g.code) g.boundary)
    ∷ semantics_recs g.code g.semantics

-- "kind 3 (two-byte code, then the ID in UTF-8), kind 4 (children as four-byte object numbers ..), kind 5 (parents), then its geometries"
unfoldable pub object_recs : Object ℕ → List Rec
object_recs o =
    rec 3 (le 2 o.code ++ o.id)
    ∷ rec 4 (concat_map (le 4) o.children)
    ∷ rec 5 (concat_map (le 4) o.parents)
    ∷ concat_map geometry_recs o.geometries

-- "Kind 9, empty, ends the sheet"
unfoldable pub end_recs : List Rec
end_recs = rec 9 [] ∷ []

-- "Kind 1: six pairs, scale first .. Kind 2: vertices, 4 bytes a coordinate. For each object: .."
unfoldable pub model_recs : ModelOf ℕ → List Rec
unfolding end_recs
model_recs t =
    rec 1 (lay_three lay_decimal t.scale ++ lay_three lay_decimal t.translate)
    ∷ rec 2 (concat_map (lay_three (signed 4)) t.vertices)
    ∷ (concat_map object_recs t.objects ++ end_recs)

unfoldable pub lay_model : ModelOf ℕ → List ℕ
lay_model t = concat_map lay_rec (model_recs t)

-- ---- object numbers for IDs

-- "object numbers from 0": how many of the IDs stand before the first that is this one
unfoldable pub object_number : List (List ℕ) → List ℕ → ℕ
object_number [] id = 0
object_number (i ∷ ids) id = cond (same i id) 0 (suc (object_number ids id))

unfoldable pub ids_of : {L : Type 0} → List (Object L) → List (List ℕ)
ids_of objects = map (λ o. o.id) objects

unfoldable pub number_object : List (List ℕ) → Object (List ℕ) → Object ℕ
number_object ids o = record {
  id = o.id;
  code = o.code;
  children = map (object_number ids) o.children;
  parents = map (object_number ids) o.parents;
  geometries = o.geometries;
}

unfoldable pub number_model : Model → ModelOf ℕ
number_model t = record {
  scale = t.scale;
  translate = t.translate;
  vertices = t.vertices;
  objects = map (number_object (ids_of t.objects)) t.objects;
}

unfoldable pub sheet_of : Model → List ℕ
sheet_of t = lay_model (number_model t)
