-- A model as docs/RULES.md asks for, whose sheet has fewer than 2^32 bytes, fits the sheet's fields.
use Rattle.std.specs.Prelude.{◌≡◌, ℕ, zero, suc, ◌+◌, ◌/◌, ◌^◌, ◌≤◌, ◌<◌, length, ℤ, pos, negsuc, nat_abs}
use Rattle.std.proofs.Math.Path.{refl, sym, ap}
use Rattle.std.proofs.Common.{◌∙◌}
use mathlib.Core.List.{List, [], ◌∷◌, ◌++◌, map, append_assoc}
use Rattle.std.proofs.Math.Option.{Option, none, some}
use native.Mathlib.Omega.{arith}
use Rattle.std.proofs.Math.ListN.{length-append}
use Rattle.std.proofs.lemmas.List.{length-map}
use Rattle.std.specs.Int.Signed.{mag}
use Rattle.utf8.specs.Bytes.{le}
use Rattle.model.specs.Code.{signed, concat_map, All}
use Rattle.model.specs.Lists.{all_map, all_both, all_append, all-each, all_of_map, all-in-map}
use Rattle.numerals.specs.Numerals.{Decimal}
use Rattle.words.specs.Words.{depth, values_depth}
use Rattle.model.specs.Model.{Nest, Three, Surface, listed, added, Semantics, Geometry, Object, Model, ModelOf, Rec, rec}
use Rattle.model.specs.Model.{lay_rec, lay_three, lod_code, lay_nest, lay_values, surface_recs, semantics_recs, geometry_recs, object_recs, end_recs, model_recs, lay_model, sheet_of, object_number, ids_of, number_object, number_model}
use Rattle.model.specs.Good.{AllThree, Leaves, GoodDecimal, GoodSurface, GoodValue, GoodSemantics, GoodGeometry, Known, GoodObject, GoodModel}
use Rattle.model.specs.Fits.{Word, Half, FitDecimal, FitNest, FitValue, FitSurface, FitSemantics, FitGeometry, FitObject, FitRec, FitModel}

-- ---- lengths

pub length-le : (w n : ℕ) → length (le w n) ≡ w
unfolding le
length-le zero n = refl
length-le (suc w) n = ap suc (length-le w (n / 256))

pub length-signed : (w : ℕ) (z : ℤ) → length (signed w z) ≡ w
unfolding signed
length-signed w (pos n) = length-le w n
length-signed w (negsuc n) = length-le w _

module _ {A T : Type 0} (enc : A → List T) where
  each_append : (l m : List A) → concat_map enc (l ++ m) ≡ concat_map enc l ++ concat_map enc m
  unfolding concat_map
  each_append [] m = refl
  each_append (a ∷ l) m = ap (λ r. enc a ++ r) (each_append l m) ∙ sym (append_assoc (enc a) (concat_map enc l) (concat_map enc m))

  parts : (n : ℕ) (l : List A) → length (concat_map enc l) < n → All (λ a. length (enc a) < n) l
  unfolding concat_map
  parts n [] h = tt
  parts n (a ∷ l) h =
      let e = length-append (enc a) (concat_map enc l) in
      (omega arith, parts n l (omega arith))

  count : ((a : A) → 1 ≤ length (enc a)) → (l : List A) → length l ≤ length (concat_map enc l)
  unfolding concat_map
  count f [] = omega arith
  count f (a ∷ l) =
      let e = length-append (enc a) (concat_map enc l) in
      omega (arith, f a, count f l)

pub each-each : {A B T : Type 0} (f : A → List B) (enc : B → List T) (l : List A) → concat_map enc (concat_map f l) ≡ concat_map (λ a. concat_map enc (f a)) l
unfolding concat_map
each-each f enc [] = refl
each-each f enc (a ∷ l) = each_append enc (f a) (concat_map f l) ∙ ap (λ r. concat_map enc (f a) ++ r) (each-each f enc l)

-- ---- the parts of a model

mag_low : (z : ℤ) (n : ℕ) → nat_abs z < n → mag z < n
mag_low (pos k) n h = h
mag_low (negsuc k) n h = omega arith

pub decimal-fits : (d : Decimal) → GoodDecimal d → FitDecimal d
decimal-fits d g = let a = mag_low d.m (10 ^ 15) g.0 in let b = mag_low d.e 23 (omega arith) in (omega arith, omega arith)

three-map : {A : Type 0} {P Q : A → Type 0} → ((a : A) → P a → Q a) → (t : Three A) → AllThree P t → AllThree Q t
three-map f t g = (f t.x g.0, f t.y g.1, f t.z g.2)

lay_nest-some : (d : ℕ) (l : Nest ℕ d) → 1 ≤ length (lay_nest d l)
unfolding lay_nest
lay_nest-some zero n = omega (arith, length-le 4 n)
lay_nest-some (suc d) l = omega (arith, length-le 4 (length l), length-append (le 4 (length l)) (concat_map (lay_nest d) l))

nest-fits : (v : ℕ) → v < 2 ^ 32 → (d : ℕ) (l : Nest ℕ d) → Leaves (λ i. i < v) d l → length (lay_nest d l) < 2 ^ 32 → FitNest d l
unfolding lay_nest
nest-fits v h zero n g s = omega arith
nest-fits v h (suc d) l g s =
    let e = length-append (le 4 (length l)) (concat_map (lay_nest d) l) in
    let c = count (lay_nest d) (lay_nest-some d) l in
    (omega arith, all_both _ _ _ (nest-fits v h d) l g (parts (lay_nest d) (2 ^ 32) l (omega arith)))

leaves_map : {A : Type 0} {P Q : A → Type 0} → ((a : A) → P a → Q a) → (d : ℕ) (l : Nest A d) → Leaves P d l → Leaves Q d l
leaves_map f zero a g = f a g
leaves_map f (suc d) l g = all_map (leaves_map f d) l g

value-fits : (n : ℕ) → n < 2 ^ 32 → (v : Option ℕ) → GoodValue n v → FitValue v
value-fits n h none g = tt
value-fits n h (some k) g = omega arith

surface-fits : (s : Surface) → GoodSurface s → FitSurface s
surface-fits (listed c) g = omega arith
surface-fits (added n) g = tt

-- a record's payload is shorter than the record
pub length-rec : (k : ℕ) (p : List ℕ) → length (lay_rec (rec k p)) ≡ 6 + length p
unfolding lay_rec
length-rec k p = simp (length-append, length-le)

rec-some : (r : Rec) → 1 ≤ length (lay_rec r)
rec-some (rec k p) = omega (arith, length-rec k p)

-- how many bytes records take
unfoldable pub weight : List Rec → ℕ
weight l = length (concat_map lay_rec l)

pub weight-cons : (k : ℕ) (p : List ℕ) (l : List Rec) → weight (rec k p ∷ l) ≡ 6 + length p + weight l
unfolding weight concat_map
weight-cons k p l = length-append (lay_rec (rec k p)) (concat_map lay_rec l) ∙ ap (λ n. n + length (concat_map lay_rec l)) (length-rec k p)

pub weight-append : (l m : List Rec) → weight (l ++ m) ≡ weight l + weight m
unfolding weight
weight-append l m = ap length (each_append lay_rec l m) ∙ length-append (concat_map lay_rec l) (concat_map lay_rec m)

weight-parts : {A : Type 0} (f : A → List Rec) (n : ℕ) (l : List A) → weight (concat_map f l) < n → All (λ a. weight (f a) < n) l
unfolding weight
weight-parts f n l h = parts (λ a. concat_map lay_rec (f a)) n l (rw each-each at h)

weight-count : {A : Type 0} (f : A → List Rec) → ((a : A) → 1 ≤ length (f a)) → (l : List A) → length l ≤ weight (concat_map f l)
unfolding weight
weight-count f h l = omega (arith, count f h l, count lay_rec rec-some (concat_map f l))

semantics-fits : (c : ℕ) (b : Nest ℕ (depth c)) (s : Option (Semantics c)) → GoodSemantics c b s → weight (semantics_recs c s) < 2 ^ 32 → FitSemantics c b s
unfolding semantics_recs surface_recs
semantics-fits c b none g h = tt
semantics-fits c b (some s) g h =
    let e = weight-append (concat_map surface_recs s.surfaces) (rec 8 (lay_values (values_depth c) s.values) ∷ []) in
    let k = weight-count surface_recs (λ a. omega arith) s.surfaces in
    (all_map surface-fits s.surfaces g.0, g.1, leaves_map (value-fits (length s.surfaces) (omega arith)) (values_depth c) s.values g.2)

geometry-fits : (v : ℕ) → v < 2 ^ 32 → (g : Geometry) → GoodGeometry v g → weight (geometry_recs g) < 2 ^ 32 → FitGeometry g
unfolding geometry_recs
geometry-fits v hv g h w =
    let l = le 2 g.code ++ le 2 (lod_code g.lod) in
    let b = lay_nest (depth g.code) g.boundary in
    let e = weight-cons 6 (l ++ b) (semantics_recs g.code g.semantics) in
    let k = length-append l b in
    record {
      code = omega (arith, h.code);
      lod = h.lod;
      boundary = nest-fits v hv (depth g.code) g.boundary h.boundary (omega arith);
      semantics = semantics-fits g.code g.boundary g.semantics h.semantics (omega arith);
    }

known-fits : (ids : List (List ℕ)) → length ids < 2 ^ 32 → (l : List (List ℕ)) → All (Known ids) l → All Word (map (object_number ids) l)
known-fits ids h l g = all_of_map Word (object_number ids) l (all_map (λ i k. omega arith) l g)

object-fits : (v : ℕ) → v < 2 ^ 32 → (ids : List (List ℕ)) → length ids < 2 ^ 32 → (o : Object (List ℕ)) → GoodObject v ids o
    → weight (object_recs (number_object ids o)) < 2 ^ 32 → FitObject (number_object ids o)
unfolding object_recs number_object
object-fits v hv ids hi o g w =
    let k = simp weight-cons at w in
    record {
      code = omega (arith, g.code);
      children = known-fits ids hi o.children g.children;
      parents = known-fits ids hi o.parents g.parents;
      geometries = all_both _ _ _ (geometry-fits v hv) o.geometries g.geometries (weight-parts geometry_recs (2 ^ 32) o.geometries (omega arith));
    }

-- every kind is small
abbrev Kind : Rec → Type 0
Kind (rec k p) = Half k

semantics-kinds : (c : ℕ) (s : Option (Semantics c)) → All Kind (semantics_recs c s)
unfolding semantics_recs surface_recs
semantics-kinds c none = tt
semantics-kinds c (some s) =
    all_append Kind (concat_map surface_recs s.surfaces) (rec 8 (lay_values (values_depth c) s.values) ∷ [])
    (all-each Kind surface_recs (λ f. (omega arith, tt)) s.surfaces) (omega arith, tt)

geometry-kinds : (g : Geometry) → All Kind (geometry_recs g)
unfolding geometry_recs
geometry-kinds g = (omega arith, semantics-kinds g.code g.semantics)

object-kinds : (o : Object ℕ) → All Kind (object_recs o)
unfolding object_recs
object-kinds o = (omega arith, (omega arith, (omega arith, all-each Kind geometry_recs geometry-kinds o.geometries)))

model-kinds : (t : ModelOf ℕ) → All Kind (model_recs t)
unfolding model_recs
model-kinds t = (
  omega arith,
  (omega arith, all_append Kind (concat_map object_recs t.objects) end_recs (all-each Kind object_recs object-kinds t.objects) (omega arith, tt)),
)

rec-fits : (r : Rec) → Kind r → length (lay_rec r) < 2 ^ 32 → FitRec r
rec-fits (rec k p) h w = (h, omega (arith, length-rec k p))

three-some : (a : Three ℤ) → 1 ≤ length (lay_three (signed 4) a)
unfolding lay_three
three-some a = simp (length-append, length-signed) (omega arith)

pub model-fits : (t : Model) → GoodModel t → FitModel (number_model t)
unfolding model_recs number_model weight sheet_of lay_model object_recs ids_of
model-fits t g =
    let ids = ids_of t.objects in
    let u = number_model t in
    let w : weight (model_recs u) < 2 ^ 32 = g.short in
    let k = simp (weight-cons, weight-append) at w in
    let v : length t.vertices < 2 ^ 32 = omega (arith, count (lay_three (signed 4)) three-some t.vertices) in
    let many = weight-count object_recs (λ o. omega arith) u.objects in
    let i : length ids < 2 ^ 32 = omega (arith, length-map t.objects (λ o. o.id), length-map t.objects (number_object ids)) in
    let Each-light =
    all-in-map (λ o. weight (object_recs o) < 2 ^ 32) (number_object ids) t.objects (weight-parts object_recs (2 ^ 32) u.objects (omega arith)) in
    record {
      scale = three-map decimal-fits t.scale g.scale;
      translate = three-map decimal-fits t.translate g.translate;
      vertices = all_map (three-map (λ z h. omega arith)) t.vertices g.vertices;
      objects = all_of_map FitObject (number_object ids) t.objects
          (all_both _ _ _ (object-fits (length t.vertices) v ids i) t.objects g.objects Each-light);
      payloads = all_both _ _ _ rec-fits (model_recs u) (model-kinds u) (parts lay_rec (2 ^ 32) (model_recs u) w);
    }
