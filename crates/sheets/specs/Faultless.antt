-- A tree with no fault reads as a good model: what rules 7, 8, 10, 11, 12, 13 and 15 of docs/RULES.md give.
use Rattle.std.specs.Prelude.{ℕ, zero, suc, ◌-◌, ◌≤◌, ◌<◌, ◌≡◌, refl, Bool, true, false, not, ◌&&◌, ◌||◌, length, get_or, eqb, leb, ltb}
use Prim.Native.String.{String}
use Rattle.std.proofs.Common.{arith, sym, ap, ◌∙◌, subst, ne_eqb, leb-true}
use Rattle.std.proofs.Math.Bool.{cond}
use mathlib.Core.List.{List, [], ◌∷◌, ◌++◌, map}
use Rattle.std.proofs.Math.Option.{Option, some}
use Rattle.std.proofs.Math.Option as option
use Rattle.std.proofs.lemmas.Bool.{eqb-false, not-true}
use Rattle.utf8.specs.Ascii.{is_digit}
use Rattle.utf8.specs.Utf8.{same}
use Rattle.utf8.specs.Laws.{both_left, both_right, never, same-equal, same_refl}
use Rattle.words.specs.Words.{object_words, geometry_words, surface_words, code_of, is_one, is, is_added, is_lod, depth, values_depth, is_permitted}
use Rattle.words.specs.Laws.{one-has-code, code-most}
use Rattle.json_text.specs.Tree.{Json, null}
use Rattle.nodes.specs.Access.{is_string_value, elements, members, Member, name_of, text_of, find, first_named}
use Rattle.everywhere.specs.Everywhere.{among, rule5, rule6}
use Rattle.nodes.specs.Faults.{fault}
use Rattle.fields.specs.Fields.{listed_in, type_text, count_in}
use Rattle.shapes.specs.Checks.{Check, all, on, at, for_each, values, each_member, object_kind, string_kind, array_kind, is_some, needs, text, is_empty}
use Rattle.shapes.specs.Shapes.{vertex, shaped, ranged, matches}
use Rattle.rules.specs.Schema.{is_object_type, is_geometry_type, is_surface_type, word, object_type, geometry_type, lod, surface_type, boundary, boundaries, surface, surfaces, over_boundary, semantics, needs_lod, geometry, geometries, links, city_object, object_limit, city_objects, three_pairs, transform, vertices, city_json}
use Rattle.rules.specs.Schema as schema
use Rattle.rules.specs.Links.{ids_among, link, links_from, parent_link, links_of, links_of_each, link_faults}
use Rattle.verdict.specs.Verdict.{faults}
use Rattle.model.specs.Code.{All}
use Rattle.model.specs.Model.{added, object_number, ids_of}
use Rattle.model.specs.Model as model
use Rattle.model.specs.Good.{GoodLod, GoodSurface, GoodVertex, GoodSemantics, GoodGeometry, Known, GoodObject, GoodModel, Both}
use Rattle.model.specs.Read.{or_null, get, integer_of, index_of, three_of, nest_of, minor_of, lod_of, surface_named, surface_of, semantics_of, geometry_of, object_of, model_of}
use Rattle.model.proofs.Size.{size, short-enough}
use Rattle.sheets.specs.Clear.{nil-left, nil-right, cond-left, cond-right, kept, first_of, is-string, text-ok, clear, Clear, has, found, at_some, at_null, list-good, type-text, counted, listed-elements, objects-members}
use Rattle.sheets.specs.Numbers.{boundary-good, values-good, GoodPairs, pairs-good, pairs-null, vertex-good}

-- ---- words (rules 10 and 11)

-- a code of the words
abbrev pub Coded : List String → List ℕ → Type 0
Coded words t = (1 ≤ code_of words t) × (code_of words t ≤ length words)

-- one of the words has a code
word_good : (words : List String) (t : List ℕ) → is_one words t ≡ true → Coded words t
word_good words t e =
    let f = eqb-false (code_of words t) 0 (not-true (eqb (code_of words t) 0) (sym (one-has-code words t) ∙ e)) in
    (omega arith, code-most words t)

-- a type that is one of the words or another that is refused
type-good : (words : List String) (other : List ℕ → Bool) (cs : List Check) (v : Json)
    → all (string_kind ∷ text 10 (λ t. is_one words t || other t) ∷ text 11 (λ t. not (other t)) ∷ cs) v ≡ [] → Coded words (text_of v)
type-good words other cs v e =
    let (s, (a, (b, r))) = clear (string_kind ∷ text 10 (λ t. is_one words t || other t) ∷ text 11 (λ t. not (other t)) ∷ cs) v e in
    word_good words (text_of v) (first_of _ _ (text-ok 10 (λ t. is_one words t || other t) v s a) (not-true _ (text-ok 11 (λ t. not (other t)) v s b)))

-- a city object's type
object-type-good : (v : Json) → object_type v ≡ [] → Coded object_words (text_of v)
unfolding object_type is_object_type
object-type-good v e = type-good object_words is_added [] v e

-- a geometry's type
pub geometry-type-good : (object code : ℕ) (v : Json) → geometry_type object code v ≡ [] → Coded geometry_words (text_of v)
unfolding geometry_type is_geometry_type
geometry-type-good object code v e = type-good geometry_words (is "GeometryInstance") (text 14 (λ w. eqb code 0 || is_permitted object code) ∷ []) v e

-- ---- geometries

-- a digit
digit-good : (b : ℕ) → is_digit b ≡ true → b - 48 < 10
unfolding is_digit
digit-good b e = omega (arith, leb-true b 57 (both_right (leb 48 b) _ e))

-- a text that is a lod
lod-text : (t : List ℕ) → is_lod t ≡ true → GoodLod (lod_of t)
unfolding is_lod lod_of minor_of
lod-text [] e = absurd (never e refl)
lod-text (a ∷ []) e = (digit-good a e, tt)
lod-text (a ∷ b ∷ []) e = absurd (never e refl)
lod-text (a ∷ b ∷ c ∷ []) e = (digit-good a (both_left _ _ (both_left _ (is_digit c) e)), digit-good c (both_right (is_digit a && eqb b 46) _ e))
lod-text (a ∷ b ∷ c ∷ d ∷ t) e = absurd (never e refl)

-- a lod
pub lod-clear : (v : Json) → lod v ≡ [] → is_lod (text_of v) ≡ true
unfolding lod
lod-clear v e = let (s, (t, r)) = clear (string_kind ∷ text 10 is_lod ∷ []) v e in text-ok 10 is_lod v s t

lod-good : (v : Json) → lod v ≡ [] → GoodLod (lod_of (text_of v))
lod-good v e = lod-text (text_of v) (lod-clear v e)

-- no lod reads as 0
lod-null : GoodLod (lod_of (text_of (null 0 0)))
unfolding lod_of minor_of text_of
lod-null = (omega arith, tt)

-- a text that is a surface type
surface-text : (t : List ℕ) → is_surface_type t ≡ true → GoodSurface (surface_named t)
unfolding is_surface_type surface_named surface_words
surface-text t e = of (is_added t) refl
  where
    of : (b : Bool) → is_added t ≡ b → GoodSurface (cond b (added t) (model.listed (code_of surface_words t)))
    of true q = tt
    of false q = word_good surface_words t (first_of _ _ e (ap (λ b. b && ltb 1 (length t)) q))

-- a semantic surface
surface-good : (v : Json) → surface v ≡ [] → GoodSurface (surface_of v)
unfolding surface surface_type surface_of
surface-good v e =
    let (o, (n, (t, r))) = clear (object_kind ∷ needs ("type" ∷ []) ∷ at "type" surface_type ∷ []) v e in
    let (s, (w, q)) = clear (string_kind ∷ text 10 is_surface_type ∷ []) (get "type" v) (at_some "type" surface_type v (has ("type" ∷ []) v o n).0 t) in
    surface-text (text_of (get "type" v)) (text-ok 10 is_surface_type (get "type" v) s w)

-- the values of a geometry have no more levels than its boundary
get_d_le : (l m : List ℕ) → Both (λ a b. a ≤ b) l m → (i : ℕ) → get_or l i 0 ≤ get_or m i 0
get_d_le [] [] h i = omega arith
get_d_le [] (b ∷ m) h i = absurd h
get_d_le (a ∷ l) [] h i = absurd h
get_d_le (a ∷ l) (b ∷ m) h zero = h.0
get_d_le (a ∷ l) (b ∷ m) h (suc i) = get_d_le l m h.1 i

-- by the table of depths
values-depth : (c : ℕ) → values_depth c ≤ depth c
unfolding values_depth depth
values-depth c =
    get_d_le (0 ∷ 1 ∷ 1 ∷ 1 ∷ 1 ∷ 2 ∷ 3 ∷ 3 ∷ []) (0 ∷ 1 ∷ 2 ∷ 3 ∷ 3 ∷ 4 ∷ 5 ∷ 5 ∷ [])
    (omega arith, (omega arith, (omega arith, (omega arith, (omega arith, (omega arith, (omega arith, (omega arith, tt)))))))) c

-- the empty list
is-nil : (l : List ℕ) → l ≡ [] → is_empty l ≡ true
unfolding is_empty
is-nil l e = ap is_empty e

-- a geometry of a type that has a code
module _ (c : ℕ) (h : 1 ≤ c) where
  -- its code is not 0
  coded : eqb c 0 ≡ false
  coded = ne_eqb c 0 (λ z. omega arith)

  -- its boundary
  pub boundary-clear : (n : ℕ) (b : Json) → boundaries n c b ≡ [] → (shaped (depth c) b ≡ []) × (ranged n (depth c) b ≡ [])
  unfolding boundaries boundary
  boundary-clear n b e =
      let (a, (d, r)) = clear (array_kind ∷ boundary n c ∷ []) b e in
      let q = cond-right (eqb c 0) [] (shaped (depth c) b ++ ranged n (depth c) b) coded d in
      (nil-left _ _ q, nil-right (shaped (depth c) b) _ q)

  -- its values, over a boundary that is well shaped
  pub values-clear : (n : ℕ) (b v : Json) → shaped (depth c) b ≡ [] → schema.values n c (some b) v ≡ []
      → (matches (values_depth c) b v ≡ []) × (ranged n (values_depth c) v ≡ [])
  unfolding schema.values over_boundary
  values-clear n b v s e =
      let (a, (d, r)) = clear (array_kind ∷ over_boundary n c (some b) ∷ []) v e in
      let l = cond (is_empty (shaped (depth c) b)) (matches (values_depth c) b v) [] in
      let q = cond-right (eqb c 0) [] (l ++ ranged n (values_depth c) v) coded d in
      (cond-left (is_empty (shaped (depth c) b)) _ [] (is-nil _ s) (nil-left l _ q), nil-right l _ q)

  -- its semantics, if it has them
  semantics-good : (b : Json) → shaped (depth c) b ≡ [] → (v : Json) → semantics c (some b) v ≡ []
      → GoodSemantics c (nest_of index_of (depth c) b) (some (semantics_of c v))
  unfolding semantics surfaces semantics_of
  semantics-good b s v e =
      let n = count_in (find "surfaces" v) in
      let (o, (d, (f, (x, r)))) =
      clear (object_kind ∷ needs ("surfaces" ∷ "values" ∷ []) ∷ at "surfaces" surfaces ∷ at "values" (schema.values n c (some b)) ∷ []) v e in
      let (m, k) = values-clear n b (get "values" v) s (at_some "values" (schema.values n c (some b)) v (has ("surfaces" ∷ "values" ∷ []) v o d).1.0 x) in
      let (p, q) = values-good n (depth c) (values_depth c) b (get "values" v) (values-depth c) m k in
      (list-good surface surface_of GoodSurface surface-good "surfaces" v f, p, rw (← (counted surface_of "surfaces" v)) q)

  -- the same of semantics that may be absent
  semantics-perhaps : (b : Json) → shaped (depth c) b ≡ [] → (o : Option Json) → on (semantics c (some b)) o ≡ []
      → GoodSemantics c (nest_of index_of (depth c) b) (option.map (semantics_of c) o)
  unfolding on
  semantics-perhaps b s option.none e = tt
  semantics-perhaps b s (some v) e = semantics-good b s v e

-- the checks of a geometry, by the code of its type and its boundary
abbrev pub geometry_checks : ℕ → ℕ → ℕ → Option Json → List Check
geometry_checks n object c b =
    object_kind ∷ needs ("type" ∷ "boundaries" ∷ []) ∷ needs_lod
    ∷ at "type" (geometry_type object c) ∷ at "lod" lod ∷ at "boundaries" (boundaries n c) ∷ at "semantics" (semantics c b) ∷ []

-- none of them finds a fault
geometry-clear : (n object : ℕ) (v : Json) → geometry n object v ≡ []
    → Clear (geometry_checks n object (code_of geometry_words (text_of (get "type" v))) (find "boundaries" v)) v
unfolding geometry
geometry-clear n object v e =
    clear (geometry_checks n object (code_of geometry_words (text_of (get "type" v))) (find "boundaries" v)) v
    (subst (λ t. all (geometry_checks n object (code_of geometry_words t) (find "boundaries" v)) v ≡ []) (type-text v) e)

-- a geometry
geometry-good : (n object : ℕ) (v : Json) → geometry n object v ≡ [] → GoodGeometry n (geometry_of v)
unfolding geometry_of geometry_words at
geometry-good n object v e =
    let c = code_of geometry_words (text_of (get "type" v)) in
    let (o, (d, (l, (t, (k, (b, (s, r))))))) = geometry-clear n object v e in
    let (q, (p, z)) = has ("type" ∷ "boundaries" ∷ []) v o d in
    let g = geometry-type-good object c (get "type" v) (at_some "type" (geometry_type object c) v q t) in
    let (w, i) = boundary-clear c g.0 n (get "boundaries" v) (at_some "boundaries" (boundaries n c) v p b) in
    let m : on (semantics c (some (get "boundaries" v))) (find "semantics" v) ≡ [] =
    subst (λ b'. on (semantics c b') (find "semantics" v) ≡ []) (found "boundaries" v p) s in
    record {
      code = g;
      lod = at_null lod (λ j. GoodLod (lod_of (text_of j))) lod-good lod-null "lod" v k;
      boundary = boundary-good n (depth c) (get "boundaries" v) w i;
      semantics = semantics-perhaps c g.0 (get "boundaries" v) w (find "semantics" v) m;
    }

-- ---- links (rule 15)

-- an ID that an object has
known-if : (b c : Bool) (v : Json) (o : Option Json) (k n : ℕ) → (b ≡ true → c ≡ true) → (is_some o ≡ true → k < n) → is_some (cond b (some v) o) ≡ true
    → cond c 0 (suc k) < suc n
known-if true true v o k n f g e = omega arith
known-if true false v o k n f g e = absurd (never (f refl) refl)
known-if false true v o k n f g e = omega arith
known-if false false v o k n f g e = omega (arith, g e)

-- such an ID is known
known : (t : List ℕ) (ms : List Member) → is_some (first_named t ms) ≡ true → Known (ids_of (map object_of ms)) t
unfolding first_named is_some object_number ids_of object_of
known t [] e = absurd (never e refl)
known t (m ∷ ms) e =
    known-if (same t (name_of m)) (same (name_of m) t) m.1 (first_named t ms) _ _ (λ q. rw (same-equal t (name_of m) q) (same_refl (name_of m))) (known t ms) e

-- strings
abbrev Strings : List Json → Type 0
Strings vs = All (λ b. b ≡ true) (map is_string_value vs)

-- each linked ID is known
links-known : (objects : List Member) (back : String) (id : List ℕ) (excused : Bool) (earlier : List (List ℕ)) (ss : List Json)
    → Strings ss → links_from objects back id excused earlier ss ≡ [] → All (Known (ids_of (map object_of objects))) (map text_of ss)
unfolding links_from link
links-known objects back id excused earlier [] a e = tt
links-known objects back id excused earlier (s ∷ ss) a e =
    let l = cond (is_string_value s) (link objects back id excused earlier s) [] in
    let f = cond-left (is_string_value s) (link objects back id excused earlier s) [] a.0 (nil-left l _ e) in (
      known (text_of s) objects (both_left _ (not (among earlier (text_of s))) (kept _ 15 s (nil-left _ _ f))),
      links-known objects back id excused (ids_among (s ∷ []) ++ earlier) ss a.1 (nil-right l _ e),
    )

-- the IDs that an object lists under a name
listed-known : (objects : List Member) (back : String) (id : List ℕ) (excused : Bool) (n : String) (v : Json)
    → at n links v ≡ [] → links_from objects back id excused [] (listed_in n v) ≡ []
    → All (Known (ids_of (map object_of objects))) (map text_of (elements (get n v)))
unfolding links
listed-known objects back id excused n v e l =
    links-known objects back id excused [] (elements (get n v)) (list-good string_kind is_string_value (λ b. b ≡ true) is-string n v e)
    (subst (λ ss. links_from objects back id excused [] ss ≡ []) (listed-elements n v) l)

-- ---- city objects

-- the checks of a city object
abbrev pub object_checks : ℕ → Json → List Check
object_checks n v =
    object_kind ∷ needs ("type" ∷ []) ∷ at "type" object_type ∷ at "attributes" object_kind ∷ at "children" links ∷ at "parents" links
    ∷ at "geometry" (geometries n (code_of object_words (type_text v))) ∷ []

-- a city object
object-good : (n : ℕ) (objects : List Member) (m : Member) → city_object n m.1 ≡ [] → links_of objects m ≡ []
    → GoodObject n (ids_of (map object_of objects)) (object_of m)
unfolding city_object links_of object_of geometries object_words
object-good n objects m e l =
    let v = m.1 in
    let c = code_of object_words (type_text v) in
    let (o, (d, (t, (a, (k, (p, (g, r))))))) = clear (object_checks n v) v e in
    let x = links_from objects "parents" (name_of m) (is "CityObjectGroup" (type_text v)) [] (listed_in "children" v) in
    let y = links_from objects "children" (name_of m) false [] (listed_in "parents" v) in
    let f = nil-left (x ++ y) (parent_link v) l in
    record {
      code = object-type-good (get "type" v) (at_some "type" object_type v (has ("type" ∷ []) v o d).0 t);
      children = listed-known objects "parents" (name_of m) (is "CityObjectGroup" (type_text v)) "children" v k (nil-left x y f);
      parents = listed-known objects "children" (name_of m) false "parents" v p (nil-right x y f);
      geometries = list-good (geometry n c) geometry_of (GoodGeometry n) (geometry-good n c) "geometry" v g;
    }

-- each of several
objects-good : (n : ℕ) (objects ms : List Member) → for_each (city_object n) (values ms) ≡ [] → links_of_each objects ms ≡ []
    → All (GoodObject n (ids_of (map object_of objects))) (map object_of ms)
unfolding for_each values links_of_each
objects-good n objects [] e l = tt
objects-good n objects (m ∷ ms) e l = (
  object-good n objects m (nil-left (city_object n m.1) _ e) (nil-left (links_of objects m) _ l),
  objects-good n objects ms (nil-right (city_object n m.1) _ e) (nil-right (links_of objects m) _ l),
)

-- ---- the model

-- a transform
abbrev GoodTransform : Json → Type 0
GoodTransform v = GoodPairs (get "scale" v) × GoodPairs (get "translate" v)

-- it is in range
transform-good : (v : Json) → transform v ≡ [] → GoodTransform v
unfolding transform
transform-good v e =
    let (o, (n, (s, (t, r)))) = clear (object_kind ∷ needs ("scale" ∷ "translate" ∷ []) ∷ at "scale" three_pairs ∷ at "translate" three_pairs ∷ []) v e in
    (at_null three_pairs GoodPairs pairs-good pairs-null "scale" v s, at_null three_pairs GoodPairs pairs-good pairs-null "translate" v t)

-- also where there is none
transform-null : GoodTransform (null 0 0)
unfolding get or_null find
transform-null = (pairs-null, pairs-null)

-- the checks of the root, with so many vertices
abbrev pub root_checks : ℕ → List Check
root_checks n =
    object_kind ∷ needs ("type" ∷ "version" ∷ "transform" ∷ "CityObjects" ∷ "vertices" ∷ []) ∷ at "type" (word "CityJSON") ∷ at "version" (word "2.0")
    ∷ at "transform" transform ∷ at "CityObjects" (city_objects n) ∷ at "vertices" vertices ∷ []

-- each object is one in which no check finds a fault
pub objects-clear : (n : ℕ) (v : Json) → city_objects n v ≡ [] → for_each (city_object n) (values (members v)) ≡ []
unfolding city_objects each_member
objects-clear n v e = (clear (object_kind ∷ object_limit ∷ each_member (city_object n) ∷ []) v e).1.1.0

-- none of them finds a fault
root-clear : (v : Json) → city_json v ≡ [] → Clear (root_checks (length (map (three_of integer_of) (elements (get "vertices" v))))) v
unfolding city_json
root-clear v e =
    clear (root_checks (length (map (three_of integer_of) (elements (get "vertices" v))))) v
    (subst (λ n. all (root_checks n) v ≡ []) (counted (three_of integer_of) "vertices" v) e)

-- a tree with no fault, of a text that is not too long
pub model-good : (v : Json) → size v ≤ 65535 → faults v ≡ [] → GoodModel (model_of v)
unfolding faults model_of vertices link_faults values members for_each
model-good v h e =
    let n = length (map (three_of integer_of) (elements (get "vertices" v))) in
    let ms = members (get "CityObjects" v) in
    let low = map (fault 5) (rule5 v) ++ map (fault 6) (rule6 v) in
    let (o, (d, (t, (k, (f, (c, (p, r))))))) = root-clear v (nil-right low (city_json v) (nil-left (low ++ city_json v) (link_faults v) e)) in
    let g = at_null transform GoodTransform transform-good transform-null "transform" v f in
    let q = at_null (city_objects n) (λ j. for_each (city_object n) (values (members j)) ≡ []) (objects-clear n) refl "CityObjects" v c in
    record {
      scale = g.0;
      translate = g.1;
      vertices = list-good vertex (three_of integer_of) GoodVertex vertex-good "vertices" v p;
      objects = objects-good n ms ms q (subst (λ os. links_of_each os os ≡ []) (objects-members v) (nil-right (low ++ city_json v) (link_faults v) e));
      short = short-enough v h;
    }
