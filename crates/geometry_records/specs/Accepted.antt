-- A geometry in which rules 7 to 14 find no fault, of a text that is not too long, is as the writers ask.
use Prim.Native.Nat.{ℕ, zero, suc, ◌^◌, ◌≤◌}
use Prim.Native.String.{String}
use Rattle.std.proofs.Common.{arith, sym, ap, ◌∙◌, subst, ltb-true, lt-ltb}
use Rattle.std.specs.Prelude.{◌≡◌, true, not, ◌||◌, eqb, ℤ, pos, negsuc}
use mathlib.Core.List.{List, [], ◌∷◌}
use Rattle.std.proofs.Math.Option.{some}
use Rattle.std.proofs.Math.ListN.{length}
use Rattle.std.proofs.lemmas.List.{length-map}
use Rattle.std.proofs.lemmas.Bool.{not-true}
use Rattle.numerals.specs.Numerals.{integer, is_below}
use Rattle.words.specs.Words.{geometry_words, code_of, is, is_lod, depth, values_depth, is_permitted}
use Rattle.json_text.specs.Tree.{Json}
use Rattle.nodes.specs.Access.{is_null_value, is_array_value, elements, numeral_of, find}
use Rattle.shapes.specs.Checks.{Check, unless, all, on, at, for_each, each_element, object_kind, string_kind, array_kind, is_some, needs, text}
use Rattle.shapes.specs.Shapes.{is_integer_value, shaped, ranged, for_both, matches}
use Rattle.fields.specs.Fields.{text_in, count_in}
use Rattle.rules.specs.Schema.{is_geometry_type, geometry_type, lod, boundaries, surfaces, semantics, needs_lod, geometry}
use Rattle.rules.specs.Schema as schema
use Rattle.model.specs.Code.{All}
use Rattle.model.specs.Lists.{all_both}
use Rattle.model.specs.Read.{get}
use Rattle.model.proofs.Size.{size, get-size, elements-within, find-within, count-within}
use Rattle.sheets.specs.Clear.{nil-left, nil-right, cond-right, kept, first_of, text-ok, clear, has, found, at_some, each-clear, type-text, counted}
use Rattle.sheets.specs.Numbers.{ranged_below, matches-clear}
use Rattle.sheets.specs.Faultless.{geometry-type-good, lod-clear, boundary-clear, values-clear, geometry_checks}
use Rattle.arrays.specs.Fits.{Index, Value, Elements, Leaves}
use Rattle.geometry_records.specs.Fits.{Has, Perhaps, geometry_code, SemanticsFit, GeometryFits}

-- ---- values that are no larger than a text

-- a value of a text that is not too long
abbrev pub Small : Json → Type 0
Small v = size v ≤ 65535

-- a value in which the check finds no fault is as P says
abbrev pub Fit : Check → (Json → Type 0) → Type 0
Fit c P = (v : Json) → Small v → c v ≡ [] → P v

module _ (c : Check) (P : Json → Type 0) (one : Fit c P) where
  -- each element is
  elements-fit : (v : Json) → Small v → for_each c (elements v) ≡ [] → Elements P v
  unfolding Elements
  elements-fit v h e = all_both Small (λ w. c w ≡ []) P one (elements v) (elements-within 65535 v h) (each-clear c (elements v) e)

  -- an array
  pub array-fits : Fit (all (array_kind ∷ each_element c ∷ [])) (Elements P)
  unfolding each_element
  array-fits v h e = elements-fit v h (clear (array_kind ∷ each_element c ∷ []) v e).1.0

  -- a member that has to be there
  pub has-fits : (n : String) (v : Json) → Small v → is_some (find n v) ≡ true → at n c v ≡ [] → Has P n v
  has-fits n v h s e = record { value = get n v; found = found n v s; holds = one (get n v) (omega (arith, get-size n v)) (at_some n c v s e) }

  -- a member that may be there
  pub perhaps-fits : (n : String) → Fit (at n c) (Perhaps P n)
  unfolding at on
  perhaps-fits n v h e = record { holds = λ w q. one w (find-within 65535 n v w h q) (subst (λ o. on c o ≡ []) q e) }

-- a count of a value of the text
pub count_small : (n : String) (v : Json) → Small v → count_in (find n v) ≤ 2 ^ 32
count_small n v h = omega (arith, counted (λ w. w) n v, length-map (elements (get n v)) (λ w. w), count-within (get n v), get-size n v)

-- ---- numbers

-- a number below n
below_wider : (n : ℕ) (z : ℤ) → n ≤ 2 ^ 32 → is_below n z ≡ true → is_below (2 ^ 32) z ≡ true
unfolding is_below
below_wider n (pos k) h e = lt-ltb k (2 ^ 32) (omega (arith, ltb-true k n e))
below_wider n (negsuc k) h e = e

-- there are at most n vertices, or surfaces
module _ (n : ℕ) (most : n ≤ 2 ^ 32) where
  index-fits : (v : Json) → is_integer_value v ≡ true → ranged n zero v ≡ [] → Index v
  unfolding Index
  index-fits v h e = (h, below_wider n (integer (numeral_of v)) most (ranged_below n v h e))

  -- a boundary
  boundary-fits : (d : ℕ) (v : Json) → shaped d v ≡ [] → ranged n d v ≡ [] → Leaves Index d v
  unfolding Leaves Elements shaped ranged
  boundary-fits zero v s e = index-fits v (kept (is_integer_value v) 12 v s) e
  boundary-fits (suc d) v s e =
      all_both (λ w. shaped d w ≡ []) (λ w. ranged n d w ≡ []) (Leaves Index d) (boundary-fits d) (elements v)
      (each-clear (shaped d) (elements v) (nil-right (unless (is_array_value v) 12 v) _ s)) (each-clear (ranged n d) (elements v) e)

  -- values over a boundary
  values-fit : (d : ℕ) (b v : Json) → matches d b v ≡ [] → ranged n d v ≡ [] → Leaves Value d v
  unfolding Leaves Elements Value matches ranged
  values-fit zero b v m e = λ q. index-fits v (first_of (is_integer_value v) (is_null_value v) (kept _ 12 v m) q) e
  values-fit (suc d) b v m e = let (l, f) = matches-clear d b v m in of (values-fit d) (elements b) (elements v) l f (each-clear (ranged n d) (elements v) e)
    where
      of : ((c w : Json) → matches d c w ≡ [] → ranged n d w ≡ [] → Leaves Value d w)
          → (bs vs : List Json) → length bs ≡ length vs → for_both (matches d) bs vs ≡ [] → All (λ w. ranged n d w ≡ []) vs → All (Leaves Value d) vs
      of one bs [] l f a = tt
      of one [] (w ∷ vs) l f a = absurd (omega arith)
      of one (c ∷ bs) (w ∷ vs) l f a = (one c w (nil-left (matches d c w) _ f) a.0, of one bs vs (omega arith) (nil-right (matches d c w) _ f) a.1)

-- ---- geometries

-- its type is no `GeometryInstance`, so it has a lod
lod-there : (object code : ℕ) (v : Json) → object_kind v ≡ [] → needs_lod v ≡ [] → geometry_type object code (get "type" v) ≡ [] → is_some (find "lod" v) ≡ true
unfolding needs_lod geometry_type
lod-there object code v o e t =
    let rest = text 11 (λ w. not (is "GeometryInstance" w)) ∷ text 14 (λ w. eqb code 0 || is_permitted object code) ∷ [] in
    let (s, (a, (b, r))) = clear (string_kind ∷ text 10 is_geometry_type ∷ rest) (get "type" v) t in
    let f = not-true _ (text-ok 11 (λ w. not (is "GeometryInstance" w)) (get "type" v) s b) in
    (has ("lod" ∷ []) v o (cond-right _ [] (needs ("lod" ∷ []) v) (ap (is "GeometryInstance") (type-text v) ∙ f) e)).0

lod-fits : (v : Json) → is_some (find "lod" v) ≡ true → at "lod" lod v ≡ [] → is_lod (text_in (find "lod" v)) ≡ true
unfolding text_in
lod-fits v s e = ap (λ o. is_lod (text_in o)) (found "lod" v s) ∙ lod-clear (get "lod" v) (at_some "lod" lod v s e)

-- the semantics of a geometry whose boundary is well shaped
semantics-fit : (c : ℕ) → 1 ≤ c → (b : Json) → shaped (depth c) b ≡ [] → Fit (semantics c (some b)) (SemanticsFit c)
unfolding semantics
semantics-fit c k b s v h e =
    let n = count_in (find "surfaces" v) in
    let (o, (d, (f, (x, r)))) =
    clear (object_kind ∷ needs ("surfaces" ∷ "values" ∷ []) ∷ at "surfaces" surfaces ∷ at "values" (schema.values n c (some b)) ∷ []) v e in
    record { values = has-fits (schema.values n c (some b)) (Leaves Value (values_depth c)) one "values" v h (has ("surfaces" ∷ "values" ∷ []) v o d).1.0 x }
  where
    one : Fit (schema.values (count_in (find "surfaces" v)) c (some b)) (Leaves Value (values_depth c))
    one w z q =
        let n = count_in (find "surfaces" v) in
        let (m, p) = values-clear c k n b w s q in values-fit n (count_small "surfaces" v h) (values_depth c) b w m p

pub geometry-fits : (n : ℕ) → n ≤ 2 ^ 32 → (object : ℕ) → Fit (geometry n object) GeometryFits
unfolding geometry geometry_code at
geometry-fits n most object v h e =
    let c = geometry_code v in
    let (o, (d, (l, (t, (k, (b, (s, r))))))) = clear (geometry_checks n object c (find "boundaries" v)) v e in
    let (q, (p, z)) = has ("type" ∷ "boundaries" ∷ []) v o d in
    let y = at_some "type" (geometry_type object c) v q t in
    let g : 1 ≤ c = subst (λ w. 1 ≤ code_of geometry_words w) (sym (type-text v)) (geometry-type-good object c (get "type" v) y).0 in
    let w = (boundary-clear c g n (get "boundaries" v) (at_some "boundaries" (boundaries n c) v p b)).0 in
    record {
      shape = record {
        lod = lod-fits v (lod-there object c v o l y) k;
        boundary =
            has-fits (boundaries n c) (Leaves Index (depth c)) (λ u i j. let (x, f) = boundary-clear c g n u j in boundary-fits n most (depth c) u x f)
            "boundaries" v h p b;
      };
      semantics =
          perhaps-fits (semantics c (some (get "boundaries" v))) (SemanticsFit c) (semantics-fit c g (get "boundaries" v) w)
          "semantics" v h (subst (λ u. on (semantics c u) (find "semantics" v) ≡ []) (found "boundaries" v p) s);
    }
