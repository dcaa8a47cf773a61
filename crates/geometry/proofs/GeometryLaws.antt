-- Geometries, their boundaries and their semantics, from what the code's tests say.
use Prim.Native.Nat.{ℕ, zero, suc, ◌≤◌, min}
use Prim.Native.String.{String}
use native.Mathlib.Omega.{arith}
use mathlib.Core.Path.{◌≡◌, refl, sym, ap, ◌∙◌, subst}
use mathlib.Core.Bool.{Bool, true, false, cond, not, ◌||◌}
use mathlib.Core.List.{List, [], ◌∷◌, ◌++◌, append-nil}
use mathlib.Core.Option.{some}
use mathlib.Core.Option as option
use lib.ListN.{length}
use lib.Dec.{eqb}
use borrow.Author.Tests.{not-true, not-false, ne_eqb, eqb-true, eqb-false}
use Rattle.utf8.specs.Ascii.{ascii}
use Rattle.utf8.specs.Utf8.{same}
use Rattle.utf8.specs.Laws.{same-equal}
use Rattle.words.specs.Words.{code_of, is_one, is, is_added_name, geometry_words, surface_words, depth, values_depth, is_permitted}
use Rattle.words.specs.Laws.{one-has-code}
use Rattle.json_text.specs.Tree.{Json, Items}
use Rattle.json_text.specs.Table.{Sub, null, bool, num, str, arr, obj, Subs, nil, cons}
use Rattle.nodes.specs.Access.{is_string_value, is_array_value, text_of, listed, elements, find}
use Rattle.nodes.specs.Faults.{fault, least, no_fault}
use Rattle.nodes.specs.Says.{Node, Sought, Finds, Gives, GivesFound}
use Rattle.nodes.specs.Laws.{least-++, least-min, least-comm, least-le, place_at, place-below}
use Rattle.nodes.specs.Says.{Found}
use Rattle.std.specs.Prelude.{Some, None}
use Rattle.fields.specs.Fields.{text_in, type_text}
use Rattle.fields.specs.Laws.{at-node}
use Rattle.shapes.specs.Checks.{Check, unless, all, on, for_each, string_kind, array_kind, needs, text, is_empty}
use Rattle.shapes.specs.Shapes.{shaped, ranged, matches, is_integer_value}
use Rattle.shapes.specs.Says.{Needs}
use Rattle.boundaries.specs.Says.{GivesTwo}
use Rattle.rules.specs.Schema.{is_geometry_type, is_surface_type, geometry_type, boundary, boundaries, over_boundary, needs_lod}
use Rattle.geometry.specs.declared.Outline.{Outline}
use Rattle.geometry.specs.Says.{Checked, CheckedOver, MemberFound, CodeAt, SoundAt, Outlined, OwnFault, least_with, Overlaid}
use Rattle.geometry.proofs.Lines.{lines}

step : {r : ℕ} (b m : ℕ) (p q : List ℕ) → m ≡ least b p → r ≡ least m q → r ≡ least b (p ++ q)
step b m p q e h = h ∙ (ap (λ (n : ℕ). least n q) e ∙ sym (least-++ b p q))

-- another check that finds the same at the node
gives_same : {x t : List ℕ} {i best : ℕ} (c d : Check) {r : ℕ} → ((v : Json) → Sub x t i v → c v ≡ d v) → Gives (λ v. least best (c v)) x t i r → Checked d x t i best r
gives_same {best = best} c d e g = record { is = λ v s. g.is v s ∙ ap (least best) (e v s) }

-- ---- words

text-skip : (rule : ℕ) (ok : List ℕ → Bool) (v : Json) → is_string_value v ≡ false → text rule ok v ≡ []
unfolding text unless
text-skip rule ok v e = rw e

text-told : (rule : ℕ) (ok : List ℕ → Bool) (v : Json) → is_string_value v ≡ true → text rule ok v ≡ unless (ok (text_of v)) rule v
unfolding text
text-told rule ok v e = rw e

string-told : (v : Json) → is_string_value v ≡ true → string_kind v ≡ []
unfolding string_kind unless
string-told v e = rw e

-- a text with a code, and one without
has_code : (words : List String) (w : List ℕ) {code : ℕ} → code ≡ code_of words w → (code ≡ 0 → ⊥) → is_one words w ≡ true
has_code words w {code} e h = one-has-code words w ∙ ap not (ap (λ (n : ℕ). eqb n 0) (sym e) ∙ ne_eqb code 0 h)

no_code : (words : List String) (w : List ℕ) {code : ℕ} → code ≡ code_of words w → code ≡ 0 → is_one words w ≡ false
no_code words w e h = one-has-code words w ∙ ap (λ (n : ℕ). not (eqb n 0)) (sym e ∙ h)

pub surface-coded : (w : List ℕ) {code : ℕ} → code ≡ code_of surface_words w → (code ≡ 0 → ⊥) → not (eqb code 0) ≡ is_surface_type w
unfolding is_surface_type
surface-coded w {code} e h = rw (has_code surface_words w e h, ne_eqb code 0 h)

pub surface-added : (w : List ℕ) {code : ℕ} {b : Bool} → code ≡ code_of surface_words w → code ≡ 0 → b ≡ is_added_name w → b ≡ is_surface_type w
unfolding is_surface_type
surface-added w e h q = rw (no_code surface_words w e h) q

-- the type of a geometry
geometry-skip : (object code : ℕ) (v : Json) → is_string_value v ≡ false → string_kind v ≡ geometry_type object code v
unfolding geometry_type all
geometry-skip object code v e =
    rw (text-skip 10 is_geometry_type v e, text-skip 11 (λ w. not (is "GeometryInstance" w)) v e, text-skip 14 (λ w. eqb code 0 || is_permitted object code) v e, append-nil)

geometry-string : (object code : ℕ) (v : Json) → is_string_value v ≡ true
    → geometry_type object code v ≡ unless (is_geometry_type (text_of v)) 10 v ++ (unless (not (is "GeometryInstance" (text_of v))) 11 v ++ unless (eqb code 0 || is_permitted object code) 14 v)
unfolding geometry_type all
geometry-string object code v e =
    rw (
      string-told v e,
      text-told 10 is_geometry_type v e,
      text-told 11 (λ w. not (is "GeometryInstance" w)) v e,
      text-told 14 (λ w. eqb code 0 || is_permitted object code) v e,
      append-nil,
    )

instance-code : code_of geometry_words (ascii "GeometryInstance") ≡ 0
unfolding code_of geometry_words
instance-code = refl

-- a geometry word is not `GeometryInstance`
no-instance : (w : List ℕ) {code : ℕ} → code ≡ code_of geometry_words w → (code ≡ 0 → ⊥) → is "GeometryInstance" w ≡ false
unfolding is
no-instance w {code} e h = go (same (ascii "GeometryInstance") w) refl
  where
    go : (b : Bool) → same (ascii "GeometryInstance") w ≡ b → b ≡ false
    go true q = absurd (h (e ∙ (ap (code_of geometry_words) (sym (same-equal (ascii "GeometryInstance") w q)) ∙ instance-code)))
    go false q = refl

three-lists : (object code : ℕ) (v : Json) (a b c : Bool) → is_geometry_type (text_of v) ≡ a → is "GeometryInstance" (text_of v) ≡ b → eqb code 0 ≡ c → is_string_value v ≡ true
    → unless a 10 v ++ (unless (not b) 11 v ++ unless (c || is_permitted object code) 14 v) ≡ geometry_type object code v
three-lists object code v a b c p q z e = rw (geometry-string object code v e, p, q, z)

module _ {x t : List ℕ} {k : ℕ} (best object code : ℕ) {b : Bool} (g : Gives is_string_value x t k b) where
  pub geometry-other : {r : ℕ} → not b ≡ true → Gives (λ v. least best (string_kind v)) x t k r → Checked (geometry_type object code) x t k best r
  geometry-other h u = gives_same string_kind (geometry_type object code) (λ v s. geometry-skip object code v (sym (g.is v s) ∙ not-true b h)) u

  module _ (d : CodeAt geometry_words x t k code) (h : not b ≡ false) where
    told : (v : Json) → Sub x t k v → is_string_value v ≡ true
    told v s = sym (g.is v s) ∙ not-false b h

    pub geometry-coded : {a : Bool} {r : ℕ} → (code ≡ 0 → ⊥) → a ≡ is_permitted object code → Gives (λ v. least best (unless a 14 v)) x t k r
        → Checked (geometry_type object code) x t k best r
    unfolding unless is_geometry_type
    geometry-coded {a} n q u =
        gives_same (λ v. unless a 14 v) (geometry_type object code)
        (λ v s.
        let one : is_one geometry_words (text_of v) ≡ true = has_code geometry_words (text_of v) (d.is.is v s) n in
        ap (λ (a : Bool). unless a 14 v) q
        ∙ three-lists object code v true false false (ap (λ (a : Bool). a || is "GeometryInstance" (text_of v)) one) (no-instance (text_of v) (d.is.is v s) n) (ne_eqb code 0 n) (told v s))
        u

    module _ {a : Bool} (z : code ≡ 0) (w : Gives (λ v. is "GeometryInstance" (text_of v)) x t k a) where
      bare : (v : Json) → Sub x t k v → is_geometry_type (text_of v) ≡ a
      unfolding is_geometry_type
      bare v s = ap (λ (a : Bool). a || is "GeometryInstance" (text_of v)) (no_code geometry_words (text_of v) (d.is.is v s) z) ∙ sym (w.is v s)

      lists : (e : Bool) → a ≡ e → (v : Json) → Sub x t k v → unless e 10 v ++ (unless (not e) 11 v ++ []) ≡ geometry_type object code v
      unfolding unless
      lists e i v s = three-lists object code v e e true (bare v s ∙ i) (sym (w.is v s) ∙ i) (ap (λ (n : ℕ). eqb n 0) z) (told v s)

      pub geometry-instance : {r : ℕ} → a ≡ true → Gives (λ v. least best (unless false 11 v)) x t k r → Checked (geometry_type object code) x t k best r
      unfolding unless
      geometry-instance i u = gives_same (λ v. unless false 11 v) (geometry_type object code) (lists true i) u

      pub geometry-unknown : {r : ℕ} → a ≡ false → Gives (λ v. least best (unless false 10 v)) x t k r → Checked (geometry_type object code) x t k best r
      unfolding unless
      geometry-unknown i u = gives_same (λ v. unless false 10 v) (geometry_type object code) (lists false i) u

-- ---- boundaries

bound-lists : (vertices code : ℕ) (v : Json) (b : Bool) → eqb code 0 ≡ b
    → array_kind v ++ cond b [] (shaped (depth code) v ++ ranged vertices (depth code) v) ≡ boundaries vertices code v
unfolding boundaries boundary all
bound-lists vertices code v b e = rw (e, append-nil)

module _ {x t : List ℕ} {k best : ℕ} (vertices : ℕ) {code m : ℕ} (a : Gives (λ v. least best (array_kind v)) x t k m) where
  pub boundary-none : code ≡ 0 → Checked (boundaries vertices code) x t k best m
  boundary-none e = gives_same array_kind (boundaries vertices code) (λ v s. sym (append-nil (array_kind v)) ∙ bound-lists vertices code v true (ap (λ (n : ℕ). eqb n 0) e)) a

  pub boundary-is : {p r : ℕ} → (code ≡ 0 → ⊥) → p ≡ depth code → Gives (λ v. least m (shaped p v ++ ranged vertices p v)) x t k r → Checked (boundaries vertices code) x t k best r
  boundary-is h p s =
      record {
        is = λ v z.
            let faults : Check = λ v. shaped (depth code) v ++ ranged vertices (depth code) v in
            step best m (array_kind v) (faults v) (a.is v z) (s.is v z ∙ ap (λ (d : ℕ). least m (shaped d v ++ ranged vertices d v)) p)
            ∙ ap (least best) (bound-lists vertices code v false (ne_eqb code 0 h));
      }

-- every fault of a list is below `no_fault`: if that is the least of it and them, there are none
abbrev NoFaults : List ℕ → Type 0
NoFaults fs = least no_fault fs ≡ no_fault → fs ≡ []

none-++ : (p q : List ℕ) → NoFaults p → NoFaults q → NoFaults (p ++ q)
unfolding least
none-++ p q f g e =
    let h : least (least no_fault p) q ≡ no_fault = sym (least-++ no_fault p q) ∙ e in
    let z : least no_fault p ≡ no_fault = omega (arith, least-le (least no_fault p) q, least-le no_fault p) in
    let u : q ≡ [] = g (ap (λ (n : ℕ). least n q) (sym z) ∙ h) in
    rw (f z, u)

module _ {x t : List ℕ} (short : length x ≤ 65535) where
  none-unless : {i : ℕ} {v : Json} (b : Bool) → Sub x t i v → NoFaults (unless b 12 v)
  unfolding least unless fault
  none-unless true s e = refl
  none-unless false s e = absurd (omega (arith, place_at s, place-below s short))

  none-subs : (c : Check) → ((i : ℕ) (v : Json) → Sub x t i v → NoFaults (c v)) → {i : ℕ} {vs : Items} → Subs x t i vs → NoFaults (for_each c (listed vs))
  unfolding listed for_each
  none-subs c f nil = λ e. refl
  none-subs c f (cons {v = v} {vs = vs} s ss) = none-++ (c v) (for_each c (listed vs)) (f _ v s) (none-subs c f ss)

  none-elements : (c : Check) → ((i : ℕ) (v : Json) → Sub x t i v → NoFaults (c v)) → {i : ℕ} {v : Json} → Sub x t i v → NoFaults (for_each c (elements v))
  unfolding elements for_each
  none-elements c f (null w) = λ e. refl
  none-elements c f (bool w) = λ e. refl
  none-elements c f (num w n r) = λ e. refl
  none-elements c f (str q) = λ e. refl
  none-elements c f (arr w ss) = none-subs c f ss
  none-elements c f (obj w ms) = λ e. refl

  none-shaped : (d : ℕ) {i : ℕ} {v : Json} → Sub x t i v → NoFaults (shaped d v)
  unfolding shaped
  none-shaped zero {v = v} s = none-unless (is_integer_value v) s
  none-shaped (suc d) {v = v} s =
      none-++ (unless (is_array_value v) 12 v) (for_each (shaped d) (elements v)) (none-unless (is_array_value v) s) (none-elements (shaped d) (λ i w z. none-shaped d z) s)

nil-yes : (fs : List ℕ) → fs ≡ [] → is_empty fs ≡ true
unfolding is_empty
nil-yes fs e = rw e

nil-no : (fs : List ℕ) → (least no_fault fs ≡ no_fault → ⊥) → is_empty fs ≡ false
unfolding is_empty least
nil-no [] h = absurd (h refl)
nil-no (f ∷ fs) h = refl

nil-test : {l : ℕ} (fs : List ℕ) → NoFaults fs → l ≡ least no_fault fs → eqb l no_fault ≡ is_empty fs
nil-test {l} fs n e = go (eqb l no_fault) refl
  where
    go : (b : Bool) → eqb l no_fault ≡ b → b ≡ is_empty fs
    go true q = sym (nil-yes fs (n (sym e ∙ eqb-true l no_fault q)))
    go false q = sym (nil-no fs (λ z. eqb-false l no_fault q (e ∙ z)))

-- ---- a boundary with no fault is well shaped

-- the least of several lists is the greatest there is only if it is so of the one in the middle
middle : (p q r : List ℕ) → least no_fault (p ++ (q ++ r)) ≡ no_fault → least no_fault q ≡ no_fault
middle p q r e =
    let h : least (least (least no_fault p) q) r ≡ no_fault = simp least-++ at e in
    let below = least-le (least (least no_fault p) q) r in
    let u : least no_fault p ≡ no_fault = omega (arith, below, least-le (least no_fault p) q, least-le no_fault p) in
    let w : least (least no_fault p) q ≡ no_fault = omega (arith, below, least-le (least no_fault p) q, least-le no_fault p) in
    rw u at w

-- the least of any faults below a number, found by way of a greater number
least-cap : (f b : ℕ) (fs : List ℕ) → f ≤ b → min f (least b fs) ≡ least f fs
least-cap f b fs h =
    let z : min b f ≡ f = omega arith in
    let q = least-min b f fs in
    let e : least f fs ≡ min (least b fs) f = ap (λ (n : ℕ). least n fs) (sym z) ∙ q in
    omega arith

-- the least fault of a boundary that was sought
module _ {x t : List ℕ} {found : Found} (vertices code : ℕ) (d : Sought x t found) where
  pub own-nothing : found ≡ None → OwnFault vertices code x t found None
  unfolding least_with on least Finds
  own-nothing e = record {
    is = λ o best f l. let z : o ≡ option.none = subst (Finds x t o) e f in rw z;
    sound = record { sought = d; is = λ h i y. absurd cc };
  }

  module _ {k l : ℕ} (e : found ≡ Some k) (g : Checked (boundaries vertices code) x t k 4294967295 l) where
    own-least : (o : option.Option Json) (best : ℕ) → Finds x t o found → best ≤ 4294967295 → min best l ≡ least best (on (boundaries vertices code) o)
    unfolding on Finds
    own-least o best f h =
        let (v, p, s) : Finds x t o (Some k) = subst (Finds x t o) e f in
        ap (min best) (g.is v s) ∙ (least-cap best 4294967295 (boundaries vertices code v) h ∙ ap (λ o. least best (on (boundaries vertices code) o)) (sym p))

    pub own-none : l ≡ 4294967295 → OwnFault vertices code x t found None
    unfolding least_with on Finds
    own-none z = record {
      is = λ o best f h. let q : min best l ≡ best = omega (arith, z, h) in sym q ∙ own-least o best f h;
      sound = record { sought = d; is = λ h i y. record { none = λ w v s. told h v s (subst (Finds x t (some v)) (sym y) (v, refl, s)) } };
    }
      where
        told : (code ≡ 0 → ⊥) → {i : ℕ} (v : Json) → Sub x t i v → Finds x t (some v) found → shaped (depth code) v ≡ []
        told h v s f =
            let fs : List ℕ = array_kind v ++ (shaped (depth code) v ++ ranged vertices (depth code) v) in
            let m : min 4294967295 l ≡ 4294967295 = omega (arith, z) in
            let q : least 4294967295 fs ≡ 4294967295 =
            ap (least 4294967295) (bound-lists vertices code v false (ne_eqb code 0 h)) ∙ (sym (own-least (some v) 4294967295 f (omega arith)) ∙ m) in
            let c : least no_fault fs ≡ no_fault = sym (least-cap no_fault 4294967295 fs (omega arith)) ∙ ap (min no_fault) q in
            none-shaped d.short (depth code) s (middle (array_kind v) (shaped (depth code) v) (ranged vertices (depth code) v) c)

    pub own-some : OwnFault vertices code x t found (Some l)
    unfolding least_with
    own-some = record { is = own-least; sound = record { sought = d; is = λ h i y. record { none = λ w. absurd cc } } }

module _ {x t : List ℕ} {i : ℕ} where
  pub shape-known : {code : ℕ} {b : Bool} → SoundAt x t i code b → b ≡ true → Gives (λ v. is_empty (shaped (depth code) v)) x t i b
  shape-known {code} k e = record { is = λ v s. e ∙ sym (nil-yes (shaped (depth code) v) (k.none e v s)) }

  pub shape-told : (code : ℕ) {d l : ℕ} → Node x t i → d ≡ depth code → Gives (λ v. least no_fault (shaped d v)) x t i l
      → Gives (λ v. is_empty (shaped (depth code) v)) x t i (eqb l no_fault)
  shape-told code n e g =
      record { is = λ v s. nil-test (shaped (depth code) v) (none-shaped n.short (depth code) s) (g.is v s ∙ ap (λ (d : ℕ). least no_fault (shaped d v)) e) }

-- ---- values over a boundary

over-lists : (count code : ℕ) (w v : Json) (b : Bool) → (code ≡ 0 → ⊥) → is_empty (shaped (depth code) w) ≡ b
    → cond b (matches (values_depth code) w v) [] ++ ranged count (values_depth code) v ≡ over_boundary count code (some w) v
unfolding over_boundary
over-lists count code w v b h e = rw (ne_eqb code 0 h, e)

module _ {x t : List ℕ} {b k code p m : ℕ} {l : Bool} (best count : ℕ) (d : code ≡ 0 → ⊥) (i : p ≡ values_depth code)
    (n : Gives (λ v. least best (ranged count p v)) x t k m) (s : Gives (λ w. is_empty (shaped (depth code) w)) x t b l) where
  in-range : (v : Json) → Sub x t k v → m ≡ least best (ranged count (values_depth code) v)
  in-range v z = n.is v z ∙ ap (λ (d : ℕ). least best (ranged count d v)) i

  pub over-unshaped : l ≡ false → GivesTwo (λ w v. least best (over_boundary count code (some w) v)) x t b k m
  over-unshaped u = record { is = λ w v y z. in-range v z ∙ ap (least best) (over-lists count code w v false d (sym (s.is w y) ∙ u)) }

  pub over-shaped : {r : ℕ} → l ≡ true → GivesTwo (λ w u. least m (matches p w u)) x t b k r → GivesTwo (λ w v. least best (over_boundary count code (some w) v)) x t b k r
  over-shaped u f =
      record {
        is = λ w v y z.
            let range = ranged count (values_depth code) v in
            let match = matches (values_depth code) w v in
            step best m range match (in-range v z) (f.is w v y z ∙ ap (λ (d : ℕ). least m (matches d w v)) i)
            ∙ (least-comm best range match ∙ ap (least best) (over-lists count code w v true d (sym (s.is w y) ∙ u)));
      }

module _ {x t : List ℕ} {k best : ℕ} {found : Found} (count code : ℕ) where
  -- no boundary, or a type without a code
  pub over_nothing : found ≡ None → CheckedOver (over_boundary count code) x t found k best best
  unfolding over_boundary Finds least
  over_nothing e = record { is = λ o f. record { is = λ v s. let z : o ≡ option.none = subst (Finds x t o) e f in rw z } }

  pub over-found : {b r : ℕ} → found ≡ Some b → GivesTwo (λ w v. least best (over_boundary count code (some w) v)) x t b k r → CheckedOver (over_boundary count code) x t found k best r
  unfolding Finds
  over-found {b} e h =
      record {
        is = λ o f.
            record { is = λ v s. let (w, q, z) : Finds x t o (Some b) = subst (Finds x t o) e f in h.is w v z s ∙ ap (λ o. least best (over_boundary count code o v)) (sym q) };
      }

  pub over-uncoded : {b : ℕ} → found ≡ Some b → code ≡ 0 → CheckedOver (over_boundary count code) x t found k best best
  unfolding over_boundary least
  over-uncoded e h = over-found e (record { is = λ w v z s. rw h })

pub overlaid : {x t : List ℕ} {b v : ℕ} {o : Outline} → Node x t v → Outlined x t o → o.at ≡ Some b → (o.code ≡ 0 → ⊥) → Overlaid x t b v o
overlaid d o e h = record { nodes = record { one = at-node o.sought e; two = d }; coded = h; known = o.is h _ e }

-- ---- `lod`

module _ {x t : List ℕ} {i : ℕ} {kind : Found} {b : Bool} (best : ℕ) (k : MemberFound (ascii "type") x t i kind) (g : GivesFound (λ o. is "GeometryInstance" (text_in o)) x t kind b) where
  told-type : (v : Json) → Sub x t i v → b ≡ is "GeometryInstance" (type_text v)
  unfolding type_text find
  told-type v s = g.is (find "type" v) (k.seeks.finds v s)

  pub lod-spared : b ≡ true → Checked needs_lod x t i best best
  unfolding needs_lod least
  lod-spared e = record { is = λ v s. let z : is "GeometryInstance" (type_text v) ≡ true = sym (told-type v s) ∙ e in rw z }

  pub lod-needed : {found : Found} {r : ℕ} → b ≡ false → MemberFound (ascii "lod") x t i found → Needs x t found i best r → Checked needs_lod x t i best r
  unfolding needs_lod needs find
  lod-needed e f n =
      record { is = λ v s. let z : is "GeometryInstance" (type_text v) ≡ false = sym (told-type v s) ∙ e in rw (z, append-nil) (n.is v (find "lod" v) s (f.seeks.finds v s)) }

-- what `search` is handed to close what the functions leave
pub ruleset geometric = (lines, geometry-other, geometry-coded, geometry-instance, geometry-unknown, lod-spared, lod-needed)
