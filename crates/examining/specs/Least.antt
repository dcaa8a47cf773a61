-- The least fault of a tree, and the verdict that it is.
use Rattle.std.specs.Prelude.{ℕ, zero, suc, ◌*◌, ◌≤◌, ◌<◌, min, ◌≡◌, refl, ◌⊎◌, length, drop}
use Rattle.std.proofs.Common.{arith, sym, ap, ◌∙◌, inl, inr, lt-ltb, le-ltb}
use Rattle.std.proofs.Math.Decide.{dec_lt}
use mathlib.Core.List.{List, [], ◌∷◌, ◌++◌, map, map-eq-nil_iff}
use Rattle.std.proofs.Math.Option.{Option, some}
use Rattle.std.proofs.Math.Option as option
use Rattle.utf8.specs.Laws.{clash}
use Rattle.json_text.specs.Tree.{Json}
use Rattle.nodes.specs.Access.{members, Member, find}
use Rattle.everywhere.specs.Everywhere.{rule5, rule6}
use Rattle.nodes.specs.Faults.{fault, least, no_fault, rule_of, place_in}
use Rattle.nodes.specs.Laws.{least-++, least-le}
use Rattle.shapes.specs.Checks.{all, on, at, needs, object_kind}
use Rattle.fields.specs.Fields.{members_in, count_in, objects_of}
use Rattle.rules.specs.Schema.{city_json, city_objects, object_limit, name_fault, transform, word}
use Rattle.rules.specs.Links.{link_faults}
use Rattle.model.specs.Code.{All}
use Rattle.verdict.specs.Verdict.{accepted, refused, faults, end_of_fault, given, judged}
use Rattle.sheets.specs.Clear.{nil-left, nil-right}
use Rattle.verdict.specs.Places.{Among, Placed, early, early-among, links-among, faults-small}

-- ---- the least of a list of faults of the rules from lo to before hi

-- it is the best so far or such a fault
least-among : (lo hi b : ℕ) (fs : List ℕ) → All (Among lo hi) fs → (least b fs ≡ b) ⊎ Among lo hi (least b fs)
unfolding least
least-among lo hi b [] a = inl refl
least-among lo hi b (f ∷ fs) a = by (least-among lo hi (min b f) fs a.1) (dec_lt f b)
  where
    by : (least (min b f) fs ≡ min b f) ⊎ Among lo hi (least (min b f) fs) → Dec (f < b) → (least (min b f) fs ≡ b) ⊎ Among lo hi (least (min b f) fs)
    by (inl e) (yes h) = inr (omega (arith, a.0.0), omega (arith, a.0.1))
    by (inl e) (no h) = inl (omega arith)
    by (inr l) d = inr l

-- if it is none, there are none
nothing : (lo hi b : ℕ) (fs : List ℕ) → All (Among lo hi) fs → hi * 65536 ≤ least b fs → fs ≡ []
unfolding least
nothing lo hi b [] a h = refl
nothing lo hi b (f ∷ fs) a h = absurd (omega (arith, a.0.1, least-le (min b f) fs))

-- ---- a tree

-- the passes of the rules 5 to 14, one after the other
pub early-passes : (v : Json) {a b c : ℕ} → a ≡ least no_fault (map (fault 5) (rule5 v)) → b ≡ least a (map (fault 6) (rule6 v)) → c ≡ least b (city_json v)
    → c ≡ least no_fault (early v)
early-passes v p q r =
    let five = map (fault 5) (rule5 v) in
    let six = map (fault 6) (rule6 v) in
    r
    ∙ ap (λ (n : ℕ). least n (city_json v)) (q ∙ ap (λ (n : ℕ). least n six) p ∙ sym (least-++ no_fault five six))
    ∙ sym (least-++ no_fault (five ++ six) (city_json v))

-- then that of the links
pub all-passes : (v : Json) {c d : ℕ} → c ≡ least no_fault (early v) → d ≡ least c (link_faults v) → d ≡ least no_fault (faults v)
unfolding faults
all-passes v p q = q ∙ ap (λ (n : ℕ). least n (link_faults v)) p ∙ sym (least-++ no_fault (early v) (link_faults v))

module _ (v : Json) (d : Placed v) where
  -- a fault of the rules 5 to 14 is less than every fault of the links
  pub before-links : {c : ℕ} → c ≡ least no_fault (early v) → c < no_fault → c ≡ least no_fault (faults v)
  before-links {c} p h = all-passes v p (of (least-among 5 15 no_fault (early v) (early-among v d)) (least-among 15 18 c (link_faults v) (links-among v d)))
    where
      of : (least no_fault (early v) ≡ no_fault) ⊎ Among 5 15 (least no_fault (early v)) → (least c (link_faults v) ≡ c) ⊎ Among 15 18 (least c (link_faults v))
          → c ≡ least c (link_faults v)
      of (inl e) k = absurd (omega arith)
      of (inr k) (inl e) = sym e
      of (inr k) (inr l) = absurd (omega (arith, k.1, l.0, least-le c (link_faults v)))

  -- no fault of the rules 5 to 14: none of rule 6
  pub no-repeat : {c : ℕ} → c ≡ least no_fault (early v) → no_fault ≤ c → rule6 v ≡ []
  no-repeat p h =
      let none : early v ≡ [] = nothing 5 15 no_fault (early v) (early-among v d) (omega arith) in
      (map-eq-nil_iff (fault 6)).0 (nil-right (map (fault 5) (rule5 v)) _ (nil-left _ (city_json v) none))

  -- and none of the schema
  pub no-schema : {c : ℕ} → c ≡ least no_fault (early v) → no_fault ≤ c → city_json v ≡ []
  no-schema p h = nil-right (map (fault 5) (rule5 v) ++ map (fault 6) (rule6 v)) (city_json v) (nothing 5 15 no_fault (early v) (early-among v d) (omega arith))

  -- no fault
  pub no-fault : {c : ℕ} → c ≡ least no_fault (faults v) → no_fault ≤ c → faults v ≡ []
  no-fault p h = nothing 5 18 no_fault (faults v) (faults-small v d) (omega arith)

  -- the least is no less than the first fault of rule 5
  pub from-five : {c : ℕ} → c ≡ least no_fault (faults v) → 5 * 65536 ≤ c
  from-five {c} p = of (least-among 5 18 no_fault (faults v) (faults-small v d))
    where
      of : (least no_fault (faults v) ≡ no_fault) ⊎ Among 5 18 (least no_fault (faults v)) → 5 * 65536 ≤ c
      of (inl e) = omega arith
      of (inr l) = omega (arith, l.0)

-- ---- the verdict of the least

pub judged-fault : (v : Json) {f : ℕ} → f ≡ least no_fault (faults v) → f < no_fault → judged v ≡ refused (rule_of f) (place_in f) (end_of_fault v f)
unfolding judged given
judged-fault v {f} e h = rw (← e, lt-ltb f no_fault h) refl

pub judged-none : (v : Json) {f : ℕ} → f ≡ least no_fault (faults v) → no_fault ≤ f → judged v ≡ accepted (length (objects_of v))
unfolding judged given
judged-none v {f} e h = rw (← e, le-ltb f no_fault h) refl

-- ---- at most 1,024 objects

few-dropped : (n : ℕ) (ms : List Member) → drop n ms ≡ [] → length ms ≤ n
few-dropped n [] e = omega arith
few-dropped zero (m ∷ ms) e = clash cc
few-dropped (suc n) (m ∷ ms) e = omega (arith, few-dropped n ms e)

no_name : (ms : List Member) → name_fault ms ≡ [] → ms ≡ []
unfolding name_fault
no_name [] e = refl
no_name (m ∷ ms) e = clash cc

few-members : (n : ℕ) (o : Option Json) → on (city_objects n) o ≡ [] → length (members_in o) ≤ 1024
unfolding on city_objects all object_limit members_in
few-members n option.none e = omega arith
few-members n (some w) e = few-dropped 1024 (members w) (no_name (drop 1024 (members w)) (nil-left _ _ (nil-right (object_kind w) _ e)))

pub few-objects : (v : Json) → city_json v ≡ [] → length (objects_of v) ≤ 1024
unfolding city_json all at objects_of
few-objects v e =
    let n = count_in (find "vertices" v) in
    few-members n (find "CityObjects" v)
    (nil-left _ _ (nil-right (on transform (find "transform" v)) _ (nil-right (on (word "2.0") (find "version" v)) _
    (nil-right (on (word "CityJSON") (find "type" v)) _
    (nil-right (needs ("type" ∷ "version" ∷ "transform" ∷ "CityObjects" ∷ "vertices" ∷ []) v) _ (nil-right (object_kind v) _ e))))))

-- so where there is no fault
pub few-clean : (v : Json) → faults v ≡ [] → length (objects_of v) ≤ 1024
unfolding faults
few-clean v e = few-objects v (nil-right (map (fault 5) (rule5 v) ++ map (fault 6) (rule6 v)) (city_json v) (nil-left (early v) (link_faults v) e))
