-- Two models that fit their sheets' fields never share a sheet.
use Rattle.std.specs.Prelude.{◌≡◌, refl, List, [], ◌∷◌, ◌++◌, Bool, true, false, cond, ◌⊎◌, ℕ, zero, suc, ◌^◌, ◌<◌, length, T, eqb, ℤ}
use Rattle.std.proofs.Common.{sym, ap, ◌∙◌, subst, append_assoc, append-nil, inl, inr, arith}
use Rattle.std.proofs.Math.Path.{path_j}
use Rattle.std.proofs.Math.Option.{Option, none, some}
use Rattle.utf8.specs.Bytes.{le}
use Rattle.model.specs.Code.{signed, concat_map, All, Holds}
use Rattle.model.specs.Unique.{Until, Unique, le-unique, signed-unique, each-until, each_same, each-inj, le-full, signed-full}
use Rattle.words.specs.Words.{depth, values_depth}
use Rattle.model.specs.Model.{Nest, Three, Lod, Surface, listed, added, Semantics, Geometry, Rec, rec}
use Rattle.model.specs.Model.{lay_rec, lay_three, lay_decimal, minor_code, lod_code, lay_nest, lay_value, lay_values, lay_surface, surface_recs, semantics_recs, geometry_recs, object_recs, end_recs, model_recs, lay_model}
use Rattle.model.specs.Good.{AllThree, GoodMinor, GoodLod, Leaves, Both, Shaped}
use Rattle.model.specs.Fits.{Word, FitDecimal, FitNest, FitValue, FitSurface, FitSemantics, FitGeometry, FitObject, FitRec, FitModel}

three-unique : {A : Type 0} (Good : A → Type 0) (lay : A → List ℕ) → Unique Good lay → Unique (AllThree Good) (lay_three lay)
unfolding lay_three
three-unique Good lay one a b ga gb x y e =
    let p = one a.x b.x ga.0 gb.0 _ _ (simp append_assoc at e) in
    let q = one a.y b.y ga.1 gb.1 _ _ p.1 in
    let r = one a.z b.z ga.2 gb.2 x y q.1 in
    (λ i. record { x = p.0 i; y = q.0 i; z = r.0 i }, r.1)

decimal-unique : Unique FitDecimal lay_decimal
unfolding lay_decimal
decimal-unique a b ga gb x y e =
    let p = signed-unique 8 a.m b.m ga.0 gb.0 _ _ (simp append_assoc at e) in
    let q = signed-unique 2 a.e b.e ga.1 gb.1 x y p.1 in
    (λ i. record { m = p.0 i; e = q.0 i }, q.1)

minor-inj : (a b : Option ℕ) → GoodMinor a → GoodMinor b → minor_code a ≡ minor_code b → a ≡ b
unfolding minor_code
minor-inj none none ga gb e = refl
minor-inj none (some n) ga gb e = absurd (omega arith)
minor-inj (some m) none ga gb e = absurd (omega arith)
minor-inj (some m) (some n) ga gb e = ap some e

minor-small : (a : Option ℕ) → GoodMinor a → minor_code a < 16
unfolding minor_code
minor-small none g = omega arith
minor-small (some n) g = omega arith

lod-inj : (a b : Lod) → GoodLod a → GoodLod b → lod_code a ≡ lod_code b → a ≡ b
unfolding lod_code
lod-inj a b ga gb e =
    let ha = minor-small a.minor ga.1 in
    let hb = minor-small b.minor gb.1 in
    let p : a.major ≡ b.major = omega arith in
    let q : a.minor ≡ b.minor = minor-inj a.minor b.minor ga.1 gb.1 (omega arith) in
    λ i. record { major = p i; minor = q i }

lod-small : (a : Lod) → GoodLod a → lod_code a < 2 ^ 16
unfolding lod_code
lod-small a g = let h = minor-small a.minor g.1 in omega arith

nest-unique : (d : ℕ) → Unique (FitNest d) (lay_nest d)
unfolding lay_nest
nest-unique zero a b ga gb x y e = le-unique 4 a b ga gb x y e
nest-unique (suc d) a b ga gb x y e =
    let n = le-unique 4 _ _ (omega (arith, ga.0)) (omega (arith, gb.0)) _ _ (simp append_assoc at e) in
    each_same (FitNest d) (lay_nest d) (nest-unique d) a b ga.1 gb.1 (omega (arith, n.0)) x y n.1

value-unique : Unique FitValue lay_value
unfolding lay_value
value-unique none none ga gb x y e = let r = le-unique 4 _ _ (omega arith) (omega arith) x y e in (refl, r.1)
value-unique none (some n) ga gb x y e = let r = le-unique 4 _ n (omega arith) (omega arith) x y e in absurd (omega arith)
value-unique (some n) none ga gb x y e = let r = le-unique 4 n _ (omega arith) (omega arith) x y e in absurd (omega arith)
value-unique (some n) (some k) ga gb x y e = let r = le-unique 4 n k (omega arith) (omega arith) x y e in (ap some r.0, r.1)

-- values over one boundary have one shape, so their order is enough
rows-unique : {A B : Type 0} (R : A → B → Type 0) (Good : B → Type 0) (lay : B → List ℕ)
    → ((a : A) (p q : B) → R a p → R a q → Good p → Good q → (x y : List ℕ) → lay p ++ x ≡ lay q ++ y → (p ≡ q) × (x ≡ y))
    → (l : List A) (p q : List B) → Both R l p → Both R l q → All Good p → All Good q → (x y : List ℕ) → concat_map lay p ++ x ≡ concat_map lay q ++ y
    → (p ≡ q) × (x ≡ y)
unfolding concat_map
rows-unique R Good lay one [] [] [] rp rq gp gq x y e = (refl, e)
rows-unique R Good lay one [] [] (b ∷ q) rp rq gp gq x y e = absurd rq
rows-unique R Good lay one [] (b ∷ p) q rp rq gp gq x y e = absurd rp
rows-unique R Good lay one (a ∷ l) [] q rp rq gp gq x y e = absurd rp
rows-unique R Good lay one (a ∷ l) (b ∷ p) [] rp rq gp gq x y e = absurd rq
rows-unique R Good lay one (a ∷ l) (b ∷ p) (c ∷ q) rp rq gp gq x y e =
    let r = one a b c rp.0 rq.0 gp.0 gq.0 _ _ (simp append_assoc at e) in
    let s = rows-unique R Good lay one l p q rp.1 rq.1 gp.1 gq.1 x y r.1 in
    (λ i. r.0 i ∷ s.0 i, s.1)

values-unique : (d v : ℕ) (b : Nest ℕ d) (p q : Nest (Option ℕ) v) → Shaped d v b p → Shaped d v b q → Leaves FitValue v p → Leaves FitValue v q
    → (x y : List ℕ) → lay_values v p ++ x ≡ lay_values v q ++ y → (p ≡ q) × (x ≡ y)
unfolding lay_values
values-unique d zero b p q sp sq gp gq x y e = value-unique p q gp gq x y e
values-unique zero (suc v) b p q sp sq gp gq x y e = absurd sp
values-unique (suc d) (suc v) b p q sp sq gp gq x y e =
    rows-unique (Shaped d v) (Leaves FitValue v) (lay_values v) (values-unique d v) b p q sp sq gp gq x y e

surface-inj : (a b : Surface) → FitSurface a → FitSurface b → lay_surface a ≡ lay_surface b → a ≡ b
unfolding lay_surface
surface-inj (listed c) (listed d) ga gb e = let r = le-unique 2 c d (omega arith) (omega arith) [] [] (ap (λ l. l ++ []) e) in ap listed r.0
surface-inj (listed c) (added n) ga gb e = let r = le-unique 2 c 19 (omega arith) (omega arith) [] _ (append-nil (le 2 c) ∙ e) in absurd (omega arith)
surface-inj (added n) (listed c) ga gb e = let r = le-unique 2 19 c (omega arith) (omega arith) _ [] (e ∙ sym (append-nil (le 2 c))) in absurd (omega arith)
surface-inj (added n) (added m) ga gb e = let r = le-unique 2 19 19 (omega arith) (omega arith) _ _ e in ap added r.1

-- what comes next is a record of one of these kinds
one_of : List ℕ → ℕ → Bool
one_of [] k = false
one_of (c ∷ l) k = cond (eqb c k) true (one_of l k)

abbrev Next : List ℕ → List Rec → Type 0
Next l [] = ⊥
Next l (rec k p ∷ x) = T (one_of l k)

cond-right : (a b : Bool) → T b → T (cond a true b)
cond-right true b t = tt
cond-right false b t = t

next-right : (c : ℕ) (l : List ℕ) (x : List Rec) → Next l x → Next (c ∷ l) x
unfolding one_of
next-right c l [] n = absurd n
next-right c l (rec k p ∷ x) n = cond-right (eqb c k) (one_of l k) n

surface-unique : Unique FitSurface surface_recs
unfolding surface_recs
surface-unique a b ga gb x y e =
    let p : lay_surface a ≡ lay_surface b = cc in
    (surface-inj a b ga gb p, cc)

surfaces-until : Until (Next (8 ∷ [])) (All FitSurface) (concat_map surface_recs)
unfolding surface_recs one_of
surfaces-until =
    each-until (Next (8 ∷ [])) (λ x. Unit {0}) FitSurface surface_recs (λ a b ga gb x y sx sy e. surface-unique a b ga gb x y e)
    (λ x n. tt) (λ a x g. tt) (λ a x g n. n)

-- semantics do not begin as what follows a geometry
no_end : (l : List Surface) (p : List ℕ) (z : List Rec) → Next (6 ∷ 3 ∷ 9 ∷ []) (concat_map surface_recs l ++ rec 8 p ∷ [] ++ z) → ⊥
unfolding concat_map surface_recs one_of
no_end [] p z n = n
no_end (s ∷ l) p z n = n

semantics-until : (c : ℕ) (b : Nest ℕ (depth c)) → Until (Next (6 ∷ 3 ∷ 9 ∷ [])) (FitSemantics c b) (semantics_recs c)
unfolding semantics_recs one_of
semantics-until c b none none ga gb x y sx sy e = (refl, e)
semantics-until c b none (some s) ga gb x y sx sy e = absurd (no_end s.surfaces _ y (subst (Next (6 ∷ 3 ∷ 9 ∷ [])) e sx))
semantics-until c b (some s) none ga gb x y sx sy e = absurd (no_end s.surfaces _ x (subst (Next (6 ∷ 3 ∷ 9 ∷ [])) (sym e) sy))
semantics-until c b (some s) (some r) ga gb x y sx sy e =
    let p = surfaces-until s.surfaces r.surfaces ga.0 gb.0 _ _ tt tt (simp append_assoc at e) in
    let v : lay_values (values_depth c) s.values ≡ lay_values (values_depth c) r.values = cc in
    let q = values-unique (depth c) (values_depth c) b s.values r.values ga.1 gb.1 ga.2 gb.2 [] [] (ap (λ l. l ++ []) v) in
    (λ i. some (record { surfaces = p.0 i; values = q.0 i }), cc)

-- geometries of one type
same_code : (c : ℕ) (l m : Lod) (a b : Nest ℕ (depth c)) (s r : Option (Semantics c))
    → l ≡ m → FitNest (depth c) a → FitNest (depth c) b → FitSemantics c a s → FitSemantics c b r
    → lay_nest (depth c) a ≡ lay_nest (depth c) b
    → (x y : List Rec) → Next (6 ∷ 3 ∷ 9 ∷ []) x → Next (6 ∷ 3 ∷ 9 ∷ []) y → semantics_recs c s ++ x ≡ semantics_recs c r ++ y
    → (◌≡◌ {A = Geometry} (record { code = c; lod = l; boundary = a; semantics = s }) (record { code = c; lod = m; boundary = b; semantics = r })) × (x ≡ y)
same_code c l m a b s r el fa fb fs fr en x y sx sy e =
    let p = nest-unique (depth c) a b fa fb [] [] (ap (λ k. k ++ []) en) in
    let q = semantics-until c b s r (subst (λ k. FitSemantics c k s) p.0 fs) fr x y sx sy e in
    (λ i. record { code = c; lod = el i; boundary = p.0 i; semantics = q.0 i }, q.1)

geometry-until : Until (Next (6 ∷ 3 ∷ 9 ∷ [])) FitGeometry geometry_recs
unfolding geometry_recs
geometry-until a b ga gb x y sx sy e =
    let head : le 2 a.code ++ le 2 (lod_code a.lod) ++ lay_nest (depth a.code) a.boundary
    ≡ le 2 b.code ++ le 2 (lod_code b.lod) ++ lay_nest (depth b.code) b.boundary = cc in
    let rest : semantics_recs a.code a.semantics ++ x ≡ semantics_recs b.code b.semantics ++ y = cc in
    let c = le-unique 2 a.code b.code ga.code gb.code _ _ (simp append_assoc at head) in
    let l = le-unique 2 (lod_code a.lod) (lod_code b.lod) (lod-small a.lod ga.lod) (lod-small b.lod gb.lod) _ _ c.1 in
    path_j (λ k p. (n : Nest ℕ (depth k)) (s : Option (Semantics k)) → FitNest (depth k) n → FitSemantics k n s
    → lay_nest (depth a.code) a.boundary ≡ lay_nest (depth k) n → semantics_recs a.code a.semantics ++ x ≡ semantics_recs k s ++ y
    → (a ≡ record { code = k; lod = b.lod; boundary = n; semantics = s }) × (x ≡ y))
    (λ n s fn fs en es. same_code a.code a.lod b.lod a.boundary n a.semantics s (lod-inj a.lod b.lod ga.lod gb.lod l.0)
    ga.boundary fn ga.semantics fs en x y sx sy es)
    c.0 b.boundary b.semantics gb.boundary gb.semantics l.1 rest

words-inj : (l m : List ℕ) → All Word l → All Word m → concat_map (le 4) l ≡ concat_map (le 4) m → l ≡ m
words-inj = each-inj Word (le 4) (le-unique 4) (le-full 3)

geometries-until : Until (Next (3 ∷ 9 ∷ [])) (All FitGeometry) (concat_map geometry_recs)
unfolding geometry_recs one_of
geometries-until =
    each-until (Next (3 ∷ 9 ∷ [])) (Next (6 ∷ 3 ∷ 9 ∷ [])) FitGeometry geometry_recs geometry-until
    (next-right 6 (3 ∷ 9 ∷ [])) (λ a x g. tt) (λ a x g n. n)

object-until : Until (Next (3 ∷ 9 ∷ [])) FitObject object_recs
unfolding object_recs
object-until a b ga gb x y sx sy e =
    let name : le 2 a.code ++ a.id ≡ le 2 b.code ++ b.id = cc in
    let kids : concat_map (le 4) a.children ≡ concat_map (le 4) b.children = cc in
    let folk : concat_map (le 4) a.parents ≡ concat_map (le 4) b.parents = cc in
    let rest : concat_map geometry_recs a.geometries ++ x ≡ concat_map geometry_recs b.geometries ++ y = cc in
    let c = le-unique 2 a.code b.code ga.code gb.code a.id b.id name in
    let ch = words-inj a.children b.children ga.children gb.children kids in
    let pa = words-inj a.parents b.parents ga.parents gb.parents folk in
    let g = geometries-until a.geometries b.geometries ga.geometries gb.geometries x y sx sy rest in
    (λ i. record { id = c.1 i; code = c.0 i; children = ch i; parents = pa i; geometries = g.0 i }, g.1)

objects-until : Until (Next (9 ∷ [])) (All FitObject) (concat_map object_recs)
unfolding object_recs one_of
objects-until =
    each-until (Next (9 ∷ [])) (Next (3 ∷ 9 ∷ [])) FitObject object_recs object-until
    (next-right 3 (9 ∷ [])) (λ a x g. tt) (λ a x g n. n)

vertices-inj : (l m : List (Three ℤ)) → All (AllThree (Holds 4)) l → All (AllThree (Holds 4)) m
    → concat_map (lay_three (signed 4)) l ≡ concat_map (lay_three (signed 4)) m → l ≡ m
unfolding lay_three
vertices-inj =
    each-inj (AllThree (Holds 4)) (lay_three (signed 4)) (three-unique (Holds 4) (signed 4) (signed-unique 4))
    (λ a x e. signed-full 3 a.x _ (simp append_assoc at e))

model-unique : Unique FitModel model_recs
unfolding model_recs one_of
model-unique a b ga gb x y e =
    let six : lay_three lay_decimal a.scale ++ lay_three lay_decimal a.translate ≡ lay_three lay_decimal b.scale ++ lay_three lay_decimal b.translate =
    cc in
    let points : concat_map (lay_three (signed 4)) a.vertices ≡ concat_map (lay_three (signed 4)) b.vertices = cc in
    let rest : (concat_map object_recs a.objects ++ end_recs) ++ x ≡ (concat_map object_recs b.objects ++ end_recs) ++ y = cc in
    let three = three-unique FitDecimal lay_decimal decimal-unique in
    let s = three a.scale b.scale ga.scale gb.scale _ _ six in
    let t = three a.translate b.translate ga.translate gb.translate [] [] (ap (λ k. k ++ []) s.1) in
    let v = vertices-inj a.vertices b.vertices ga.vertices gb.vertices points in
    let o = objects-until a.objects b.objects ga.objects gb.objects (end_recs ++ x) (end_recs ++ y) tt tt (simp append_assoc at rest) in
    (λ i. record { scale = s.0 i; translate = t.0 i; vertices = v i; objects = o.0 i }, cc)

split-same : (p q : List ℕ) → length p ≡ length q → (x y : List ℕ) → p ++ x ≡ q ++ y → (p ≡ q) × (x ≡ y)
split-same [] [] n x y e = (refl, e)
split-same [] (b ∷ q) n x y e = absurd (omega arith)
split-same (a ∷ p) [] n x y e = absurd (omega arith)
split-same (a ∷ p) (b ∷ q) n x y e = let r = split-same p q (omega arith) x y (cc) in (cc, r.1)

rec-unique : Unique FitRec lay_rec
unfolding lay_rec
rec-unique (rec k p) (rec j q) ga gb x y e =
    let n = le-unique 4 (length p) (length q) ga.1 gb.1 _ _ (simp append_assoc at e) in
    let m = le-unique 2 k j ga.0 gb.0 _ _ n.1 in
    let r = split-same p q n.0 x y m.1 in
    (λ i. rec (m.0 i) (r.0 i), r.1)

-- of two runs of records that agree as bytes, one is the beginning of the other
runs : (l m : List Rec) → All FitRec l → All FitRec m → (x y : List ℕ) → concat_map lay_rec l ++ x ≡ concat_map lay_rec m ++ y
    → ((z : List Rec) × (l ≡ m ++ z) × (y ≡ concat_map lay_rec z ++ x)) ⊎ ((z : List Rec) × (m ≡ l ++ z) × (x ≡ concat_map lay_rec z ++ y))
unfolding concat_map
runs [] m gl gm x y e = inr (m, refl, e)
runs (a ∷ l) [] gl gm x y e = inl (a ∷ l, refl, sym e)
runs (a ∷ l) (b ∷ m) gl gm x y e =
    let r = rec-unique a b gl.0 gm.0 _ _ (simp append_assoc at e) in
    let back = sym r.0 in
    elim (runs l m gl.1 gm.1 x y r.1) [
      | inl t ↦ inl (t.0, (λ i. r.0 i ∷ t.1 i), t.2)
      | inr t ↦ inr (t.0, (λ i. back i ∷ t.1 i), t.2)
    ]

-- THE LAW: a sheet is read in one way, whatever follows it
pub sheet-unique : Unique FitModel lay_model
unfolding lay_model concat_map
sheet-unique a b ga gb x y e =
    elim (runs (model_recs a) (model_recs b) ga.payloads gb.payloads x y e) [
      | inl t ↦
          let r = model-unique a b ga gb [] t.0 (append-nil (model_recs a) ∙ t.1) in (r.0, sym (t.2 ∙ ap (λ z. concat_map lay_rec z ++ x) (sym r.1)))
      | inr t ↦
          let r = model-unique b a gb ga [] t.0 (append-nil (model_recs b) ∙ t.1) in (sym r.0, t.2 ∙ ap (λ z. concat_map lay_rec z ++ y) (sym r.1))
    ]
