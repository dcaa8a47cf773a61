-- The numbers of known IDs tell the IDs.
use Rattle.std.specs.Prelude.{◌≡◌, refl, Bool, true, false, cond, ◌&&◌, List, [], ◌∷◌, map, ℕ, suc, ◌<◌, length, T, eqb}
use Rattle.std.proofs.Common.{sym, ap, ◌∙◌, arith, eqb→eq}
use Rattle.model.specs.Code.{All}
use Rattle.model.specs.Good.{Known, GoodObject, GoodModel}
use Rattle.utf8.specs.Utf8.{same}
use Rattle.model.specs.Model.{Object, Model, object_number, ids_of, number_object, number_model}

same_step : (a b : ℕ) (l m : List ℕ) (c : Bool) (s : Bool) → (T c → a ≡ b) → (T s → l ≡ m) → T (c && s) → ◌≡◌ {A = List ℕ} (a ∷ l) (b ∷ m)
same_step a b l m true s f g t = let p = f tt in let q = g t in cc
same_step a b l m false s f g t = absurd t

same-eq : (l m : List ℕ) → T (same l m) → l ≡ m
unfolding same
same-eq [] [] t = refl
same-eq [] (b ∷ m) t = absurd t
same-eq (a ∷ l) [] t = absurd t
same-eq (a ∷ l) (b ∷ m) t = same_step a b l m (eqb a b) (same l m) (eqb→eq a b) (same-eq l m) t

number_step : (i x y : List ℕ) (n j k : ℕ) (c d : Bool) → (T c → i ≡ x) → (T d → i ≡ y) → (j < n → k < n → j ≡ k → x ≡ y)
    → cond c 0 (suc j) < suc n → cond d 0 (suc k) < suc n → cond c 0 (suc j) ≡ cond d 0 (suc k) → x ≡ y
number_step i x y n j k true true f g ih hx hy e = let p = f tt in let q = g tt in cc
number_step i x y n j k true false f g ih hx hy e = absurd (omega arith)
number_step i x y n j k false true f g ih hx hy e = absurd (omega arith)
number_step i x y n j k false false f g ih hx hy e = ih (omega arith) (omega arith) (omega arith)

number-inj : (ids : List (List ℕ)) (x y : List ℕ) → Known ids x → Known ids y → object_number ids x ≡ object_number ids y → x ≡ y
unfolding object_number
number-inj [] x y kx ky e = absurd (omega arith)
number-inj (i ∷ ids) x y kx ky e =
    number_step i x y (length ids) (object_number ids x) (object_number ids y) (same i x) (same i y) (same-eq i x) (same-eq i y) (number-inj ids x y) kx ky e

map_inj : {A B : Type 0} (Good : A → Type 0) (f : A → B) → ((a b : A) → Good a → Good b → f a ≡ f b → a ≡ b)
    → (l m : List A) → All Good l → All Good m → map f l ≡ map f m → l ≡ m
map_inj Good f one [] [] gl gm e = refl
map_inj Good f one [] (b ∷ m) gl gm e = cc
map_inj Good f one (a ∷ l) [] gl gm e = cc
map_inj Good f one (a ∷ l) (b ∷ m) gl gm e =
    let p = one a b gl.0 gm.0 (cc) in
    let q = map_inj Good f one l m gl.1 gm.1 (cc) in
    cc

object-inj : (v : ℕ) (ids : List (List ℕ)) (a b : Object (List ℕ)) → GoodObject v ids a → GoodObject v ids b → number_object ids a ≡ number_object ids b → a ≡ b
unfolding number_object
object-inj v ids a b ga gb e =
    let links = map_inj (Known ids) (object_number ids) (number-inj ids) in
    let kids = links a.children b.children ga.children gb.children (ap (λ o. o.children) e) in
    let folk = links a.parents b.parents ga.parents gb.parents (ap (λ o. o.parents) e) in
    λ i. record { id = (e i).id; code = (e i).code; children = kids i; parents = folk i; geometries = (e i).geometries }

ids-kept : (ids : List (List ℕ)) (l : List (Object (List ℕ))) → ids_of (map (number_object ids) l) ≡ ids_of l
unfolding ids_of number_object
ids-kept ids [] = refl
ids-kept ids (o ∷ l) = ap (λ r. o.id ∷ r) (ids-kept ids l)

pub number-model-inj : (t u : Model) → GoodModel t → GoodModel u → number_model t ≡ number_model u → t ≡ u
unfolding number_model
number-model-inj t u gt gu e =
    let v : t.vertices ≡ u.vertices = ap (λ k. k.vertices) e in
    let d : ids_of t.objects ≡ ids_of u.objects = sym (ids-kept _ t.objects) ∙ ap (λ k. ids_of k.objects) e ∙ ids-kept _ u.objects in
    let good : All (GoodObject (length t.vertices) (ids_of t.objects)) u.objects = rw (v, d) gu.objects in
    let same : map (number_object (ids_of t.objects)) t.objects ≡ map (number_object (ids_of t.objects)) u.objects =
    ap (λ k. k.objects) e ∙ ap (λ k. map (number_object k) u.objects) (sym d) in
    let o =
    map_inj _ (number_object (ids_of t.objects)) (object-inj (length t.vertices) (ids_of t.objects))
    t.objects u.objects gt.objects good same in
    λ i. record { scale = (e i).scale; translate = (e i).translate; vertices = v i; objects = o i }
