-- Encoders whose values can be read back, as a small kit: numbers in bytes, lists.
use Rattle.std.specs.Prelude.{◌≡◌, refl, ℕ, zero, suc, ◌-◌, ◌/◌, ◌%◌, ◌^◌, ◌<◌, length, ℤ, pos, negsuc}
use Rattle.std.proofs.Common.{sym, ap, subst, arith}
use mathlib.Core.List.{List, [], ◌∷◌, ◌++◌, append_assoc}
use Rattle.utf8.specs.Bytes.{le}
use Rattle.utf8.specs.Laws.{clash}
use Rattle.model.specs.Code.{signed, concat_map, All, Holds}

-- good values of A can be read back, whatever follows them, if what follows is as S says
abbrev pub Until : {A T : Type 0} → (List T → Type 0) → (A → Type 0) → (A → List T) → Type 0
Until {A} {T} S Good enc = (a b : A) → Good a → Good b → (x y : List T) → S x → S y → enc a ++ x ≡ enc b ++ y → (a ≡ b) × (x ≡ y)

abbrev pub Unique : {A T : Type 0} → (A → Type 0) → (A → List T) → Type 0
Unique {A} {T} Good enc = (a b : A) → Good a → Good b → (x y : List T) → enc a ++ x ≡ enc b ++ y → (a ≡ b) × (x ≡ y)

pub le-unique : (w : ℕ) → Unique (λ n. n < 256 ^ w) (le w)
unfolding le
le-unique zero n m hn hm x y e = (omega arith, e)
le-unique (suc w) n m hn hm x y e =
    let low : n % 256 ≡ m % 256 = cc in
    let rest : le w (n / 256) ++ x ≡ le w (m / 256) ++ y = cc in
    let hi : (n / 256 ≡ m / 256) × (x ≡ y) = le-unique w (n / 256) (m / 256) (omega arith) (omega arith) x y rest in
    (omega arith, hi.1)

pub signed-unique : (w : ℕ) → Unique (Holds w) (signed w)
unfolding signed
signed-unique w (pos n) (pos m) hn hm x y e =
    let r = le-unique w n m (omega arith) (omega arith) x y e in
    (ap pos r.0, r.1)
signed-unique w (pos n) (negsuc m) hn hm x y e =
    let r = le-unique w n (256 ^ w - suc m) (omega arith) (omega arith) x y e in
    let no : ◌≡◌ {A = ℕ} 0 1 = omega (arith, r.0) in
    (cc, r.1)
signed-unique w (negsuc n) (pos m) hn hm x y e =
    let r = le-unique w (256 ^ w - suc n) m (omega arith) (omega arith) x y e in
    let no : ◌≡◌ {A = ℕ} 0 1 = omega (arith, r.0) in
    (cc, r.1)
signed-unique w (negsuc n) (negsuc m) hn hm x y e =
    let r = le-unique w (256 ^ w - suc n) (256 ^ w - suc m) (omega arith) (omega arith) x y e in
    let same : n ≡ m = omega (arith, r.0) in
    (ap negsuc same, r.1)

-- a list of values, up to something that begins no value
module _ {A T : Type 0} (S S' : List T → Type 0) (Good : A → Type 0) (enc : A → List T)
    (one : Until S' Good enc)
    (end : (x : List T) → S x → S' x)
    (more : (a : A) (x : List T) → Good a → S' (enc a ++ x))
    (clear : (a : A) (x : List T) → Good a → S (enc a ++ x) → ⊥) where
  after : (l : List A) (x : List T) → All Good l → S x → S' (concat_map enc l ++ x)
  unfolding concat_map
  after [] x g s = end x s
  after (a ∷ l) x g s = rw append_assoc (more a (concat_map enc l ++ x) g.0)

  pub each-until : Until S (All Good) (concat_map enc)
  unfolding concat_map
  each-until [] [] ga gb x y sx sy e = (refl, e)
  each-until [] (b ∷ bs) ga gb x y sx sy e = absurd (clear b (concat_map enc bs ++ y) gb.0 (rw append_assoc at (subst S e sx)))
  each-until (a ∷ l) [] ga gb x y sx sy e = absurd (clear a (concat_map enc l ++ x) ga.0 (rw append_assoc at (subst S (sym e) sy)))
  each-until (a ∷ l) (b ∷ bs) ga gb x y sx sy e =
      let r = one a b ga.0 gb.0 (concat_map enc l ++ x) (concat_map enc bs ++ y) (after l x ga.1 sx) (after bs y gb.1 sy) (simp append_assoc at e) in
      let s = each-until l bs ga.1 gb.1 x y sx sy r.1 in
      (λ i. r.0 i ∷ s.0 i, s.1)

-- a list after its count
pub each_same : {A T : Type 0} (Good : A → Type 0) (enc : A → List T) → Unique Good enc
    → (l m : List A) → All Good l → All Good m → length l ≡ length m → (x y : List T) → concat_map enc l ++ x ≡ concat_map enc m ++ y → (l ≡ m) × (x ≡ y)
unfolding concat_map
each_same Good enc one [] [] gl gm n x y e = (refl, e)
each_same Good enc one [] (b ∷ m) gl gm n x y e = absurd (omega (arith, n))
each_same Good enc one (a ∷ l) [] gl gm n x y e = absurd (omega (arith, n))
each_same Good enc one (a ∷ l) (b ∷ m) gl gm n x y e =
    let r = one a b gl.0 gm.0 (concat_map enc l ++ x) (concat_map enc m ++ y) (simp append_assoc at e) in
    let s = each_same Good enc one l m gl.1 gm.1 (omega arith) x y r.1 in
    (λ i. r.0 i ∷ s.0 i, s.1)

-- a list to the end of the bytes
pub each-inj : {A T : Type 0} (Good : A → Type 0) (enc : A → List T) → Unique Good enc → ((a : A) (x : List T) → enc a ++ x ≡ [] → ⊥)
    → (l m : List A) → All Good l → All Good m → concat_map enc l ≡ concat_map enc m → l ≡ m
each-inj Good enc one full l m gl gm e =
    (each-until (λ x. x ≡ []) (λ x. Unit {0}) Good enc (λ a b ga gb x y sx sy k. one a b ga gb x y k)
    (λ x k. tt) (λ a x g. tt) (λ a x g k. full a x k) l m gl gm [] [] refl refl (ap (λ k. k ++ []) e)).0

pub le-full : (w n : ℕ) (x : List ℕ) → le (suc w) n ++ x ≡ [] → ⊥
unfolding le
le-full w n x e = clash cc

pub signed-full : (w : ℕ) (z : ℤ) (x : List ℕ) → signed (suc w) z ++ x ≡ [] → ⊥
unfolding signed
signed-full w (pos n) x e = le-full w n x e
signed-full w (negsuc n) x e = le-full w _ x e
