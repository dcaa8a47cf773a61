-- What a byte does depends on the text only up to that byte, and on the number of levels only where it opens one.
use Rattle.std.specs.Prelude.{ℕ, zero, suc, ◌+◌, ◌-◌, ◌≤◌, ◌<◌, ◌≡◌, Bool, true, false, cond, ◌||◌, length, take, ltb}
use Rattle.std.proofs.Common.{arith, ltb-true, ltb-false}
use Rattle.std.proofs.Math.Path.{refl}
use mathlib.Core.List.{List, [], ◌∷◌}
use Rattle.std.proofs.Math.Seq.{slice}
use Rattle.std.proofs.Math.Dec.{eqb}
use Rattle.utf8.specs.Ascii.{ascii, is_digit}
use Rattle.json_text.specs.Tree.{Json, num, no_items}
use Rattle.json_text.specs.Machine.{Frame, array, object, Role, value, Mode, Step, go, dead, deep, step, want_step, got_step, next_step, name_step, mant_step, nought_step, is_blank, is_hex, is_escape, closed, hexed, opened}
use Rattle.json_text.specs.Machine.Role.{name}
use Rattle.json_text.specs.Machine.Mode.{want, first, name0, name1, colon, got, chars, esc, hex, neg, nought, int, dot, frac, mant, exp, sign, exps, lit}
use Rattle.grammar.specs.Endings.{Spelt}

-- what a byte does with at most l levels and with at most l'
pub data Like (l l' : ℕ) : Step → Step → Type 0 where
  same : {s : Step} → Like l l' s s
  left : {m : Mode} {ks : List Frame} → l < l' → Like l l' deep (go m ks)
  right : {m : Mode} {ks : List Frame} → l' < l → Like l l' (go m ks) deep

module _ {l l' : ℕ} where
  -- equal steps are alike
  like-eq : {s s' : Step} → s ≡ s' → Like l l' s s'
  like-eq e = rw e same

  -- and so are those by cases of one test
  like-cond : (c : Bool) {a a' b b' : Step} → Like l l' a a' → Like l l' b b' → Like l l' (cond c a b) (cond c a' b')
  like-cond true p q = p
  like-cond false p q = q

  -- a container is opened
  like-opened : (x y : List ℕ) (m : Mode) (ks : List Frame) → Like l l' (opened l x m ks) (opened l' y m ks)
  like-opened x y m ks = by (ltb (length ks) l) (ltb (length ks) l') refl refl
    where
      by : (c c' : Bool) → ltb (length ks) l ≡ c → ltb (length ks) l' ≡ c' → Like l l' (cond c (go m ks) deep) (cond c' (go m ks) deep)
      by true true e e' = same
      by true false e e' = right (omega (arith, ltb-true (length ks) l e, ltb-false (length ks) l' e'))
      by false true e e' = left (omega (arith, ltb-false (length ks) l e, ltb-true (length ks) l' e'))
      by false false e e' = same

  -- a value begins
  like-want : (x y : List ℕ) (ks : List Frame) (n b : ℕ) → Like l l' (want_step l x ks n b) (want_step l' y ks n b)
  unfolding want_step
  like-want x y ks n b = like-cond (eqb b 91) (like-opened x y (first n) ks) (like-cond (eqb b 123) (like-opened x y (name0 n) ks) same)

-- two texts and two numbers of levels; the texts agree up to n
module _ (l l' : ℕ) (x y : List ℕ) (n b : ℕ) where
  -- after a value in what is open
  next-same : (v : Json) (ks : List Frame) → next_step l x v ks n b ≡ next_step l' y v ks n b
  unfolding next_step
  next-same v [] = refl
  next-same v (array p vs ∷ ks) = refl
  next-same v (object p ms k ∷ ks) = refl

  -- after a value
  got_same : (v : Json) (ks : List Frame) → got_step l x v ks n b ≡ got_step l' y v ks n b
  unfolding got_step
  got_same v ks = rw (next-same v ks)

  -- after a hexadecimal digit
  hexed-same : (k : Role) (p j : ℕ) → hexed l x k p j ≡ hexed l' y k p j
  hexed-same k p zero = refl
  hexed-same k p (suc j) = refl

  module _ (e : take n x ≡ take n y) where
    -- after a string
    closed_same : (k : Role) (p : ℕ) → closed l x k p (n + 1) ≡ closed l' y k p (n + 1)
    closed_same value p = let z : n + 1 - 1 ≡ n = omega arith in rw (z, e)
    closed_same (name o ms) p = let z : n + 1 - 1 ≡ n = omega arith in rw (z, e)

    -- after a numeral
    numeral-same : (p : ℕ) (ks : List Frame) → got_step l x (num p n (slice p n x)) ks n b ≡ got_step l' y (num p n (slice p n y)) ks n b
    numeral-same p ks = rw e (got_same _ ks)

    -- after a fraction
    mant-same : (p : ℕ) (ks : List Frame) → mant_step l x p ks n b ≡ mant_step l' y p ks n b
    unfolding mant_step
    mant-same p ks = rw (numeral-same p ks)

    -- after a whole part
    nought-same : (p : ℕ) (ks : List Frame) → nought_step l x p ks n b ≡ nought_step l' y p ks n b
    unfolding nought_step
    nought-same p ks = rw (mant-same p ks)

    -- any byte in any mode
    pub alike : (m : Mode) (ks : List Frame) → Like l l' (step l x m ks n b) (step l' y m ks n b)
    unfolding step name_step
    alike want ks = like-cond (is_blank b) same (like-want x y ks n b)
    alike (first p) ks = like-cond (is_blank b) same (like-cond (eqb b 93) same (like-want x y (array p no_items ∷ ks) n b))
    alike (name0 p) ks = same
    alike (name1 p ms) ks = same
    alike (colon p ms k) ks = same
    alike (got v) ks = like-eq (got_same v ks)
    alike (chars k p) ks = like-eq (rw (closed_same k p))
    alike (esc k p) ks = same
    alike (hex k p j) ks = like-eq (rw (hexed-same k p j))
    alike (neg p) ks = same
    alike (nought p) ks = like-eq (nought-same p ks)
    alike (int p) ks = like-eq (rw (nought-same p ks))
    alike (dot p) ks = same
    alike (frac p) ks = like-eq (rw (mant-same p ks))
    alike (mant p) ks = like-eq (mant-same p ks)
    alike (exp p) ks = same
    alike (sign p) ks = same
    alike (exps p) ks = like-eq (rw (numeral-same p ks))
    alike (lit p o []) ks = same
    alike (lit p o (w ∷ [])) ks = same
    alike (lit p o (w ∷ w' ∷ ws)) ks = same

-- the levels that a mode has opened besides those of the containers in which a value is being read
abbrev opens : Role → ℕ
opens value = 0
opens (name p ms) = 1

-- for each mode
abbrev pub opening : Mode → ℕ
opening want = 0
opening (first p) = 1
opening (name0 p) = 1
opening (name1 p ms) = 1
opening (colon p ms k) = 1
opening (got v) = 0
opening (chars k p) = opens k
opening (esc k p) = opens k
opening (hex k p j) = opens k
opening (neg p) = 0
opening (nought p) = 0
opening (int p) = 0
opening (dot p) = 0
opening (frac p) = 0
opening (mant p) = 0
opening (exp p) = 0
opening (sign p) = 0
opening (exps p) = 0
opening (lit p o ws) = 0

-- at most l levels are open, and a word that is still to come has a byte
pub record Allowed (l : ℕ) (m : Mode) (ks : List Frame) : Type 0 where
  pub levels : opening m + length ks ≤ l
  pub spelt : Spelt m

-- what a byte does in a mode in which at most l levels are open, with at most l' in all
pub data Fits (l l' : ℕ) : Step → Type 0 where
  on_go : {m : Mode} {ks : List Frame} → Allowed l' m ks → Fits l l' (go m ks)
  on-dead : Fits l l' dead
  on-deep : l' ≤ l → Fits l l' deep

module _ {l l' : ℕ} where
  -- a mode that is allowed
  allowed : {m : Mode} {ks : List Frame} → opening m + length ks ≤ l' → Spelt m → Fits l l' (go m ks)
  allowed h s = on_go (record { levels = h; spelt = s })

  -- by cases of a test
  fits-cond : (c : Bool) {a b : Step} → Fits l l' a → Fits l l' b → Fits l l' (cond c a b)
  fits-cond true p q = p
  fits-cond false p q = q

  -- a container is opened
  fits-opened : (x : List ℕ) (m : Mode) (ks : List Frame) → opening m ≡ 1 → Spelt m → length ks ≤ l → Fits l l' (opened l' x m ks)
  fits-opened x m ks e s h = by (ltb (length ks) l') refl
    where
      by : (c : Bool) → ltb (length ks) l' ≡ c → Fits l l' (cond c (go m ks) deep)
      by true q = allowed (omega (arith, ltb-true (length ks) l' q)) s
      by false q = on-deep (omega (arith, ltb-false (length ks) l' q))

module _ (l l' : ℕ) (u : l ≤ l') (x : List ℕ) where
  -- a value begins
  fits-want : (ks : List Frame) (n b : ℕ) → length ks ≤ l → Fits l l' (want_step l' x ks n b)
  unfolding want_step ascii
  fits-want ks n b h =
      fits-cond (eqb b 91) (fits-opened x (first n) ks refl tt h)
      (fits-cond (eqb b 123) (fits-opened x (name0 n) ks refl tt h)
      (fits-cond (eqb b 34) (allowed (omega arith) tt)
      (fits-cond (eqb b 45) (allowed (omega arith) tt)
      (fits-cond (eqb b 48) (allowed (omega arith) tt)
      (fits-cond (is_digit b) (allowed (omega arith) tt)
      (fits-cond (eqb b 116) (allowed (omega arith) tt)
      (fits-cond (eqb b 102) (allowed (omega arith) tt)
      (fits-cond (eqb b 110) (allowed (omega arith) tt) on-dead))))))))

  -- after a value in what is open
  fits_next : (v : Json) (ks : List Frame) (n b : ℕ) → length ks ≤ l → Fits l l' (next_step l' x v ks n b)
  unfolding next_step
  fits_next v [] n b h = on-dead
  fits_next v (array p vs ∷ ks) n b h = fits-cond (eqb b 44) (allowed (omega arith) tt) (fits-cond (eqb b 93) (allowed (omega arith) tt) on-dead)
  fits_next v (object p ms k ∷ ks) n b h = fits-cond (eqb b 44) (allowed (omega arith) tt) (fits-cond (eqb b 125) (allowed (omega arith) tt) on-dead)

  -- after a value
  fits-got : (v : Json) (ks : List Frame) (n b : ℕ) → length ks ≤ l → Fits l l' (got_step l' x v ks n b)
  unfolding got_step
  fits-got v ks n b h = fits-cond (is_blank b) (allowed (omega arith) tt) (fits_next v ks n b h)

  -- after a fraction
  fits-mant : (p : ℕ) (ks : List Frame) (n b : ℕ) → length ks ≤ l → Fits l l' (mant_step l' x p ks n b)
  unfolding mant_step
  fits-mant p ks n b h = fits-cond (eqb b 101 || eqb b 69) (allowed (omega arith) tt) (fits-got _ ks n b h)

  -- after a whole part
  fits-nought : (p : ℕ) (ks : List Frame) (n b : ℕ) → length ks ≤ l → Fits l l' (nought_step l' x p ks n b)
  unfolding nought_step
  fits-nought p ks n b h = fits-cond (eqb b 46) (allowed (omega arith) tt) (fits-mant p ks n b h)

  -- after a string
  fits-closed : (k : Role) (p e : ℕ) (ks : List Frame) → opens k + length ks ≤ l → Fits l l' (go (closed l' x k p e) ks)
  fits-closed value p e ks h = allowed (omega arith) tt
  fits-closed (name o ms) p e ks h = allowed (omega arith) tt

  -- after a hexadecimal digit
  fits-hexed : (k : Role) (p j : ℕ) (ks : List Frame) → opens k + length ks ≤ l → Fits l l' (go (hexed l' x k p j) ks)
  fits-hexed k p zero ks h = allowed (omega arith) tt
  fits-hexed k p (suc j) ks h = allowed (omega arith) tt

  -- any byte in any mode
  pub fits : (m : Mode) (ks : List Frame) (n b : ℕ) → opening m + length ks ≤ l → Fits l l' (step l' x m ks n b)
  unfolding step name_step
  fits want ks n b h = fits-cond (is_blank b) (allowed (omega arith) tt) (fits-want ks n b (omega arith))
  fits (first p) ks n b h =
      fits-cond (is_blank b) (allowed (omega arith) tt) (fits-cond (eqb b 93) (allowed (omega arith) tt) (fits-want (array p no_items ∷ ks) n b (omega arith)))
  fits (name0 p) ks n b h =
      fits-cond (is_blank b) (allowed (omega arith) tt)
      (fits-cond (eqb b 125) (allowed (omega arith) tt) (fits-cond (eqb b 34) (allowed (omega arith) tt) on-dead))
  fits (name1 p ms) ks n b h = fits-cond (is_blank b) (allowed (omega arith) tt) (fits-cond (eqb b 34) (allowed (omega arith) tt) on-dead)
  fits (colon p ms k) ks n b h = fits-cond (is_blank b) (allowed (omega arith) tt) (fits-cond (eqb b 58) (allowed (omega arith) tt) on-dead)
  fits (got v) ks n b h = fits-got v ks n b (omega arith)
  fits (chars k p) ks n b h =
      fits-cond (eqb b 34) (fits-closed k p (n + 1) ks h)
      (fits-cond (eqb b 92) (allowed (omega arith) tt) (fits-cond (ltb b 32) on-dead (allowed (omega arith) tt)))
  fits (esc k p) ks n b h = fits-cond (is_escape b) (allowed (omega arith) tt) (fits-cond (eqb b 117) (allowed (omega arith) tt) on-dead)
  fits (hex k p j) ks n b h = fits-cond (is_hex b) (fits-hexed k p j ks h) on-dead
  fits (neg p) ks n b h = fits-cond (eqb b 48) (allowed (omega arith) tt) (fits-cond (is_digit b) (allowed (omega arith) tt) on-dead)
  fits (nought p) ks n b h = fits-nought p ks n b (omega arith)
  fits (int p) ks n b h = fits-cond (is_digit b) (allowed (omega arith) tt) (fits-nought p ks n b (omega arith))
  fits (dot p) ks n b h = fits-cond (is_digit b) (allowed (omega arith) tt) on-dead
  fits (frac p) ks n b h = fits-cond (is_digit b) (allowed (omega arith) tt) (fits-mant p ks n b (omega arith))
  fits (mant p) ks n b h = fits-mant p ks n b (omega arith)
  fits (exp p) ks n b h = fits-cond (eqb b 43 || eqb b 45) (allowed (omega arith) tt) (fits-cond (is_digit b) (allowed (omega arith) tt) on-dead)
  fits (sign p) ks n b h = fits-cond (is_digit b) (allowed (omega arith) tt) on-dead
  fits (exps p) ks n b h = fits-cond (is_digit b) (allowed (omega arith) tt) (fits-got _ ks n b (omega arith))
  fits (lit p o []) ks n b h = on-dead
  fits (lit p o (w ∷ [])) ks n b h = fits-cond (eqb b w) (allowed (omega arith) tt) on-dead
  fits (lit p o (w ∷ w' ∷ ws)) ks n b h = fits-cond (eqb b w) (allowed (omega arith) tt) on-dead
