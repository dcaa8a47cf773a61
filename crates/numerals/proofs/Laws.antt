-- What the definitions of `Numerals` come to: the digits of a numeral write m times ten to the zeros (`meaning`); the pair of a numeral is (0, 0)
-- or has an m that is no multiple of ten (`canonical`, rule 13); and the value of the pair of an integer is that integer (`whole`).
use Rattle.std.specs.Prelude.{ℕ, zero, suc, ◌+◌, ◌-◌, ◌*◌, ◌^◌, ◌%◌, ◌≤◌, ◌<◌, ◌≡◌, ◌⊎◌, Bool, cond, not, ◌&&◌, ◌||◌, eqb, leb, ℤ, pos, nat_abs, ◌-ℤ◌, ◌*ℤ◌}
use Rattle.std.proofs.Math.Path.{refl, ap}
use Rattle.std.proofs.Common.{sym, ◌∙◌, inl, inr, arith, add-zero, mul_assoc, pow-suc, mul-one, zero-mul, add-one, eqb-true, leb-true, ne_eqb}
use Rattle.std.proofs.Math.Bool.{true, false}
use mathlib.Core.List.{List, [], ◌∷◌, ◌++◌, append-nil}
use Rattle.utf8.specs.Ascii.{is_digit}
use Rattle.utf8.specs.Laws.{clash}
use Rattle.numerals.specs.Numerals.{Trimmed, more, trimmed, none_yet, natural, digits, is_point, is_letter, is_integer, integer, before, after, mantissa, places, exponent, negative, signed, scaled, decimal, times_ten, whole_of}
use Rattle.numerals.specs.Laws.{Canonical, Below10}

-- ---- the digits write m times ten to the zeros

-- one more place
shift : (m z : ℕ) → m * 10 ^ (z + 1) ≡ m * 10 ^ z * 10
shift m z = rw (add-one z, pow-suc, mul_assoc)

meaning-after : (t : Trimmed) (ds : List ℕ) → natural (t.m * 10 ^ t.zeros) ds ≡ (trimmed t ds).m * 10 ^ (trimmed t ds).zeros
unfolding natural trimmed
meaning-after t [] = refl
meaning-after t (zero ∷ ds) = ap (λ n. natural n ds) (add-zero _ ∙ sym (shift t.m t.zeros)) ∙ meaning-after (more t zero) ds
meaning-after t (suc d ∷ ds) =
    ap (λ n. natural n ds) (ap (λ n. n + suc d) (sym (shift t.m t.zeros)) ∙ sym (mul-one _)) ∙ meaning-after (more t (suc d)) ds

-- the number that digits write is the number that is left when they are trimmed, times ten for each zero that was dropped
pub meaning : (ds : List ℕ) → natural 0 ds ≡ (trimmed none_yet ds).m * 10 ^ (trimmed none_yet ds).zeros
meaning ds = meaning-after none_yet ds

-- ---- the form of a pair

-- a number that is zero or no multiple of ten
abbrev Trim : ℕ → Type 0
Trim m = (m ≡ 0) ⊎ (m % 10 ≡ 0 → ⊥)

-- the bounds of a digit
digit-bounds : (b : ℕ) (x y : Bool) → leb 48 b ≡ x → leb b 57 ≡ y → x && y ≡ true → (48 ≤ b) × (b - 48 < 10)
digit-bounds b true true p q e = (leb-true 48 b p, omega (arith, leb-true b 57 q))
digit-bounds b true false p q e = clash cc
digit-bounds b false y p q e = clash cc

module _ (b : ℕ) (e : true ≡ is_digit b) where
  pub digit_low : 48 ≤ b
  unfolding is_digit
  digit_low = (digit-bounds b (leb 48 b) (leb b 57) refl refl (sym e)).0

  pub digit-high : b - 48 < 10
  unfolding is_digit
  digit-high = (digit-bounds b (leb 48 b) (leb b 57) refl refl (sym e)).1

small : (s : List ℕ) → Below10 (digits s)
unfolding digits
small [] = tt
small (b ∷ s) = by-test (is_digit b) refl (small s)
  where
    by-test : (y : Bool) → is_digit b ≡ y → Below10 (digits s) → Below10 (cond y ((b - 48) ∷ []) [] ++ digits s)
    by-test true e h = (digit-high b (sym e), h)
    by-test false e h = h

trim : (t : Trimmed) (ds : List ℕ) → Trim t.m → Below10 ds → Trim (trimmed t ds).m
unfolding trimmed
trim t [] h l = h
trim t (zero ∷ ds) h l = trim (more t zero) ds h l.1
trim t (suc d ∷ ds) h l = trim (more t (suc d)) ds (inr (λ e. omega (arith, shift t.m t.zeros, l.0))) l.1

-- a sign leaves the absolute value
pub nat_abs-signed : (neg : Bool) (n : ℕ) → nat_abs (signed neg n) ≡ n
unfolding signed
nat_abs-signed true zero = refl
nat_abs-signed true (suc n) = refl
nat_abs-signed false n = refl

canonical-scaled : (neg : Bool) (t : Trimmed) (e : ℤ) → Trim t.m → Canonical (scaled neg t e)
unfolding scaled
canonical-scaled neg t e (inl q) = inl (rw q (refl, refl))
canonical-scaled neg t e (inr q) = inr (rw (ne_eqb t.m 0 (λ z. q (rw z)), nat_abs-signed neg t.m) q)

-- every pair is so, in range or not
pub canonical : (raw : List ℕ) → Canonical (decimal raw)
unfolding decimal
canonical raw =
    let ds = digits (mantissa raw) in
    canonical-scaled (negative raw) (trimmed none_yet ds) (exponent raw -ℤ pos (places raw)) (trim none_yet ds (inl refl) (small (mantissa raw)))

-- ---- the pair of an integer

-- a byte that a test names, or not
module _ (test : ℕ → Bool) (b : ℕ) (s : List ℕ) where
  pub before-no : test b ≡ false → before test (b ∷ s) ≡ b ∷ before test s
  unfolding before
  before-no e = ap (λ t. elim t [ true ↦ [] | false ↦ b ∷ before test s ]) e

  pub before-yes : test b ≡ true → before test (b ∷ s) ≡ []
  unfolding before
  before-yes e = ap (λ t. elim t [ true ↦ [] | false ↦ b ∷ before test s ]) e

  pub after-no : test b ≡ false → after test (b ∷ s) ≡ after test s
  unfolding after
  after-no e = ap (λ t. elim t [ true ↦ s | false ↦ after test s ]) e

  pub after-yes : test b ≡ true → after test (b ∷ s) ≡ s
  unfolding after
  after-yes e = ap (λ t. elim t [ true ↦ s | false ↦ after test s ]) e

-- no byte of a list passes a test
pub data Lacks (test : ℕ → Bool) : List ℕ → Type 0 where
  lacks-nil : Lacks test []
  lacks-more : {b : ℕ} {l : List ℕ} → test b ≡ false → Lacks test l → Lacks test (b ∷ l)

module _ {test : ℕ → Bool} where
  -- the first byte that passes stands behind them
  pub before-past : {l : List ℕ} → Lacks test l → (s : List ℕ) → before test (l ++ s) ≡ l ++ before test s
  before-past lacks-nil s = refl
  before-past (lacks-more {b} e h) s = before-no test _ _ e ∙ ap (λ t. b ∷ t) (before-past h s)

  pub after-past : {l : List ℕ} → Lacks test l → (s : List ℕ) → after test (l ++ s) ≡ after test s
  after-past lacks-nil s = refl
  after-past (lacks-more e h) s = after-no test _ _ e ∙ after-past h s

  -- if none passes, all bytes are before it and none after
  before-all : {l : List ℕ} → Lacks test l → before test l ≡ l
  unfolding before
  before-all {l} h = rw (append-nil l) at (before-past h [])

  after-all : {l : List ℕ} → Lacks test l → after test l ≡ []
  unfolding after
  after-all {l} h = rw (append-nil l) at (after-past h [])

-- a byte of an integer is neither a point nor a letter
clear : (p l i : Bool) → not (p || l) && i ≡ true → (p ≡ false) × (l ≡ false) × (i ≡ true)
clear false false i e = (refl, refl, e)
clear false true i e = clash cc
clear true l i e = clash cc

plain : (raw : List ℕ) → is_integer raw ≡ true → Lacks is_point raw × Lacks is_letter raw
unfolding is_integer
plain [] e = (lacks-nil, lacks-nil)
plain (b ∷ s) e = let c = clear (is_point b) (is_letter b) (is_integer s) e in let h = plain s c.2 in (lacks-more c.0 h.0, lacks-more c.1 h.1)

-- zero has no sign
pub zero-signed : (neg : Bool) → pos 0 ≡ signed neg 0
unfolding signed
zero-signed true = refl
zero-signed false = refl

-- a number with its sign, times a number that has none
pub times-signed : (neg : Bool) (m k : ℕ) → signed neg m *ℤ pos k ≡ signed neg (m * k)
unfolding signed
times-signed true zero k = rw zero-mul
times-signed true (suc m) k = refl
times-signed false m k = refl

whole_scaled : (neg : Bool) (t : Trimmed) → whole_of (scaled neg t (pos 0)) ≡ signed neg (t.m * 10 ^ t.zeros)
unfolding whole_of scaled times_ten
whole_scaled neg t = by_cases t.m (eqb t.m 0) refl
  where
    by_cases : (m : ℕ) (z : Bool) → eqb m 0 ≡ z
        → whole_of (cond z (record { m = pos 0; e = pos 0 }) (record { m = signed neg m; e = pos (t.zeros + 0) })) ≡ signed neg (m * 10 ^ t.zeros)
    by_cases m true e = rw (eqb-true m 0 e, zero-mul (10 ^ t.zeros)) (zero-signed neg)
    by_cases m false e = rw add-zero (times-signed neg m (10 ^ t.zeros))

-- a numeral with no fraction and no exponent: its pair, m times ten to the e, is the integer that its digits write
pub whole : (raw : List ℕ) → is_integer raw ≡ true → whole_of (decimal raw) ≡ integer raw
unfolding decimal integer
whole raw e =
    let h = plain raw e in
    ap whole_of (parts raw (before-all h.1) (after-all h.1) (after-all h.0)) ∙ whole_scaled (negative raw) (trimmed none_yet (digits raw))
    ∙ ap (signed (negative raw)) (sym (meaning (digits raw)))
  where
    parts : (raw : List ℕ) → before is_letter raw ≡ raw → after is_letter raw ≡ [] → after is_point raw ≡ []
        → decimal raw ≡ scaled (negative raw) (trimmed none_yet (digits raw)) (pos 0)
    parts raw b a p = rw (b, a, p)
