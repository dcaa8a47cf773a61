-- Short integers: digits alone, and few of them.
use Prim.Native.Nat.{ℕ, zero, suc, ◌+◌, ◌-◌, ◌*◌, ◌^◌, ◌≤◌, ◌<◌}
use native.Mathlib.Omega.{arith}
use native.Mathlib.Nat.{pow-suc, pow-le-pow_right, mul-le-mul_right, mul_assoc, mul_comm, le_trans}
use mathlib.Core.Path.{◌≡◌, refl, sym, ap, ◌∙◌}
use mathlib.Core.Bool.{Bool, true, false, cond, ◌&&◌, and-false}
use mathlib.Core.List.{List, [], ◌∷◌, ◌++◌}
use lib.ListN.{length, get_or}
use Rattle.std.proofs.Common.{Option, Some, None, is_some, drop, drop_of_length-le}
use lib.Dec.{eqb, ltb}
use lib.IntN.{pos}
use borrow.Author.Tests.{ne_eqb, eq-eqb, lt-ltb, le-ltb}
use Rattle.utf8.specs.Ascii.{is_digit}
use Rattle.utf8.specs.Laws.{never}
use Rattle.numerals.specs.Numerals.{is_point, is_letter, is_integer, integer, digits, natural, negative, signed, fits32}
use Rattle.numerals.proofs.Laws.{digit-high}
use Rattle.numerals.specs.Reading.{all_digits, quick_of, is_short, Quick, Short}
use Rattle.numerals.proofs.Bytes.{drop-next, digits_more}

-- a digit is no sign, no point and no letter
module _ (b : ℕ) (e : true ≡ is_digit b) where
  other : (k : ℕ) → is_digit k ≡ false → eqb b k ≡ false
  other k f = ne_eqb b k (λ q. never (sym f ∙ ap is_digit (sym q) ∙ sym e) refl)

  digit-point : is_point b ≡ false
  unfolding is_point is_digit
  digit-point = other 46 refl

  digit-letter : is_letter b ≡ false
  unfolding is_letter is_digit
  digit-letter = rw (other 101 refl, other 69 refl)

both : (p q : Bool) → p && q ≡ true → (p ≡ true) × (q ≡ true)
both true q e = (refl, e)
both false q e = absurd (never e refl)

pub digits-whole : (raw : List ℕ) → all_digits raw ≡ true → is_integer raw ≡ true
unfolding all_digits is_integer
digits-whole [] e = refl
digits-whole (b ∷ s) e = let h = both (is_digit b) (all_digits s) e in rw (digit-point b (sym h.0), digit-letter b (sym h.0)) (digits-whole s h.1)

digits-plus : (raw : List ℕ) → all_digits raw ≡ true → negative raw ≡ false
unfolding all_digits negative is_digit
digits-plus [] e = refl
digits-plus (b ∷ s) e = other b (sym (both (is_digit b) (all_digits s) e).0) 45 refl

pub digits-value : (raw : List ℕ) (n : ℕ) → all_digits raw ≡ true → n ≡ natural 0 (digits raw) → integer raw ≡ pos n
unfolding integer signed
digits-value raw n e q = rw (digits-plus raw e, q)

-- ---- the digits before i write n, which has no more digits than they

pub record Quickly (raw : List ℕ) (n i : ℕ) : Type 0 where
  pub plain : all_digits (drop i raw) ≡ all_digits raw
  pub few : n < 10 ^ i
  pub same : natural n (digits (drop i raw)) ≡ natural 0 (digits raw)

module _ {raw : List ℕ} {n i : ℕ} (p : Quickly raw n i) (s : length raw < 10) where
  pub quickly-end : length raw ≤ i → Some n ≡ quick_of raw
  unfolding digits natural quick_of all_digits
  quickly-end h =
      let e : natural n (digits (drop i raw)) ≡ n = rw (drop_of_length-le raw h) in
      let a : true ≡ all_digits raw = sym (ap all_digits (drop_of_length-le raw h)) ∙ p.plain in
      rw (lt-ltb (length raw) 10 s, ← a) (ap Some (sym e ∙ p.same))

  module _ (h : i < length raw) where
    first : is_digit (get_or raw i 0) && all_digits (drop (i + 1) raw) ≡ all_digits raw
    unfolding all_digits
    first = sym (ap all_digits (drop-next raw i h)) ∙ p.plain

    pub quickly-other : false ≡ is_digit (get_or raw i 0) → None ≡ quick_of raw
    unfolding quick_of
    quickly-other e = rw (← (ap (λ t. t && all_digits (drop (i + 1) raw)) e ∙ first)) (rw (and-false (ltb (length raw) 10)))

    module _ {d : ℕ} (e : true ≡ is_digit (get_or raw i 0)) (q : d ≡ get_or raw i 0 - 48) where
      pub quickly-more : Quickly raw (n * 10 + d) (i + 1)
      unfolding natural
      quickly-more =
          let z : i + 1 ≡ suc i = omega arith in
          record {
            plain = ap (λ t. t && all_digits (drop (i + 1) raw)) e ∙ first;
            few = rw (z, pow-suc) (omega (arith, p.few, digit-high (get_or raw i 0) e));
            same = rw q (sym (ap (natural n) (ap digits (drop-next raw i h) ∙ digits_more _ _ e)) ∙ p.same);
          }

-- the number is the value of the bytes as an integer
module _ (raw : List ℕ) (n : ℕ) (e : quick_of raw ≡ Some n) where
  told : (all_digits raw ≡ true) × (n ≡ natural 0 (digits raw))
  unfolding quick_of
  told = by (ltb (length raw) 10) (all_digits raw) e
    where
      by : (x y : Bool) → cond (x && y) (Some (natural 0 (digits raw))) None ≡ Some n → (y ≡ true) × (n ≡ natural 0 (digits raw))
      by true true q = (refl, cc)
      by true false q = cc
      by false y q = cc

  told-whole : is_integer raw ≡ true
  told-whole = digits-whole raw told.0

  told-value : integer raw ≡ pos n
  told-value = digits-value raw n told.0 told.1

pub quick-is : (raw : List ℕ) {r : Option ℕ} → r ≡ quick_of raw → Quick raw r
quick-is raw e = record { is = e; whole = λ n q. told-whole raw n (sym e ∙ q); value = λ n q. told-value raw n (sym e ∙ q) }

pub quick-long : (raw : List ℕ) → 9 < length raw → None ≡ quick_of raw
unfolding quick_of
quick-long raw h = rw (le-ltb (length raw) 10 h)

-- all bytes, less than ten, are digits where there is such a number
pub some-digits : (raw : List ℕ) {r : Option ℕ} → length raw < 10 → r ≡ quick_of raw → is_some r ≡ all_digits raw
unfolding quick_of
some-digits raw h e = ap is_some e ∙ ap (λ t. is_some (cond (t && all_digits raw) (Some (natural 0 (digits raw))) None)) (lt-ltb (length raw) 10 h) ∙ by (all_digits raw)
  where
    by : (y : Bool) → is_some (cond y (Some (natural 0 (digits raw))) None) ≡ y
    by true = refl
    by false = refl

-- ---- a short numeral is small

digits-length : (s : List ℕ) → length (digits s) ≤ length s
unfolding digits
digits-length [] = omega arith
digits-length (b ∷ s) = by-test (is_digit b) (digits-length s)
  where
    by-test : (y : Bool) → length (digits s) ≤ length s → length (cond y ((b - 48) ∷ []) [] ++ digits s) ≤ suc (length s)
    by-test true h = omega arith
    by-test false h = omega arith

natural-small : (n : ℕ) (s : List ℕ) → natural n (digits s) < (n + 1) * 10 ^ length (digits s)
unfolding digits natural
natural-small n [] = omega arith
natural-small n (b ∷ s) = by-test (is_digit b) refl (natural-small n s) (natural-small (n * 10 + (b - 48)) s)
  where
    by-test : (y : Bool) → is_digit b ≡ y → natural n (digits s) < (n + 1) * 10 ^ length (digits s)
        → natural (n * 10 + (b - 48)) (digits s) < (n * 10 + (b - 48) + 1) * 10 ^ length (digits s)
        → natural n (cond y ((b - 48) ∷ []) [] ++ digits s) < (n + 1) * 10 ^ length (cond y ((b - 48) ∷ []) [] ++ digits s)
    by-test true e f g =
        let l = length (digits s) in
        let d : n * 10 + (b - 48) + 1 ≤ (n + 1) * 10 = omega (arith, digit-high b (sym e)) in
        let h : natural (n * 10 + (b - 48)) (digits s) < (n + 1) * 10 * 10 ^ l = le_trans g (mul-le-mul_right (10 ^ l) d) in
        let q : (n + 1) * 10 * 10 ^ l ≡ (n + 1) * 10 ^ suc l = mul_assoc (n + 1) 10 (10 ^ l) ∙ ap (λ (k : ℕ). (n + 1) * k) (mul_comm 10 (10 ^ l) ∙ sym (pow-suc 10 l)) in
        rw q at h
    by-test false e f g = f

short-number : (raw : List ℕ) → length raw ≤ 9 → natural 0 (digits raw) < 2 ^ 31
short-number raw h =
    let w = pow-le-pow_right {n = 10} (omega arith) {i = length (digits raw)} {j = 9} (omega (arith, digits-length raw)) in
    omega (arith, natural-small 0 raw)

small-fits : (neg : Bool) (n : ℕ) → n < 2 ^ 31 → fits32 (signed neg n) ≡ true
unfolding signed fits32
small-fits true zero l = refl
small-fits true (suc n) l = lt-ltb n (2 ^ 31) (omega arith)
small-fits false n l = lt-ltb n (2 ^ 31) l

short-fits : (raw : List ℕ) → length raw ≤ 9 → fits32 (integer raw) ≡ true
unfolding integer
short-fits raw h = small-fits (negative raw) (natural 0 (digits raw)) (short-number raw h)

-- bytes that are none
short_none : (raw : List ℕ) → is_short raw ≡ false → Short raw false
short_none raw e = record { is = sym e; whole = λ e. absurd (never e refl); fits = λ e. absurd (never e refl) }

long-not : (raw : List ℕ) → 9 < length raw → is_short raw ≡ false
unfolding is_short
long-not [] h = refl
long-not (b ∷ s) h = rw (le-ltb (length (b ∷ s)) 10 (omega arith))

pub short-long : (raw : List ℕ) → 9 < length raw → Short raw false
short-long raw h = short_none raw (long-not raw h)

pub short-empty : (raw : List ℕ) → length raw < 1 → Short raw false
unfolding is_short
short-empty [] q = short_none [] refl
short-empty (b ∷ s) q = absurd (omega arith)

module _ (raw : List ℕ) (s : length raw ≤ 9) (h : 1 ≤ length raw) where
  next : raw ≡ get_or raw 0 0 ∷ drop 1 raw
  next = drop-next raw 0 h

  few : ltb (length (get_or raw 0 0 ∷ drop 1 raw)) 10 ≡ true
  few = lt-ltb (length (get_or raw 0 0 ∷ drop 1 raw)) 10 (omega (arith, ap length next))

  pub short-plus : {r : Bool} → (get_or raw 0 0 ≡ 45 → ⊥) → r ≡ all_digits raw → Short raw r
  unfolding is_short
  short-plus b e =
      record {
        is = e ∙ (ap all_digits next ∙ sym (ap is_short next ∙ rw (few, ne_eqb (get_or raw 0 0) 45 b)));
        whole = λ q. digits-whole raw (sym e ∙ q);
        fits = λ q. short-fits raw s;
      }

  pub short-minus : {r : Bool} → get_or raw 0 0 ≡ 45 → r ≡ all_digits (drop 1 raw) → Short raw r
  unfolding is_short is_integer
  short-minus b e =
      record {
        is = e ∙ sym (ap is_short next ∙ rw (few, eq-eqb (get_or raw 0 0) 45 b));
        whole = λ q. rw (next, b) (digits-whole (drop 1 raw) (sym e ∙ q));
        fits = λ q. short-fits raw s;
      }
