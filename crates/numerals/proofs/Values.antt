-- Numbers by value: the pair of a numeral has the value that the numeral writes, fraction and exponent included (`has_value`), and two numerals
-- have one pair exactly if they write one value (`by_value`).
use Rattle.std.specs.Prelude.{ℕ, zero, suc, ◌+◌, ◌*◌, ◌^◌, ◌%◌, ◌<◌, ◌≡◌, refl, ◌↔◌, Bool, true, false, cond, List, eqb, ℤ, pos, negsuc, neg_ℤ, nat_abs, ◌+ℤ◌, ◌-ℤ◌, ◌*ℤ◌}
use Rattle.std.proofs.Common.{sym, ap, ◌∙◌, inl, inr, arith, zero-mul, mul_assoc, pow-suc, mul-pos, pow-add, eqb-true}
use Rattle.std.proofs.Math.Option.{none, some}
use Rattle.std.proofs.Math.Nat.{one-le-pow, eq_of_mul-eq-mul_right}
use Rattle.std.proofs.Math.IntN.{pos-ne-negsuc, +ℤ_assoc, +ℤ_invl, +ℤ-neg_ℤ_cancel}
use Rattle.utf8.specs.Laws.{clash}
use Rattle.numerals.specs.Numerals.{Decimal, Trimmed, trimmed, none_yet, natural, digits, mantissa, places, exponent, negative, signed, scaled, decimal, in_range, pair_of}
use Rattle.numerals.specs.Laws.{Canonical}
use Rattle.numerals.proofs.Laws.{canonical, meaning, nat_abs-signed, zero-signed, times-signed}
use Rattle.numerals.specs.Values.{as_written, SameValue}

-- ---- integers times a power of ten

-- twice is once by the product
times-times : (z : ℤ) (a b : ℕ) → z *ℤ pos a *ℤ pos b ≡ z *ℤ pos (a * b)
unfolding signed
times-times (pos n) a b = ap pos (mul_assoc n a b)
times-times (negsuc n) a b = times-signed true (suc n * a) b ∙ ap (λ i. neg_ℤ (pos i)) (mul_assoc (suc n) a b)

-- by a power and then a further one
times_power : (z : ℤ) (i t : ℕ) → z *ℤ pos (10 ^ (i + t)) ≡ z *ℤ pos (10 ^ i) *ℤ pos (10 ^ t)
times_power z i t = ap (λ c. z *ℤ pos c) (pow-add 10 i t) ∙ sym (times-times z (10 ^ i) (10 ^ t))

nat_abs-times : (z : ℤ) (c : ℕ) → nat_abs (z *ℤ pos c) ≡ nat_abs z * c
unfolding signed
nat_abs-times (pos n) c = refl
nat_abs-times (negsuc n) c = nat_abs-signed true (suc n * c)

-- a factor that is not zero is cancelled
module _ (c : ℕ) (h : 0 < c) where
  not_neg : (x n : ℕ) → pos x ≡ negsuc n *ℤ pos c → ⊥
  not_neg x n = of (suc n * c) (omega (arith, mul-pos {m = suc n} (omega arith) h))
    where
      of : (y : ℕ) → 0 < y → pos x ≡ neg_ℤ (pos y) → ⊥
      of zero k e = omega arith
      of (suc y) k e = pos-ne-negsuc x y e

  cancel : (y z : ℤ) → y *ℤ pos c ≡ z *ℤ pos c → y ≡ z
  cancel (pos m) (pos n) e = ap pos (eq_of_mul-eq-mul_right c h m n (ap nat_abs e))
  cancel (pos m) (negsuc n) e = absurd (not_neg (m * c) n e)
  cancel (negsuc m) (pos n) e = absurd (not_neg (n * c) m (sym e))
  cancel (negsuc m) (negsuc n) e =
      let d = sym (nat_abs-times (negsuc m) c) ∙ ap nat_abs e ∙ nat_abs-times (negsuc n) c in
      ap negsuc (omega (arith, eq_of_mul-eq-mul_right c h (suc m) (suc n) d))

-- ten to any power is not zero
ten-pos : (i : ℕ) → 0 < 10 ^ i
ten-pos i = one-le-pow i 10 (omega arith)

-- ---- to have one value is an equivalence

-- a power that makes whole, and a higher one
further : (z : ℤ) (k i t : ℕ) → z +ℤ pos k ≡ pos i → z +ℤ pos (k + t) ≡ pos (i + t)
further z k i t h = sym (+ℤ_assoc z (pos k) (pos t)) ∙ ap (λ y. y +ℤ pos t) h

-- there is one
whole-at : (z : ℤ) → (k i : ℕ) × (z +ℤ pos k ≡ pos i)
whole-at (pos n) = (0, n + 0, refl)
whole-at (negsuc n) = (suc n, 0, +ℤ_invl (pos (suc n)))

pub value-refl : (a : Decimal) → SameValue a a
value-refl a = let (k, i, h) = whole-at a.e in record { k = k; i = i; j = i; left = h; right = h; same = refl }

pub value-sym : {a b : Decimal} → SameValue a b → SameValue b a
value-sym s = record { k = s.k; i = s.j; j = s.i; left = s.right; right = s.left; same = sym s.same }

pub value-trans : {a b c : Decimal} → SameValue a b → SameValue b c → SameValue a c
value-trans {a} {b} {c} s t =
    record {
      k = s.k + t.k;
      i = s.i + t.k;
      j = t.j + s.k;
      left = further a.e s.k s.i t.k s.left;
      right = ap (λ n. c.e +ℤ pos n) (omega arith) ∙ further c.e t.k t.j s.k t.right;
      same = ends;
    }
  where
    -- the two powers of ten at b are one
    meet : s.j + t.k ≡ t.i + s.k
    meet =
        let p = further b.e s.k s.j t.k s.right in
        let q = further b.e t.k t.i s.k t.left in
        ap nat_abs (sym p ∙ ap (λ n. b.e +ℤ pos n) (omega arith) ∙ q)

    ends : a.m *ℤ pos (10 ^ (s.i + t.k)) ≡ c.m *ℤ pos (10 ^ (t.j + s.k))
    ends =
        times_power a.m s.i t.k
        ∙ ap (λ z. z *ℤ pos (10 ^ t.k)) s.same
        ∙ sym (times_power b.m s.j t.k)
        ∙ ap (λ n. b.m *ℤ pos (10 ^ n)) meet
        ∙ times_power b.m t.i s.k
        ∙ ap (λ z. z *ℤ pos (10 ^ s.k)) t.same
        ∙ sym (times_power c.m t.j s.k)

-- ---- the pair of a numeral has its value

abbrev pair : ℤ → ℤ → Decimal
pair m e = record { m = m; e = e }

value-scaled : (neg : Bool) (t : Trimmed) (e : ℤ) (n : ℕ) → n ≡ t.m * 10 ^ t.zeros → SameValue (pair (signed neg n) e) (scaled neg t e)
unfolding scaled
value-scaled neg t e n h = let (k, i, w) = whole-at e in by k i w (eqb t.m 0) refl
  where
    nought : (i j : ℕ) → n ≡ 0 → signed neg n *ℤ pos (10 ^ i) ≡ pos 0 *ℤ pos (10 ^ j)
    nought i j d = ap (λ z. z *ℤ pos (10 ^ i)) (ap (signed neg) d ∙ sym (zero-signed neg)) ∙ ap pos (zero-mul (10 ^ i) ∙ sym (zero-mul (10 ^ j)))

    by : (k i : ℕ) → e +ℤ pos k ≡ pos i → (z : Bool) → eqb t.m 0 ≡ z
        → SameValue (pair (signed neg n) e) (cond z (pair (pos 0) (pos 0)) (pair (signed neg t.m) (pos t.zeros +ℤ e)))
    by k i w true q =
        let d : n ≡ 0 = h ∙ ap (λ m. m * 10 ^ t.zeros) (eqb-true t.m 0 q) ∙ zero-mul (10 ^ t.zeros) in
        record { k = k; i = i; j = 0 + k; left = w; right = refl; same = nought i (0 + k) d }
    by k i w false q =
        record {
          k = k;
          i = i;
          j = t.zeros + i;
          left = w;
          right = +ℤ_assoc (pos t.zeros) e (pos k) ∙ ap (λ z. pos t.zeros +ℤ z) w;
          same =
              ap (λ z. z *ℤ pos (10 ^ i)) (ap (signed neg) h ∙ sym (times-signed neg t.m (10 ^ t.zeros)))
              ∙ sym (times_power (signed neg t.m) t.zeros i);
        }

-- a numeral and its pair have one value
pub has_value : (raw : List ℕ) → SameValue (as_written raw) (decimal raw)
unfolding as_written decimal
has_value raw =
    let ds = digits (mantissa raw) in
    value-scaled (negative raw) (trimmed none_yet ds) (exponent raw -ℤ pos (places raw)) (natural 0 ds) (meaning ds)

-- ---- a value has one pair

-- numbers that are no multiples of ten, times powers of ten
one_power : (m n i j : ℕ) → (m % 10 ≡ 0 → ⊥) → (n % 10 ≡ 0 → ⊥) → m * 10 ^ i ≡ n * 10 ^ j → i ≡ j
one_power m n zero zero f g e = refl
one_power m n zero (suc j) f g e = absurd (f (omega (arith, rw (pow-suc 10 j, ← (mul_assoc n (10 ^ j) 10)) at e)))
one_power m n (suc i) zero f g e = absurd (g (omega (arith, rw (pow-suc 10 i, ← (mul_assoc m (10 ^ i) 10)) at e)))
one_power m n (suc i) (suc j) f g e =
    ap suc (one_power m n i j f g (omega (arith, rw (pow-suc 10 i, ← (mul_assoc m (10 ^ i) 10), pow-suc 10 j, ← (mul_assoc n (10 ^ j) 10)) at e)))

zero-only : (z : ℤ) (c : ℕ) → 0 < c → z *ℤ pos c ≡ pos 0 → z ≡ pos 0
zero-only z c h e = cancel c h z (pos 0) (e ∙ ap pos (sym (zero-mul c)))

-- a canonical pair with the value of zero is (0, 0)
one-zero : (b : Decimal) → Canonical b → (j : ℕ) → b.m *ℤ pos (10 ^ j) ≡ pos 0 → (b.m ≡ pos 0) × (b.e ≡ pos 0)
one-zero b (inl h) j e = h
one-zero b (inr f) j e = absurd (f (ap (λ z. nat_abs z % 10) (zero-only b.m (10 ^ j) (ten-pos j) e)))

pair_path : {a b : Decimal} → a.m ≡ b.m → a.e ≡ b.e → a ≡ b
pair_path p q = λ i. record { m = p i; e = q i }

-- two canonical pairs of one value are one
pub one-pair : (a b : Decimal) → Canonical a → Canonical b → SameValue a b → a ≡ b
one-pair a b (inl (p, q)) c s =
    let (u, v) = one-zero b c s.j (sym s.same ∙ ap (λ z. z *ℤ pos (10 ^ s.i)) p ∙ ap pos (zero-mul (10 ^ s.i))) in
    pair_path (p ∙ sym u) (q ∙ sym v)
one-pair a b (inr f) (inl (p, q)) s =
    let (u, v) = one-zero a (inr f) s.i (s.same ∙ ap (λ z. z *ℤ pos (10 ^ s.j)) p ∙ ap pos (zero-mul (10 ^ s.j))) in
    pair_path (u ∙ sym p) (v ∙ sym q)
one-pair a b (inr f) (inr g) s = pair_path factors ends
  where
    powers : s.i ≡ s.j
    powers =
        let h = sym (nat_abs-times a.m (10 ^ s.i)) ∙ ap nat_abs s.same ∙ nat_abs-times b.m (10 ^ s.j) in
        one_power (nat_abs a.m) (nat_abs b.m) s.i s.j f g h

    factors : a.m ≡ b.m
    factors = cancel (10 ^ s.j) (ten-pos s.j) a.m b.m (ap (λ n. a.m *ℤ pos (10 ^ n)) (sym powers) ∙ s.same)

    ends : a.e ≡ b.e
    ends =
        sym (+ℤ-neg_ℤ_cancel a.e (pos s.k))
        ∙ ap (λ z. z -ℤ pos s.k) (s.left ∙ ap pos powers ∙ sym s.right)
        ∙ +ℤ-neg_ℤ_cancel b.e (pos s.k)

-- two numerals have one pair exactly if they write one value
pub by_value : (raw raw' : List ℕ) → (decimal raw ≡ decimal raw') ↔ SameValue (as_written raw) (as_written raw')
by_value raw raw' =
    let h = has_value raw in
    let h' = has_value raw' in (
      (λ e. value-trans (rw e at h) (value-sym h')),
      (λ s. one-pair (decimal raw) (decimal raw') (canonical raw) (canonical raw') (value-trans (value-sym h) (value-trans s h'))),
    )

-- the pair of a numeral, as rule 13 of docs/RULES.md says it: the one of that form and in range that has the value that the numeral writes
pub pair-exactly : (raw : List ℕ) (d : Decimal) → (pair_of raw ≡ some d) ↔ (Canonical d × (in_range d ≡ true) × SameValue (as_written raw) d)
unfolding pair_of
pair-exactly raw d = ((λ e. to (in_range (decimal raw)) refl e), from)
  where
    to : (b : Bool) → in_range (decimal raw) ≡ b → cond b (some (decimal raw)) none ≡ some d
        → Canonical d × (in_range d ≡ true) × SameValue (as_written raw) d
    to true q e = let z : decimal raw ≡ d = cc in rw (← z) (canonical raw, q, has_value raw)
    to false q e = clash cc

    from : Canonical d × (in_range d ≡ true) × SameValue (as_written raw) d → pair_of raw ≡ some d
    from (c, q, s) = let z = one-pair (decimal raw) d (canonical raw) c (value-trans (value-sym (has_value raw)) s) in rw (z, q)
