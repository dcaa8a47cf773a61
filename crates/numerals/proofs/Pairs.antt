-- The pair of a numeral, from what was read of it.
use Prim.Native.Nat.{ℕ, zero, suc, ◌+◌, ◌-◌, ◌^◌, ◌≤◌, ◌<◌, min}
use native.Mathlib.Omega.{arith}
use native.Mathlib.Nat.{add-zero}
use mathlib.Core.Path.{◌≡◌, refl, sym, ap, ◌∙◌, subst}
use mathlib.Core.Bool.{Bool, true, false, cond, ◌&&◌, ◌||◌}
use mathlib.Core.Logic.{◌⊎◌, inl, inr, ⊎_elim}
use mathlib.Core.Option.{none, some}
use mathlib.Core.List.{List, [], ◌∷◌}
use lib.ListN.{length}
use Rattle.std.proofs.Common.{Option, Some, None, drop}
use lib.Dec.{ltb}
use lib.IntN.{ℤ, pos, negsuc, nat_abs, ◌+ℤ◌, ◌-ℤ◌}
use mir.Syntax.{w64}
use mir.Val.{SFits, to_z, of_z}
use mir.Facts.{to_z-of_z}
use borrow.Author.Tests.{eq-eqb, ne_eqb, le-leb, lt-leb, lt-ltb, le-ltb, ltb-true, ltb-false}
use borrow.Author.Rules.{rules}
use Rattle.utf8.specs.Ascii.{is_digit}
use Rattle.numerals.specs.Numerals.{Decimal, Trimmed, more, trimmed, is_point, is_letter, digits, natural, negative, signed, after, mantissa, places, exponent, scaled, decimal, in_range, pair_of}
use Rattle.numerals.proofs.Laws.{digit_low, after-no, after-yes, nat_abs-signed}
use Rattle.numerals.specs.Reading.{pair_in, saturated, IsWhole, digit, taken, sums, nothing, IsRead, Reads, Reaches, power_of}
use Rattle.numerals.specs.declared.Whole.{Whole}
use Rattle.numerals.specs.declared.Sum.{Sum}
use Rattle.numerals.proofs.Bytes.{digits_more, digits_same}
use Rattle.numerals.proofs.Wholes.{signed-fits}
use Rattle.numerals.proofs.Powers.{beyond-up, beyond-down, power-up, power-down}
use Rattle.numerals.proofs.Sums.{taken_yes, taken-no}

-- ---- the bytes read one at a time give the digits trimmed, and the places

abbrev trim_of : Sum → Trimmed
trim_of s = record { m = s.m; zeros = s.zeros }

trim-digit : (s : Sum) (d : ℕ) → trim_of (digit s d) ≡ more (trim_of s) d
unfolding digit
trim-digit s zero = refl
trim-digit s (suc d) = refl

sums-trim : (s : Sum) (l : List ℕ) → trim_of (sums s l) ≡ trimmed (trim_of s) (digits l)
unfolding sums trimmed digits
sums-trim s [] = refl
sums-trim s (b ∷ l) = sums-trim (taken s b) l ∙ step (is_digit b) refl
  where
    step : (y : Bool) → is_digit b ≡ y → trimmed (trim_of (taken s b)) (digits l) ≡ trimmed (trim_of s) (digits (b ∷ l))
    step true e = ap (λ t. trimmed (trim_of t) (digits l)) (taken_yes s b (sym e)) ∙ ap (λ t. trimmed t (digits l)) (trim-digit s (b - 48)) ∙ sym (ap (trimmed (trim_of s)) (digits_more b l (sym e)))
    step false e = ap (λ t. trimmed (trim_of t) (digits l)) (taken-no s b (sym e)) ∙ sym (ap (trimmed (trim_of s)) (digits_same b l (sym e)))

-- what is left of the mantissa after its point, if that was read, or comes
abbrev tail : Bool → List ℕ → List ℕ
tail true l = l
tail false l = after is_point l

digit-places : (s : Sum) (d : ℕ) → ((digit s d).places ≡ s.places + cond s.point 1 0) × ((digit s d).point ≡ s.point)
unfolding digit
digit-places s zero = (refl, refl)
digit-places s (suc d) = (refl, refl)

point-digit : (b : ℕ) → is_digit b ≡ true → is_point b ≡ false
unfolding is_point
point-digit b e = let l = digit_low b (sym e) in ne_eqb b 46 (omega arith)

module _ (b : ℕ) (l : List ℕ) where
  tail-digit : (t : Bool) (n : ℕ) → is_digit b ≡ true → (n + cond t 1 0) + length (digits (tail t l)) ≡ n + length (digits (tail t (b ∷ l)))
  tail-digit true n e = let q = ap length (digits_more b l (sym e)) in omega arith
  tail-digit false n e = ap (λ k. k + length (digits (after is_point l))) (add-zero n) ∙ ap (λ k. n + length (digits k)) (sym (after-no is_point b l (point-digit b e)))

  tail-other : (t y : Bool) → is_point b ≡ y → is_digit b ≡ false → length (digits (tail (t || y) l)) ≡ length (digits (tail t (b ∷ l)))
  tail-other true y q e = ap length (sym (digits_same b l (sym e)))
  tail-other false true q e = ap (λ k. length (digits k)) (sym (after-yes is_point b l q))
  tail-other false false q e = ap (λ k. length (digits k)) (sym (after-no is_point b l q))

sums-places : (s : Sum) (l : List ℕ) → (sums s l).places ≡ s.places + length (digits (tail s.point l))
unfolding sums digits after
sums-places s [] = nil s.point
  where
    nil : (t : Bool) → s.places ≡ s.places + length (digits (tail t []))
    nil true = sym (add-zero s.places)
    nil false = sym (add-zero s.places)
sums-places s (b ∷ l) = sums-places (taken s b) l ∙ step (is_digit b) refl
  where
    step : (y : Bool) → is_digit b ≡ y → (taken s b).places + length (digits (tail (taken s b).point l)) ≡ s.places + length (digits (tail s.point (b ∷ l)))
    step true e =
        let d = digit-places s (b - 48) in
        ap (λ t. t.places + length (digits (tail t.point l))) (taken_yes s b (sym e))
        ∙ ap (λ n. n + length (digits (tail (digit s (b - 48)).point l))) d.0
        ∙ ap (λ t. (s.places + cond s.point 1 0) + length (digits (tail t l))) d.1
        ∙ tail-digit b l s.point s.places e
    step false e =
        ap (λ t. t.places + length (digits (tail t.point l))) (taken-no s b (sym e))
        ∙ ap (λ n. s.places + n) (tail-other b l s.point (is_point b) refl e)

-- ---- exponents that stop at 2^64 - 1

either : (n m : ℕ) → (min n m ≡ n) ⊎ ((m ≤ n) × (min n m ≡ m))
either n m = by-test (ltb n m) refl
  where
    by-test : (y : Bool) → ltb n m ≡ y → (min n m ≡ n) ⊎ ((m ≤ n) × (min n m ≡ m))
    by-test true e = inl (omega (arith, ltb-true n m e))
    by-test false e = inr (ltb-false n m e, omega (arith, ltb-false n m e))

module _ (z p : ℕ) (zl : z < 2 ^ 63) (pl : p < 2 ^ 63) where
  big : (neg : Bool) (n : ℕ) → 2 ^ 64 - 1 ≤ n → 22 < nat_abs (power_of z p neg n)
  unfolding Reaches
  big true n h = subst (λ t. Reaches t None) (sym (power-down z p n)) (beyond-down z (n + p) (omega arith) (omega arith))
  big false n h = subst (λ t. Reaches t None) (sym (power-up z p n)) (beyond-up (z + n) p (omega arith) (omega arith))

  module _ (neg : Bool) (n : ℕ) where
    beyond-exact : 22 < nat_abs (power_of z p neg (min n (2 ^ 64 - 1))) → 22 < nat_abs (power_of z p neg n)
    beyond-exact h = ⊎_elim (λ q. subst (λ t. 22 < nat_abs (power_of z p neg t)) q h) (λ q. big neg n q.0) (either n (2 ^ 64 - 1))

    ranged-exact : nat_abs (power_of z p neg (min n (2 ^ 64 - 1))) ≤ 22 → min n (2 ^ 64 - 1) ≡ n
    ranged-exact h = ⊎_elim (λ q. q) (λ q. absurd (lost q.1)) (either n (2 ^ 64 - 1))
      where
        lost : min n (2 ^ 64 - 1) ≡ 2 ^ 64 - 1 → ⊥
        lost q = let w : nat_abs (power_of z p neg (2 ^ 64 - 1)) ≤ 22 = subst (λ t. nat_abs (power_of z p neg t) ≤ 22) q h in omega (arith, big neg (2 ^ 64 - 1) (omega arith))

ranged-fits : (z : ℤ) → nat_abs z ≤ 22 → SFits w64 z
ranged-fits (pos n) h = record { sfits = omega arith }
ranged-fits (negsuc n) h = record { sfits = omega arith }

-- ---- pairs in range and out

module _ (d : Decimal) where
  range-yes : nat_abs d.m < 10 ^ 15 → nat_abs d.e ≤ 22 → in_range d ≡ true
  unfolding in_range
  range-yes h l = rw (lt-ltb (nat_abs d.m) (10 ^ 15) h, le-leb (nat_abs d.e) 22 l)

  range-large : 10 ^ 15 ≤ nat_abs d.m → in_range d ≡ false
  unfolding in_range
  range-large h = rw (le-ltb (nat_abs d.m) (10 ^ 15) h)

  range-beyond : 22 < nat_abs d.e → in_range d ≡ false
  unfolding in_range
  range-beyond h = rw (lt-leb (nat_abs d.e) 22 h) (and-false (ltb (nat_abs d.m) (10 ^ 15)))
    where
      and-false : (x : Bool) → x && false ≡ false
      and-false true = refl
      and-false false = refl

pair-some : (raw : List ℕ) (d : Decimal) → decimal raw ≡ d → in_range d ≡ true → some d ≡ pair_of raw
unfolding pair_of
pair-some raw d e r = sym (ap (λ t. cond (in_range t) (some t) none) e ∙ ap (λ t. cond t (some d) none) r)

pair-none : (raw : List ℕ) (d : Decimal) → decimal raw ≡ d → in_range d ≡ false → none ≡ pair_of raw
unfolding pair_of
pair-none raw d e r = sym (ap (λ t. cond (in_range t) (some t) none) e ∙ ap (λ t. cond t (some d) none) r)

-- ---- the value of a numeral, from what was read of it

module _ (raw : List ℕ) (s : Sum) (e : s ≡ sums nothing (mantissa raw)) where
  -- the power that its parts give
  exact : ℤ
  exact = power_of s.zeros s.places (negative (after is_letter raw)) (natural 0 (digits (after is_letter raw)))

  decimal-scaled : decimal raw ≡ scaled (negative raw) (trim_of s) (exponent raw -ℤ pos s.places)
  unfolding decimal
  decimal-scaled =
      let q = sums-places nothing (mantissa raw) in
      let w = ap (λ t. t.places) e in
      let p : places raw ≡ s.places = omega arith in
      ap (λ t. scaled (negative raw) t (exponent raw -ℤ pos (places raw))) (sym (sums-trim nothing (mantissa raw)) ∙ ap trim_of (sym e))
      ∙ ap (λ n. scaled (negative raw) (trim_of s) (exponent raw -ℤ pos n)) p

  decimal-zero : s.m ≡ 0 → decimal raw ≡ record { m = pos 0; e = pos 0 }
  unfolding scaled
  decimal-zero z =
      decimal-scaled
      ∙ ap
      (λ t. cond t (record { m = pos 0; e = pos 0 }) (record { m = signed (negative raw) s.m; e = pos s.zeros +ℤ (exponent raw -ℤ pos s.places) }))
      (eq-eqb s.m 0 z)

  decimal-other : (s.m ≡ 0 → ⊥) → decimal raw ≡ record { m = signed (negative raw) s.m; e = exact }
  unfolding scaled exact power_of exponent
  decimal-other n =
      decimal-scaled
      ∙ ap
      (λ t. cond t (record { m = pos 0; e = pos 0 }) (record { m = signed (negative raw) s.m; e = pos s.zeros +ℤ (exponent raw -ℤ pos s.places) }))
      (ne_eqb s.m 0 n)

  large : 10 ^ 15 ≤ s.m → none ≡ pair_of raw
  large h = pair-none raw _ (decimal-other (omega arith)) (range-large (record { m = signed (negative raw) s.m; e = exact }) (rw (nat_abs-signed (negative raw) s.m) h))

pub pair-large : (raw : List ℕ) → Reads raw None → pair_in None ≡ pair_of raw
unfolding pair_in Reads
pair-large raw h = large raw (sums nothing (mantissa raw)) refl h

module _ (raw : List ℕ) (s : Sum) (next : ℕ) (h : Reads raw (Some (s, next))) where
  is_read : IsRead raw s next
  unfolding Reads
  is_read = h

  pub next-high : next ≤ length raw
  next-high = is_read.high

  pub m-fits : s.m < 9223372036854775808
  m-fits = let l = is_read.room.m in omega arith

  pub pair-zero : s.m ≡ 0 → pair_in (Some (pos 0, pos 0)) ≡ pair_of raw
  unfolding pair_in
  pair-zero z =
      pair-some raw (record { m = pos 0; e = pos 0 }) (decimal-zero raw s is_read.sum z)
      (range-yes (record { m = pos 0; e = pos 0 }) (omega arith) (omega arith))

  module _ (n : s.m ≡ 0 → ⊥) {w : Whole} (v : IsWhole (drop next raw) w) where
    -- the sign and the magnitude of the exponent, and the power that the exponent gives, as they are and as they were read
    minus : Bool
    minus = negative (after is_letter raw)

    size : ℕ
    size = natural 0 (digits (after is_letter raw))

    read-power : ℤ
    read-power = power_of s.zeros s.places w.negative w.magnitude

    stopped : read-power ≡ power_of s.zeros s.places minus (min size (2 ^ 64 - 1))
    unfolding read-power minus size saturated
    stopped =
        ap (λ b. power_of s.zeros s.places b w.magnitude) (v.sign ∙ ap negative is_read.rest)
        ∙ ap (power_of s.zeros s.places minus) (v.size ∙ ap saturated is_read.rest)

    beyond : 22 < nat_abs read-power → none ≡ pair_of raw
    unfolding minus size exact
    beyond b =
        let a = beyond-exact s.zeros s.places is_read.room.zeros is_read.room.places minus size (subst (λ k. 22 < nat_abs k) stopped b) in
        pair-none raw _ (decimal-other raw s is_read.sum n) (range-beyond _ a)

    ranged : nat_abs read-power ≤ 22 → some (record { m = signed (negative raw) s.m; e = read-power }) ≡ pair_of raw
    unfolding minus size exact
    ranged b =
        let k = ranged-exact s.zeros s.places is_read.room.zeros is_read.room.places minus size (subst (λ k. nat_abs k ≤ 22) stopped b) in
        let x : read-power ≡ exact raw s is_read.sum = stopped ∙ ap (power_of s.zeros s.places minus) k in
        pair-some
        raw
        (record { m = signed (negative raw) s.m; e = read-power })
        (decimal-other raw s is_read.sum n ∙ (λ i. record { m = signed (negative raw) s.m; e = sym x i }))
        (range-yes _ (rw (nat_abs-signed (negative raw) s.m) is_read.room.m) b)

    pub pair-beyond : Reaches (power_of s.zeros s.places w.negative w.magnitude) None → pair_in None ≡ pair_of raw
    unfolding pair_in Reaches read-power
    pair-beyond p = beyond p

    pub pair-ranged : (e : ℤ) {m : ℤ} {neg : Bool} → Reaches (power_of s.zeros s.places w.negative w.magnitude) (Some e) → neg ≡ negative raw → m ≡ signed neg s.m
        → pair_in (Some (to_z w64 (of_z w64 m), to_z w64 (of_z w64 e))) ≡ pair_of raw
    unfolding pair_in Reaches read-power
    pair-ranged e {m} {neg} b g x =
        let y : to_z w64 (of_z w64 m) ≡ signed (negative raw) s.m = rw x (to_z-of_z (signed-fits neg s.m m-fits)) ∙ ap (λ b. signed b s.m) g in
        let z : to_z w64 (of_z w64 e) ≡ read-power = rw b.0 (to_z-of_z (ranged-fits read-power b.1)) in
        ap some (λ i. record { m = y i; e = z i }) ∙ ranged b.1

pub ruleset pairs = (rules, pair-large, next-high, m-fits, pair-zero, pair-beyond, pair-ranged)
