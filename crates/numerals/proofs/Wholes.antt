-- Integers by sign and magnitude.
use Prim.Native.Nat.{ℕ, zero, suc, ◌-◌, ◌^◌, ◌≤◌, ◌<◌, min}
use native.Mathlib.Omega.{arith}
use mathlib.Core.Path.{◌≡◌, refl, sym, ap, ◌∙◌}
use mathlib.Core.Bool.{Bool, true, false}
use mathlib.Core.List.{List}
use lib.Dec.{leb, ltb}
use lib.IntN.{ℤ, pos, negsuc, neg_ℤ, ◌-ℤ◌, +ℤ_idl}
use mir.Syntax.{w64}
use mir.Val.{Fits, SFits, to_z, of_z}
use mir.Facts.{to_z_pos, to_z-of_z}
use borrow.Author.Tests.{leb-true, leb-false, le-leb, lt-leb, le-ltb}
use borrow.Author.Rules.{rules}
use Rattle.numerals.specs.Numerals.{negative, signed, integer, fits32, is_below, natural, digits}
use Rattle.numerals.specs.Reading.{saturated, IsWhole, within}
use Rattle.numerals.specs.declared.Whole.{Whole}

-- ---- tests of a number that stops at m

leb-min : (n m c : ℕ) → c < m → leb (min n m) c ≡ leb n c
leb-min n m c h = by-test (leb n c) refl
  where
    by-test : (y : Bool) → leb n c ≡ y → leb (min n m) c ≡ y
    by-test true e = le-leb (min n m) c (omega (arith, leb-true n c e))
    by-test false e = lt-leb (min n m) c (omega (arith, leb-false n c e))

ltb-min : (n m c : ℕ) → c ≤ m → ltb (min n m) c ≡ ltb n c
ltb-min n m c h = by-test (ltb n c) refl
  where
    by-test : (y : Bool) → ltb n c ≡ y → ltb (min n m) c ≡ y
    by-test true e = le-leb (suc (min n m)) c (omega (arith, leb-true (suc n) c e))
    by-test false e = lt-leb (suc (min n m)) c (omega (arith, leb-false (suc n) c e))

-- ---- tests of a number with a sign

pub lies-minus : (low high n : ℕ) {neg : Bool} → neg ≡ true → 0 < n → leb n low ≡ within low high (signed neg n)
unfolding within signed
lies-minus low high zero e h = absurd (omega arith)
lies-minus low high (suc n) e h = rw e refl

pub lies-nought : (low high n : ℕ) (neg : Bool) → n ≤ 0 → ltb n high ≡ within low high (signed neg n)
unfolding within signed
lies-nought low high zero true h = refl
lies-nought low high zero false h = refl
lies-nought low high (suc n) neg h = absurd (omega arith)

pub lies-plus : (low high n : ℕ) {neg : Bool} → neg ≡ false → ltb n high ≡ within low high (signed neg n)
unfolding within signed
lies-plus low high n e = rw e refl

within-32 : (z : ℤ) → within 2147483648 2147483648 z ≡ fits32 z
unfolding within fits32
within-32 (pos n) = refl
within-32 (negsuc n) = refl

within-count : (count : ℕ) (z : ℤ) → within 0 count z ≡ is_below count z
unfolding within is_below
within-count count (pos n) = refl
within-count count (negsuc n) = le-ltb n 0 (omega arith)

-- the magnitude may stop at m
within-stops : (low high m n : ℕ) (neg : Bool) → low < m → high ≤ m → within low high (signed neg (min n m)) ≡ within low high (signed neg n)
unfolding within signed
within-stops low high m n false l h = ltb-min n m high h
within-stops low high m zero true l h = let e : min 0 m ≡ 0 = omega arith in ap (λ k. within low high (signed true k)) e
within-stops low high m (suc n) true l h =
    sym (lies-minus low high (min (suc n) m) {neg = true} refl (omega arith)) ∙ leb-min (suc n) m low l

-- a number that is in range is small
fits-small : (neg : Bool) (n : ℕ) → fits32 (signed neg n) ≡ true → n ≤ 2147483648
unfolding fits32 signed
fits-small true zero e = omega arith
fits-small true (suc n) e = leb-true (suc n) 2147483648 e
fits-small false n e = let h = leb-true (suc n) 2147483648 e in omega arith

module _ {raw : List ℕ} {w : Whole} (h : IsWhole raw w) where
  -- an integer, by the sign that is known
  known : (neg : Bool) → w.negative ≡ neg → signed neg (natural 0 (digits raw)) ≡ integer raw
  unfolding integer
  known neg e = ap (λ t. signed t (natural 0 (digits raw))) (sym e ∙ h.sign)

  size : w.magnitude ≡ min (natural 0 (digits raw)) (2 ^ 64 - 1)
  unfolding saturated
  size = h.size

  lies-in : (low high : ℕ) → low < 2 ^ 64 - 1 → high ≤ 2 ^ 64 - 1 → within low high (signed w.negative w.magnitude) ≡ within low high (integer raw)
  lies-in low high l k =
      ap (λ n. within low high (signed w.negative n)) size
      ∙ within-stops low high (2 ^ 64 - 1) (natural 0 (digits raw)) w.negative l k
      ∙ ap (within low high) (known w.negative refl)

  pub lies-32 : {r : Bool} → r ≡ within 2147483648 2147483648 (signed w.negative w.magnitude) → r ≡ fits32 (integer raw)
  lies-32 e = e ∙ lies-in 2147483648 2147483648 (omega arith) (omega arith) ∙ within-32 (integer raw)

  pub lies-below : (count : ℕ) {r : Bool} → Fits w64 count → r ≡ within 0 count (signed w.negative w.magnitude) → r ≡ is_below count (integer raw)
  lies-below count f e = let g = f.fits in e ∙ lies-in 0 count (omega arith) (omega arith) ∙ within-count count (integer raw)

-- ---- signed machine numbers

pub signed-fits : (neg : Bool) (n : ℕ) → n < 2 ^ 63 → SFits w64 (signed neg n)
unfolding signed
signed-fits true zero h = record { sfits = h }
signed-fits true (suc n) h = record { sfits = omega arith }
signed-fits false n h = record { sfits = h }

module _ (neg : Bool) (n : ℕ) (h : n < 2 ^ 63) where
  minus : pos 0 -ℤ to_z w64 n ≡ signed true n
  unfolding signed
  minus = ap (λ z. pos 0 -ℤ z) (to_z_pos w64 h) ∙ +ℤ_idl (neg_ℤ (pos n))

  pub minus-fits : SFits w64 (pos 0 -ℤ to_z w64 n)
  minus-fits = rw minus (signed-fits true n h)

  pub with-minus : neg ≡ true → to_z w64 (of_z w64 (pos 0 -ℤ to_z w64 n)) ≡ signed neg n
  with-minus e = to_z-of_z minus-fits ∙ minus ∙ ap (λ t. signed t n) (sym e)

  pub with-plus : neg ≡ false → to_z w64 n ≡ signed neg n
  unfolding signed
  with-plus e = to_z_pos w64 h ∙ ap (λ t. signed t n) (sym e)

module _ {raw : List ℕ} {w : Whole} (h : IsWhole raw w) (f : fits32 (integer raw) ≡ true) where
  pub whole-small : w.magnitude < 9223372036854775808
  unfolding integer
  whole-small = let q = size h in omega (arith, fits-small (negative raw) (natural 0 (digits raw)) f)

  pub whole_is : {z : ℤ} → z ≡ signed w.negative w.magnitude → to_z w64 (of_z w64 z) ≡ integer raw
  unfolding integer
  whole_is {z} e =
      let q = size h in
      let n : w.magnitude ≡ natural 0 (digits raw) = omega (arith, fits-small (negative raw) (natural 0 (digits raw)) f) in
      rw e (to_z-of_z (signed-fits w.negative w.magnitude whole-small) ∙ ap (λ m. signed w.negative m) n ∙ ap (λ t. signed t (natural 0 (digits raw))) h.sign)

pub ruleset wholes = (rules, lies-minus, lies-nought, lies-plus, lies-32, lies-below, minus-fits, with-minus, with-plus, whole-small, whole_is)
