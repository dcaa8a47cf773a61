-- Bytes one at a time: what the code's tests of a byte say, and what one byte more does to the definitions.
use Rattle.std.proofs.Common.{ℕ, ◌+◌, ◌-◌, ◌*◌, ◌^◌, ◌≤◌, ◌<◌, min, Bool, true, false, cond, not, ◌&&◌, ◌||◌, Some, None, List, [], ◌∷◌, ◌++◌, length, get_or, take, drop, drop-cons, drop_of_length-le, add-one, arith, refl, sym, ap, ◌∙◌, ◌≡◌, leb, leb-true, eqb, leb-false, le-leb, inl, inr, ◌⊎◌, ne_eqb}
use Rattle.std.proofs.lemmas.Bool.{lt-leb}
use Rattle.std.proofs.lemmas.List.{drop-take}
use Rattle.std.proofs.Math.Seq.{slice}
use Rattle.std.specs.List.{list_all}
use mir.Val.{bool_byte}
use Rattle.utf8.specs.Ascii.{is_digit}
use Rattle.numerals.specs.Numerals.{is_point, is_letter, is_integer, digits, natural, negative}
use Rattle.numerals.specs.Reading.{saturated}

-- ---- the kinds of byte

pub or-true : (p : Bool) → p || true ≡ true
or-true true = refl
or-true false = refl

module _ (b : ℕ) where
  pub a-letter : (b ≡ 69) ⊎ (b ≡ 101) → true ≡ is_letter b
  unfolding is_letter
  a-letter (inl e) = rw e
  a-letter (inr e) = rw e

  pub no-letter : ((b ≡ 69) ⊎ (b ≡ 101) → ⊥) → false ≡ is_letter b
  unfolding is_letter
  no-letter h = rw (ne_eqb b 69 (λ e. h (inl e)), ne_eqb b 101 (λ e. h (inr e)))

module _ (b : ℕ) where
  pub is-digit : 48 ≤ b → b < 58 → true ≡ is_digit b
  unfolding is_digit
  is-digit l h = rw (le-leb 48 b l, le-leb b 57 (omega arith))

  pub under-digit : b < 48 → false ≡ is_digit b
  unfolding is_digit
  under-digit l = rw (lt-leb 48 b l)

-- a flag as a number
pub flag-value : (t : Bool) → bool_byte t ≡ cond t 1 0
flag-value true = refl
flag-value false = refl

-- a byte by the answer of `digit`
pub digit-value : (b d : ℕ) (y : Bool) → Some d ≡ cond y (Some (b - 48)) None → (true ≡ y) × (d ≡ b - 48)
digit-value b d true e = (refl, cc)
digit-value b d false e = cc

pub digit-none : (b : ℕ) (y : Bool) → None ≡ cond y (Some (b - 48)) None → false ≡ y
digit-none b true e = cc
digit-none b false e = refl

-- ---- a part of a text

pub slice-of : (text : List ℕ) (at end : ℕ) → at ≤ end → take (end - at) (drop at text) ≡ slice at end text
slice-of text at end h = let e : at + (end - at) ≡ end = omega arith in sym (drop-take at (end - at) text) ∙ ap (λ n. drop at (take n text)) e

pub drop-next : (raw : List ℕ) (i : ℕ) → i < length raw → drop i raw ≡ get_or raw i 0 ∷ drop (i + 1) raw
drop-next raw i h = rw (drop-cons raw i 0 h, add-one i)

-- ---- all bytes

neither : (p q : Bool) → (not p && not q) ≡ not (p || q)
neither true q = refl
neither false q = refl

pub all-plain : (raw : List ℕ) → list_all (λ b. not (eqb b 46) && not (is_letter b)) raw ≡ is_integer raw
unfolding is_integer is_point
all-plain [] = refl
all-plain (b ∷ s) = rw (neither (eqb b 46) (is_letter b), all-plain s)

module _ (b : ℕ) (s : List ℕ) where
  pub digits_more : true ≡ is_digit b → digits (b ∷ s) ≡ (b - 48) ∷ digits s
  unfolding digits
  digits_more e = ap (λ t. cond t ((b - 48) ∷ []) [] ++ digits s) (sym e)

  pub digits_same : false ≡ is_digit b → digits (b ∷ s) ≡ digits s
  unfolding digits
  digits_same e = ap (λ t. cond t ((b - 48) ∷ []) [] ++ digits s) (sym e)

-- ---- a sign

module _ (raw : List ℕ) where
  pub sign-there : get_or raw 0 0 ≡ 45 → true ≡ negative raw
  unfolding negative
  sign-there e = rw e

  pub sign-other : (get_or raw 0 0 ≡ 45 → ⊥) → false ≡ negative raw
  unfolding negative
  sign-other n = rw (ne_eqb (get_or raw 0 0) 45 n)

pub sign-empty : (raw : List ℕ) → length raw < 1 → false ≡ negative raw
unfolding negative
sign-empty [] h = refl
sign-empty (b ∷ s) h = absurd (omega arith)

-- ---- a number

natural-low : (n : ℕ) (ds : List ℕ) → n ≤ natural n ds
unfolding natural
natural-low n [] = omega arith
natural-low n (d ∷ ds) = let h = natural-low (n * 10 + d) ds in omega arith

-- a number so far may stop at m
natural-stops : (n m : ℕ) (ds : List ℕ) → min (natural (min n m) ds) m ≡ min (natural n ds) m
natural-stops n m ds = by (leb n m) refl
  where
    by : (y : Bool) → leb n m ≡ y → min (natural (min n m) ds) m ≡ min (natural n ds) m
    by true e = let h : min n m ≡ n = omega (arith, leb-true n m e) in rw h refl
    by false e = omega (arith, natural-low (min n m) ds, natural-low n ds, leb-false n m e)

-- the digits before i write n, or a number that is greater, if n is 2^64 - 1
pub record Counts (raw : List ℕ) (n i : ℕ) : Type 0 where
  pub fits : n < 2 ^ 64
  pub same : min (natural n (digits (drop i raw))) (2 ^ 64 - 1) ≡ saturated raw

pub counts_start : (raw : List ℕ) → Counts raw 0 0
unfolding saturated natural digits
counts_start raw = record { fits = omega arith; same = refl }

module _ {raw : List ℕ} {n i : ℕ} (p : Counts raw n i) where
  pub counts_end : length raw ≤ i → n ≡ saturated raw
  unfolding natural digits
  counts_end h =
      let e : natural n (digits (drop i raw)) ≡ n = rw (drop_of_length-le raw h) refl in
      omega (arith, p.fits, p.same)

  pub counts-full : n ≡ 2 ^ 64 - 1 → n ≡ saturated raw
  counts-full e = omega (arith, e, natural-low n (digits (drop i raw)), p.same)

  module _ (h : i < length raw) where
    pub counts-same : {k : ℕ} → false ≡ is_digit (get_or raw i 0) → k ≡ n → Counts raw k (i + 1)
    counts-same e q =
        record {
          fits = omega (arith, p.fits);
          same =
              ap (λ t. min (natural t (digits (drop (i + 1) raw))) (2 ^ 64 - 1)) q
              ∙ sym (ap (λ t. min (natural n t) (2 ^ 64 - 1)) (ap digits (drop-next raw i h) ∙ digits_same _ _ e))
              ∙ p.same;
        }

    pub counts-more : {d k : ℕ} → true ≡ is_digit (get_or raw i 0) → d ≡ get_or raw i 0 - 48 → k ≡ min (n * 10 + d) (2 ^ 64 - 1) → Counts raw k (i + 1)
    unfolding natural
    counts-more {d} {k} e q m =
        record {
          fits = omega arith;
          same =
              ap (λ t. min (natural t (digits (drop (i + 1) raw))) (2 ^ 64 - 1)) m
              ∙ natural-stops (n * 10 + d) (2 ^ 64 - 1) (digits (drop (i + 1) raw))
              ∙ ap (λ t. min (natural (n * 10 + t) (digits (drop (i + 1) raw))) (2 ^ 64 - 1)) q
              ∙ sym (ap (λ t. min (natural n t) (2 ^ 64 - 1)) (ap digits (drop-next raw i h) ∙ digits_more _ _ e))
              ∙ p.same;
        }
