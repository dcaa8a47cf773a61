-- The digits of a mantissa, one byte at a time.
use Prim.Native.Nat.{ℕ, zero, suc, ◌+◌, ◌-◌, ◌*◌, ◌^◌, ◌≤◌, ◌<◌, min}
use native.Mathlib.Omega.{arith}
use native.Mathlib.Nat.{mul_assoc, mul-one, le-mul_of_pos_right, pow-le-pow_right}
use mathlib.Core.Path.{◌≡◌, refl, sym, ap, ◌∙◌}
use mathlib.Core.Bool.{Bool, true, false, cond, ◌||◌}
use mathlib.Core.List.{List, [], ◌∷◌}
use lib.ListN.{length, get_or}
use Rattle.std.proofs.Common.{Some, None, drop, drop_of_length-le, mul-le-mul_left, pow-add, rules}
use borrow.Author.Tests.{eq-eqb, ne_eqb}
use Rattle.utf8.specs.Ascii.{is_digit}
use Rattle.numerals.specs.Numerals.{is_point, is_letter, before, after, mantissa}
use Rattle.numerals.proofs.Laws.{digit-high, before-no, before-yes, after-no, after-yes}
use Rattle.numerals.specs.Reading.{digit, taken, sums, nothing, capped, Room, Reads}
use Rattle.numerals.specs.declared.Sum.{Sum}
use Rattle.numerals.proofs.Bytes.{or-true, under-digit, drop-next}

-- ---- m, some zeros and a digit

ten-pos : (k : ℕ) → 0 < 10 ^ k
ten-pos k = let h : 0 < 10 = omega arith in let l : 0 ≤ k = omega arith in pow-le-pow_right h l

-- n is m with j of its zeros
pub record Raised (m n j : ℕ) : Type 0 where
  pub same : n ≡ m * 10 ^ j
  pub high : n < 10 ^ 16

pub raised-start : (m : ℕ) → m < 10 ^ 15 → Raised m m 0
raised-start m h = record { same = sym (mul-one m); high = omega arith }

module _ {m n j : ℕ} (p : Raised m n j) where
  pub raised-more : n < 10 ^ 15 → Raised m (n * 10) (j + 1)
  raised-more l =
      record {
        same = ap (λ t. t * 10) p.same ∙ mul_assoc m (10 ^ j) 10 ∙ ap (λ t. m * t) (sym (pow-add 10 j 1));
        high = omega arith;
      }

  module _ (zeros d : ℕ) where
    pub raised-large : j ≤ zeros + 1 → 10 ^ 15 ≤ n → 10 ^ 15 ≡ min (m * 10 ^ (zeros + 1) + d) (10 ^ 15)
    raised-large l h = let w = mul-le-mul_left m (pow-le-pow_right {n = 10} (omega arith) l) in omega (arith, p.same)

    pub raised-end : j ≤ zeros + 1 → zeros + 1 ≤ j → min (10 ^ 15) (n + d) ≡ min (m * 10 ^ (zeros + 1) + d) (10 ^ 15)
    raised-end l h = let e : j ≡ zeros + 1 = omega arith in let q : n ≡ m * 10 ^ (zeros + 1) = p.same ∙ ap (λ t. m * 10 ^ t) e in omega arith

-- ---- one byte more

-- a byte that is no digit
abbrev pub other : Sum → ℕ → Sum
other s b = record { m = s.m; zeros = s.zeros; places = s.places; point = s.point || is_point b }

module _ (s : Sum) (b : ℕ) where
  pub taken_yes : true ≡ is_digit b → taken s b ≡ digit s (b - 48)
  unfolding taken
  taken_yes e = ap (λ t. cond t (digit s (b - 48)) (other s b)) (sym e)

  pub taken-no : false ≡ is_digit b → taken s b ≡ other s b
  unfolding taken
  taken-no e = ap (λ t. cond t (digit s (b - 48)) (other s b)) (sym e)

or-false : (p : Bool) → p ≡ p || false
or-false true = refl
or-false false = refl

same_sum : (a b : Sum) → a.m ≡ b.m → a.zeros ≡ b.zeros → a.places ≡ b.places → a.point ≡ b.point → a ≡ b
same_sum a b x y z w = λ i. record { m = x i; zeros = y i; places = z i; point = w i }

module _ {s : Sum} (b : ℕ) (h : Room s) where
  small-m : s.m ≡ min s.m (10 ^ 15)
  small-m = let l = h.m in omega arith

  pub take-point : b ≡ 46 → record { m = s.m; zeros = s.zeros; places = s.places; point = true } ≡ capped (taken s b)
  unfolding capped is_point
  take-point e =
      same_sum _ (capped (other s b)) small-m refl refl (sym (or-true s.point) ∙ ap (λ t. s.point || t) (sym (eq-eqb b 46 e)))
      ∙ sym (ap capped (taken-no s b (under-digit b (omega arith))))

  pub take-other : (b ≡ 46 → ⊥) → false ≡ is_digit b → s ≡ capped (taken s b)
  unfolding capped is_point
  take-other n e =
      same_sum s (capped (other s b)) small-m refl refl (or-false s.point ∙ ap (λ t. s.point || t) (sym (ne_eqb b 46 n)))
      ∙ sym (ap capped (taken-no s b e))

  pub take-zero : {places : ℕ} → true ≡ is_digit b → 0 ≡ b - 48 → places ≡ s.places + cond s.point 1 0 → record { m = s.m; zeros = s.zeros + 1; places = places; point = s.point } ≡ capped (taken s b)
  unfolding capped digit
  take-zero e z q = same_sum _ (capped (digit s 0)) small-m refl q refl ∙ ap (λ t. capped (digit s t)) z ∙ sym (ap capped (taken_yes s b e))

  pub take-digit : {places m v : ℕ} → (v ≡ 0 → ⊥) → true ≡ is_digit b → v ≡ b - 48 → places ≡ s.places + cond s.point 1 0
      → m ≡ min (s.m * 10 ^ (s.zeros + 1) + v) (10 ^ 15) → record { m = m; zeros = 0; places = places; point = s.point } ≡ capped (taken s b)
  unfolding capped digit
  take-digit n e v q w =
      let z : b - 48 ≡ suc (b - 49) = omega arith in
      same_sum _ (capped (digit s (suc (b - 49)))) (w ∙ ap (λ t. min (s.m * 10 ^ (s.zeros + 1) + t) (10 ^ 15)) (v ∙ z)) refl q refl
      ∙ ap (λ t. capped (digit s t)) (sym z)
      ∙ sym (ap capped (taken_yes s b e))

pub value-small : (b v : ℕ) → true ≡ is_digit b → v ≡ b - 48 → v < 10
value-small b v e q = omega (arith, digit-high b e)

-- ---- what a byte more does to m and to the counts

-- t is s with one byte more
abbrev Grows : Sum → Sum → Type 0
Grows s t = (s.m ≤ t.m) × (t.zeros ≤ s.zeros + 1) × (t.places ≤ s.places + 1)

counts : (n : ℕ) (t : Bool) → n + cond t 1 0 ≤ n + 1
counts n true = omega arith
counts n false = omega arith

digit-grows : (s : Sum) (d : ℕ) → Grows s (digit s d)
unfolding digit
digit-grows s zero = (omega arith, omega arith, counts s.places s.point)
digit-grows s (suc d) = (let h = le-mul_of_pos_right s.m (ten-pos (s.zeros + 1)) in omega arith, omega arith, counts s.places s.point)

grows : (s : Sum) (b : ℕ) → Grows s (taken s b)
unfolding taken
grows s b = by-test (is_digit b)
  where
    by-test : (y : Bool) → Grows s (cond y (digit s (b - 48)) (other s b))
    by-test true = digit-grows s (b - 48)
    by-test false = (omega arith, omega arith, omega arith)

sums-grow : (s : Sum) (l : List ℕ) → s.m ≤ (sums s l).m
unfolding sums
sums-grow s [] = omega arith
sums-grow s (b ∷ l) = let h = (grows s b).0 in let k = sums-grow (taken s b) l in omega arith

-- ---- the loop

-- the bytes before i, of which none is the letter, give s
pub record Inside (raw : List ℕ) (s : Sum) (i : ℕ) : Type 0 where
  pub sum : sums s (mantissa (drop i raw)) ≡ sums nothing (mantissa raw)
  pub rest : after is_letter (drop i raw) ≡ after is_letter raw
  pub m : s.m < 10 ^ 15
  pub zeros : s.zeros ≤ i
  pub places : s.places ≤ i

pub inside-start : (raw : List ℕ) → Inside raw nothing 0
inside-start raw = record { sum = refl; rest = refl; m = omega arith; zeros = omega arith; places = omega arith }

module _ {raw : List ℕ} {s : Sum} {i : ℕ} (p : Inside raw s i) (f : length raw * 1 < 2 ^ 63) (k : i ≤ length raw) where
  pub inside-room : Room s
  inside-room = record { m = p.m; zeros = omega (arith, p.zeros); places = omega (arith, p.places) }

  pub inside-end : length raw ≤ i → Reads raw (Some (s, length raw))
  unfolding Reads sums mantissa before after
  inside-end h =
      let o = drop_of_length-le raw h in
      record {
        sum = ap (λ l. sums s (before is_letter l)) (sym o) ∙ p.sum;
        room = inside-room;
        high = omega arith;
        rest = drop_of_length-le raw (omega arith) ∙ ap (after is_letter) (sym o) ∙ p.rest;
      }

  module _ (h : i < length raw) where
    pub inside-letter : true ≡ is_letter (get_or raw i 0) → Reads raw (Some (s, i + 1))
    unfolding Reads sums mantissa
    inside-letter e =
        let o = drop-next raw i h in
        record {
          sum = ap (sums s) (sym (ap (before is_letter) o ∙ before-yes is_letter (get_or raw i 0) (drop (i + 1) raw) (sym e))) ∙ p.sum;
          room = inside-room;
          high = omega arith;
          rest = sym (ap (after is_letter) o ∙ after-yes is_letter (get_or raw i 0) (drop (i + 1) raw) (sym e)) ∙ p.rest;
        }

    module _ (e : false ≡ is_letter (get_or raw i 0)) {t : Sum} (q : t ≡ capped (taken s (get_or raw i 0))) where
      on : sums (taken s (get_or raw i 0)) (mantissa (drop (i + 1) raw)) ≡ sums nothing (mantissa raw)
      unfolding sums mantissa
      on = sym (ap (λ l. sums s (before is_letter l)) (drop-next raw i h) ∙ ap (sums s) (before-no is_letter (get_or raw i 0) (drop (i + 1) raw) (sym e))) ∙ p.sum

      pub inside-large : 10 ^ 15 ≤ t.m → Reads raw None
      unfolding Reads capped
      inside-large l =
          let w = ap (λ r. r.m) q in
          let v = sums-grow (taken s (get_or raw i 0)) (mantissa (drop (i + 1) raw)) in
          let z = ap (λ r. r.m) on in
          omega arith

      pub inside-more : t.m < 10 ^ 15 → Inside raw t (i + 1)
      unfolding capped
      inside-more l =
          let w = ap (λ r. r.m) q in
          let g = grows s (get_or raw i 0) in
          let t-is : t ≡ taken s (get_or raw i 0) = q ∙ same_sum (capped (taken s (get_or raw i 0))) (taken s (get_or raw i 0)) (omega arith) refl refl refl in
          let y = ap (λ r. r.zeros) t-is in
          let z = ap (λ r. r.places) t-is in
          record {
            sum = ap (λ r. sums r (mantissa (drop (i + 1) raw))) t-is ∙ on;
            rest = sym (ap (after is_letter) (drop-next raw i h) ∙ after-no is_letter (get_or raw i 0) (drop (i + 1) raw) (sym e)) ∙ p.rest;
            m = l;
            zeros = omega (arith, p.zeros);
            places = omega (arith, p.places);
          }

pub ruleset digital = (
  rules,
  raised-start,
  raised-more,
  raised-large,
  raised-end,
  inside-room,
  inside-start,
  inside-end,
  inside-letter,
  inside-large,
  inside-more,
)
