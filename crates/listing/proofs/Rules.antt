-- What the functions of the crate leave: bytes copied, a number's digits, a line.
use mathlib.Core.Path.{◌≡◌, refl, sym, ap, ◌∙◌}
use mathlib.Core.Bool.{Bool, true, false}
use mathlib.Core.List.{List, [], ◌∷◌, ◌++◌, append_assoc}
use Prim.Native.Nat.{ℕ, zero, suc, ◌+◌, ◌*◌, ◌-◌, ◌/◌, ◌%◌, ◌^◌, ◌≤◌, ◌<◌}
use native.Mathlib.Omega.{arith}
use native.Mathlib.Numerals.{add-one}
use native.Mathlib.Nat.{pow-suc, one-le-pow, pow-le-pow_right, zero-add}
use lib.ListN.{length, take, drop, get_or, length-append}
use lib.Dec.{leb}
use lib.Seq.{sets, take-length, length-take-le, length-sets, sets-eq}
use borrow.Rule.Slice.PartMut.{put_mid}
use Rattle.std.proofs.lemmas.Slice.{put_mid-paste}
use Rattle.std.specs.Prelude.{Result, Ok, Err}
use borrow.Author.Rules.{rules}
use borrow.Author.Tests.{lt-ltb, le-ltb, leb-true, leb-false}
use Rattle.io.specs.Counts.{IsPrefixLen}
use Rattle.io.specs.Digits.{hex_digit_ascii, last_digits, IsDigitCount}
use Rattle.sheets.specs.Laid.{answer, laid, refused}
use Rattle.refusals.specs.Refusals.{rule_number}
use Rattle.refusals.specs.declared.Refusal.{Refusal}
use Rattle.laying.specs.declared.Laid.{Laid}
use Rattle.laying.specs.Laying.{answered}
use Rattle.writer.specs.Writes.{Writes, Skips}
use Rattle.writer.specs.Laws.{then, as_bytes}
use Rattle.listing.specs.Line.{spelled, decimal_digits, line_of}
use Rattle.listing.specs.Says.{Spells, Phrases, Lists}

-- ---- bytes

-- if they fit
put-end : {n at end : ℕ} (d : List ℕ) → Skips n at end → end ≤ length d → length d * 1 < 2 ^ 63 → end ≡ at + n
put-end d s h l = omega (arith, s.ends)

pub put_all : (ws d : List ℕ) {ys : List ℕ} {at end : ℕ} → Skips (length ws) at end → end ≤ length d → length d * 1 < 2 ^ 63 → ys ≡ ws → Writes ws d (put_mid at (end - at) d ys) at end
put_all ws d {ys} {at} {end} s h l q =
    let e : end ≡ at + length ws = put-end d s h l in
    let w : put_mid at (end - at) d ys ≡ sets d at ws =
    put_mid-paste at (end - at) d ys ws (length ws) q (omega arith) refl ∙ rw (take-length ws) (sym (sets-eq ws d at (omega arith))) in
    record {
      ends = rw e refl;
      onward = omega arith;
      room = ap length w ∙ length-sets d at ws;
      wrote = λ fits low. w;
    }

-- ---- digits

glyph-low : (n : ℕ) → hex_digit_ascii (n % 10) ≡ 48 + n % 10
glyph-low n = rw (lt-ltb (n % 10) 10 (omega arith))

spelled-low : (more n : ℕ) → n < 10 → spelled more n ≡ (48 + n % 10) ∷ []
unfolding spelled
spelled-low zero n h = refl
spelled-low (suc more) n h =
    let e : n % 10 ≡ n = omega arith in
    ap (λ t. elim t [ true ↦ (48 + n) ∷ [] | false ↦ spelled more (n / 10) ++ ((48 + n % 10) ∷ []) ]) (lt-ltb n 10 h) ∙ ap (λ k. (48 + k) ∷ []) (sym e)

spelled-high : (more n : ℕ) → 10 ≤ n → spelled (suc more) n ≡ spelled more (n / 10) ++ ((48 + n % 10) ∷ [])
unfolding spelled
spelled-high more n h = ap (λ t. elim t [ true ↦ (48 + n) ∷ [] | false ↦ spelled more (n / 10) ++ ((48 + n % 10) ∷ []) ]) (le-ltb n 10 h)

-- a number of two digits or more
fewest-least : (n k : ℕ) → IsDigitCount 10 1 n (suc (suc k)) → 10 ^ suc k ≤ n
fewest-least n k f = let e : suc (suc k) - 1 ≡ suc k = omega arith in rw e at (f.2 (omega arith))

-- and without its last digit
fewest-tens : (n k : ℕ) → IsDigitCount 10 1 n (suc (suc k)) → IsDigitCount 10 1 (n / 10) (suc k)
fewest-tens n k f =
    let e : suc k - 1 ≡ k = omega arith in
    let least = fewest-least n k f in
    let tens = pow-suc 10 (suc k) in
    let ones = pow-suc 10 k in
    (omega arith, omega (arith, f.1), λ l. rw e (omega arith))

-- the fewest digits are those that are spelled
spelled-digits : (more k n : ℕ) → n ≤ more → IsDigitCount 10 1 n k → last_digits 10 k n ≡ spelled more n
spelled-digits more zero n m f = absurd (omega (arith, f.0))
spelled-digits more (suc zero) n m f = rw (glyph-low n) (sym (spelled-low more n (omega (arith, f.1))))
spelled-digits zero (suc (suc k)) n m f = absurd (omega (arith, fewest-least n k f, one-le-pow (suc k) 10 (omega arith)))
spelled-digits (suc more) (suc (suc k)) n m f =
    let high : 10 ≤ n = omega (arith, fewest-least n k f, pow-suc 10 k, one-le-pow k 10 (omega arith)) in
    rw (glyph-low n, spelled-high more n high) (ap (λ l. l ++ ((48 + n % 10) ∷ [])) (spelled-digits more (suc k) (n / 10) (omega arith) (fewest-tens n k f)))

-- 64 bits have 20 digits at most
fewest-20 : (n k : ℕ) → n < 2 ^ 64 → IsDigitCount 10 1 n k → k ≤ 20
fewest-20 n k h f = by-test (leb k 20) refl
  where
    by-test : (y : Bool) → leb k 20 ≡ y → k ≤ 20
    by-test true e = leb-true k 20 e
    by-test false e =
        let more : 20 < k = leb-false k 20 e in
        absurd (omega (arith, f.2 (omega arith), pow-le-pow_right {n = 10} (omega arith) {i = 20} {j = k - 1} (omega arith)))

pub spell : (n k : ℕ) (ds : List ℕ) {d₀ d : List ℕ} {at r : ℕ} → n < 2 ^ 64 → IsPrefixLen k ds → IsDigitCount 10 1 n k → take k ds ≡ last_digits 10 k n → Writes (take k ds) d₀ d at r → Spells n d₀ d at r
unfolding decimal_digits
spell n k ds l h f e w =
    let q : take k ds ≡ decimal_digits n = e ∙ spelled-digits n k n (omega arith) f in
    record { writes = rw q at w; short = rw (← q) (omega (arith, h.1, fewest-20 n k l f)) }

-- ---- lines

-- a number after some words
pub phrase-of : {ws d₀ d₁ d : List ℕ} {n to q r : ℕ} → Writes ws d₀ d₁ to q → Spells n d₁ d q r → Phrases ws n d₀ d to r
phrase-of f g = record { writes = then f g.writes; short = g.short }

-- after what was written from the start on
then-phrase : {ws b d₀ d₁ d : List ℕ} {n p q : ℕ} → Writes ws d₀ d₁ 0 p → Phrases b n d₁ d p q → Writes (ws ++ b ++ decimal_digits n) d₀ d 0 q
then-phrase {ws} {b} {n = n} f g = as_bytes (sym (append_assoc ws b (decimal_digits n))) (then f g.writes)

-- a line that is short enough for the room
line-of : {ws d₀ d₁ d : List ℕ} {q r : ℕ} → length ws < 80 → length d₀ ≡ 80 → Writes ws d₀ d₁ 0 q → Writes (10 ∷ []) d₁ d q r → Lists (ws ++ (10 ∷ [])) d₀ d r
line-of {ws} {d₀} {r = r} fit room f h =
    let line : List ℕ = ws ++ (10 ∷ []) in
    let all = then f h in
    let size : length line ≡ length ws + 1 = length-append ws (10 ∷ []) in
    let ends : r ≡ length line = omega (arith, all.ends) in
    record {
      size = ends;
      bytes = all.wrote (omega arith) (omega arith) ∙ sets-eq line d₀ 0 (omega arith) ∙ rw (zero-add, ends) refl;
      within = omega (arith, all.room);
    }

module _ {a b : List ℕ} {m n : ℕ} {d₀ d₁ d₂ : List ℕ} {p q : ℕ} where
  -- of two phrases
  pub two-phrases : {d : List ℕ} {r : ℕ} → length a + length b < 40 → length d₀ ≡ 80 → Phrases a m d₀ d₁ 0 p → Phrases b n d₁ d₂ p q → Writes (10 ∷ []) d₂ d q r
      → Lists (a ++ decimal_digits m ++ b ++ decimal_digits n ++ (10 ∷ [])) d₀ d r
  two-phrases fit room f g h =
      let ws : List ℕ = a ++ decimal_digits m ++ b ++ decimal_digits n in
      let size : length ws ≡ length a + length (decimal_digits m) + length b + length (decimal_digits n) = simp length-append in
      line-of (omega (arith, f.short, g.short)) room (then-phrase f.writes g) h

  -- of three
  pub three-phrases : {c d₃ d : List ℕ} {o r s : ℕ} → length a + length b + length c < 20 → length d₀ ≡ 80 → Phrases a m d₀ d₁ 0 p → Phrases b n d₁ d₂ p q
      → Phrases c o d₂ d₃ q s → Writes (10 ∷ []) d₃ d s r → Lists (a ++ decimal_digits m ++ b ++ decimal_digits n ++ c ++ decimal_digits o ++ (10 ∷ [])) d₀ d r
  three-phrases {c} {o = o} fit room f g k h =
      let ws : List ℕ = a ++ decimal_digits m ++ b ++ decimal_digits n ++ c ++ decimal_digits o in
      let size : length ws ≡ length a + length (decimal_digits m) + length b + length (decimal_digits n) + length c + length (decimal_digits o) = simp length-append in
      line-of (omega (arith, f.short, g.short, k.short)) room (then-phrase (then-phrase f.writes g) k) h

-- ---- answers

module _ {a : Result Laid Refusal} {d₀ d : List ℕ} {r : ℕ} where
  pub line-laid : {w : Laid} → a ≡ Ok w → Lists (line_of (laid w.length w.objects)) d₀ d r → Lists (line_of (answered a)) d₀ d r
  unfolding answered
  line-laid e l = rw e l

  pub line_refused : {f : Refusal} {k : ℕ} → a ≡ Err f → k ≡ rule_number f.rule → Lists (line_of (refused k f.place f.end)) d₀ d r → Lists (line_of (answered a)) d₀ d r
  unfolding answered
  line_refused e q l = rw (e, ← q) l

-- the line, and what `Counts` says of its length
pub listed : (x : List ℕ) (a : Result Laid Refusal) {d₀ d : List ℕ} {r : ℕ} → answered a ≡ answer x 65536 → Lists (line_of (answered a)) d₀ d r
    → (r ≡ length (line_of (answer x 65536))) × ((d ≡ line_of (answer x 65536) ++ drop r d₀) × IsPrefixLen r d)
listed x a {d₀} {d} {r} e l =
    let m = rw e at l in
    (m.size, (m.bytes, (m.within, sym (length-take-le r d m.within))))

pub ruleset lists = (rules, spell, phrase-of, two-phrases, three-phrases, line-laid, line_refused)
