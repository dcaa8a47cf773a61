-- Lemmas on the rows of Rows: what the theorems of OneRow and the proofs of the code share.
use Prim.Native.Nat.{ℕ, zero, suc, ◌+◌, ◌*◌, ◌-◌, ◌/◌, ◌%◌, ◌≤◌, ◌<◌}
use Rattle.std.proofs.Common.{arith, sym, ◌∙◌, inl, inr, ⊎_elim, leb-true, leb-false, le-leb, ltb-true}
use Rattle.std.specs.Prelude.{◌≡◌, Bool, true, false, not, ◌&&◌, ◌⊎◌, length, drop, get_or, leb, ltb}
use Rattle.std.proofs.Math.Path.{refl, ap}
use mathlib.Core.List.{List, [], ◌∷◌, ◌++◌}
use Rattle.utf8.specs.Utf8.{is_character, encode}
use Rattle.utf8.specs.Rows.{Range, utf8_tail, rows, is_in, matches, row, Matches}
use Rattle.utf8.specs.Rows.Range.{◌to◌}
use Rattle.utf8.specs.Laws.{below_or_not, both_left, both_right, never, Form, top, encode_one, encode-two, encode-three, encode-four}
use Rattle.utf8.specs.Laws.Form.{one, two, three, four}
use Rattle.utf8.specs.Finite.{each_below}
use Rattle.utf8.specs.Splits.{character-below, character-above}
use Rattle.utf8.specs.RowLaws.{Character}

-- ---- a match, byte by byte

pub data Fits : List Range → List ℕ → Type 0 where
  nil : {s : List ℕ} → Fits [] s
  next : {low high b : ℕ} {r : List Range} {s : List ℕ} → low ≤ b → b ≤ high → Fits r s → Fits (low to high ∷ r) (b ∷ s)

fits-matches : {r : List Range} {s : List ℕ} → Fits r s → matches r s ≡ true
unfolding matches is_in
fits-matches nil = refl
fits-matches (next {low} {high} {b} l h f) = rw (le-leb low b l, le-leb b high h, fits-matches f)

pub matches-fits : (r : List Range) (s : List ℕ) → matches r s ≡ true → Fits r s
unfolding matches is_in
matches-fits [] s m = nil
matches-fits (low to high ∷ r) [] m = absurd (never m refl)
matches-fits (low to high ∷ r) (b ∷ s) m =
    let i = both_left (leb low b && leb b high) _ m in
    let f = matches-fits r s (both_right (leb low b && leb b high) _ m) in
    next (leb-true low b (both_left (leb low b) _ i)) (leb-true b high (both_right (leb low b) _ i)) f

-- ---- a character matches a row

-- some row matches the bytes of the character c before s, and is as long as they are
abbrev Row : ℕ → List ℕ → Type 0
Row c s = (k : ℕ) × Matches k (encode c ++ s) × (length (row k) ≡ length (encode c))

in_row : (c k : ℕ) (x s : List ℕ) → encode c ≡ x → ltb k (length rows) ≡ true → Fits (row k) (x ++ s) → length (row k) ≡ length x → Row c s
in_row c k x s e h f l =
    let m : Matches k (encode c ++ s) = record { there = ltb-true k (length rows) h; all = ap (λ (y : List ℕ). matches (row k) (y ++ s)) e ∙ fits-matches f } in
    (k, m, l ∙ ap length (sym e))

-- a character is no surrogate
no_surrogate : (c : ℕ) → is_character c ≡ true → (c < 0xD800) ⊎ (0xDFFF < c)
unfolding is_character
no_surrogate c h = by _ _ refl refl (both_right (leb c 0x10FFFF) _ h)
  where
    by : (p q : Bool) → leb 0xD800 c ≡ p → leb c 0xDFFF ≡ q → not (p && q) ≡ true → (c < 0xD800) ⊎ (0xDFFF < c)
    by true true e f g = absurd (never refl (sym g))
    by true false e f g = inr (leb-false c 0xDFFF f)
    by false q e f g = inl (leb-false 0xD800 c e)

-- a byte 10xxxxxx
tail-fits : (n : ℕ) {r : List Range} {s : List ℕ} → Fits r s → Fits (utf8_tail ∷ r) ((128 + n % 64) ∷ s)
tail-fits n f = next {low = 0x80} {high = 0xBF} {b = 128 + n % 64} (omega arith) (omega arith) f

pub row-of : (c : ℕ) → is_character c ≡ true → (s : List ℕ) → Form c → Row c s
unfolding rows row
row-of c h s (one l e) = in_row c 0 _ s e refl (next (omega arith) (omega arith) nil) refl
row-of c h s (two l k e) = in_row c 1 _ s e refl (next (omega arith) (omega arith) (tail-fits c nil)) refl
row-of c h s (three l k e) =
    ⊎_elim (λ g. in_row c 2 _ s e refl (next (omega arith) (omega arith) (next (omega arith) (omega arith) (tail-fits c nil))) refl)
    (λ g. ⊎_elim (λ g'. in_row c 3 _ s e refl (next (omega arith) (omega arith) (tail-fits (c / 64) (tail-fits c nil))) refl)
    (λ g'. ⊎_elim (λ g''. in_row c 4 _ s e refl (next (omega arith) (omega arith) (next (omega arith) (omega arith) (tail-fits c nil))) refl)
    (λ g''. in_row c 5 _ s e refl (next (omega arith) (omega arith) (tail-fits (c / 64) (tail-fits c nil))) refl)
    (no_surrogate c h))
    (below_or_not c 0xD000))
    (below_or_not c 0x1000)
row-of c h s (four l e) =
    let t = top c h in
    ⊎_elim (λ g. in_row c 6 _ s e refl (next (omega arith) (omega arith) (next (omega arith) (omega arith) (tail-fits (c / 64) (tail-fits c nil)))) refl)
    (λ g. ⊎_elim (λ g'. in_row c 7 _ s e refl (next (omega arith) (omega arith) (tail-fits (c / 4096) (tail-fits (c / 64) (tail-fits c nil)))) refl)
    (λ g'. in_row c 8 _ s e refl (next (omega arith) (omega arith) (next (omega arith) (omega arith) (tail-fits (c / 64) (tail-fits c nil)))) refl)
    (below_or_not c 0x100000))
    (below_or_not c 0x40000)

-- ---- no text matches two rows

-- each row begins with a range of bytes, the first from m on and each of the others above the one before
unfoldable ascending : ℕ → List (List Range) → Bool
ascending m [] = true
ascending m ([] ∷ rs) = false
ascending m ((low to high ∷ r) ∷ rs) = (leb m low && leb low high) && ascending (suc high) rs

ascending-on : (m low high : ℕ) (r : List Range) (rs : List (List Range)) → ascending m ((low to high ∷ r) ∷ rs) ≡ true
    → (m ≤ low) × (low ≤ high) × (ascending (suc high) rs ≡ true)
unfolding ascending
ascending-on m low high r rs a =
    let i = both_left (leb m low && leb low high) _ a in
    (leb-true m low (both_left (leb m low) _ i), leb-true low high (both_right (leb m low) _ i), both_right (leb m low && leb low high) _ a)

-- the row's first range has the byte
pub data Opens (b : ℕ) : List Range → Type 0 where
  opens : {low high : ℕ} {r : List Range} → low ≤ b → b ≤ high → Opens b (low to high ∷ r)

module _ (b : ℕ) where
  at_least : (m : ℕ) (rs : List (List Range)) → ascending m rs ≡ true → (k : ℕ) → k < length rs → Opens b (get_or rs k []) → m ≤ b
  unfolding ascending
  at_least m [] a k h o = absurd (omega arith)
  at_least m ([] ∷ rs) a k h o = absurd (never a refl)
  at_least m ((low to high ∷ r) ∷ rs) a zero h (opens l k) = omega (arith, (ascending-on m low high r rs a).0)
  at_least m ((low to high ∷ r) ∷ rs) a (suc k) h o =
      let (p, q, g) = ascending-on m low high r rs a in
      omega (arith, p, q, at_least (suc high) rs g k (omega arith) o)

  only : (m : ℕ) (rs : List (List Range)) → ascending m rs ≡ true → (j k : ℕ) → j < length rs → k < length rs
      → Opens b (get_or rs j []) → Opens b (get_or rs k []) → j ≡ k
  unfolding ascending
  only m [] a j k hj hk p q = absurd (omega arith)
  only m ([] ∷ rs) a j k hj hk p q = absurd (never a refl)
  only m ((low to high ∷ r) ∷ rs) a zero zero hj hk p q = refl
  only m ((low to high ∷ r) ∷ rs) a zero (suc k) hj hk (opens l h) q =
      absurd (omega (arith, at_least (suc high) rs (ascending-on m low high r rs a).2 k (omega arith) q))
  only m ((low to high ∷ r) ∷ rs) a (suc j) zero hj hk p (opens l h) =
      absurd (omega (arith, at_least (suc high) rs (ascending-on m low high r rs a).2 j (omega arith) p))
  only m ((low to high ∷ r) ∷ rs) a (suc j) (suc k) hj hk p q =
      ap suc (only (suc high) rs (ascending-on m low high r rs a).2 j k (omega arith) (omega arith) p q)

-- a row's first range has the first byte of a text that matches it
fits-opens : {r : List Range} {b : ℕ} {s : List ℕ} → 0 < length r → Fits r (b ∷ s) → Opens b r
fits-opens h nil = absurd (omega arith)
fits-opens h (next l k f) = opens l k

no-empty : (k : ℕ) → k < length rows → 0 < length (row k)
unfolding rows row
no-empty k h = ltb-true 0 _ (each_below (λ k. ltb 0 (length (row k))) 9 k refl h)

pub match-opens : (k b : ℕ) (s : List ℕ) → Matches k (b ∷ s) → Opens b (row k)
match-opens k b s m = fits-opens (no-empty k m.there) (matches-fits (row k) (b ∷ s) m.all)

pub only_row : (k b : ℕ) (s : List ℕ) → k < length rows → Opens b (row k) → (j : ℕ) → Matches j (b ∷ s) → j ≡ k
unfolding rows row ascending
only_row k b s h o j m = only b 0 rows refl j k m.there h (match-opens j b s m) o

pub only-match : (j k : ℕ) (text : List ℕ) → Matches k text → Matches j text → j ≡ k
only-match j k [] m n = by (row k) (no-empty k m.there) (matches-fits (row k) [] m.all)
  where
    by : (r : List Range) → 0 < length r → Fits r [] → j ≡ k
    by _ h nil = absurd (omega arith)
only-match j k (b ∷ s) m n = only_row k b s m.there (match-opens k b s m) j n

-- ---- what matches a row begins with a character

of-bytes : (c : ℕ) (x s : List ℕ) → is_character c ≡ true → encode c ≡ x → Character (length x) (x ++ s)
of-bytes c x s h e = (c, record { character = h; rest = s; bytes = ap (λ (y : List ℕ). y ++ s) (sym e) }, ap length (sym e))

-- the number in the x bits of two, three and four bytes is written as those bytes
two-bits : (p q : ℕ) → 2 ≤ p → p < 32 → q < 64 → encode (p * 64 + q) ≡ (192 + p) ∷ (128 + q) ∷ []
two-bits p q l h hq =
    let e₁ : (p * 64 + q) / 64 ≡ p = omega arith in
    let e₂ : (p * 64 + q) % 64 ≡ q = omega arith in
    encode-two _ (omega arith) (omega arith) ∙ cc (e₁, e₂)

three-bits : (p q r : ℕ) → p < 16 → q < 64 → r < 64 → 32 ≤ p * 64 + q → encode ((p * 64 + q) * 64 + r) ≡ (224 + p) ∷ (128 + q) ∷ (128 + r) ∷ []
three-bits p q r h hq hr l =
    let n = (p * 64 + q) * 64 + r in
    let e₁ : n / 4096 ≡ p = omega arith in
    let e₂ : n / 64 % 64 ≡ q = omega arith in
    let e₃ : n % 64 ≡ r = omega arith in
    encode-three n (omega arith) (omega arith) ∙ cc (e₁, e₂, e₃)

four-bits : (p q r t : ℕ) → q < 64 → r < 64 → t < 64 → 16 ≤ p * 64 + q
    → encode (((p * 64 + q) * 64 + r) * 64 + t) ≡ (240 + p) ∷ (128 + q) ∷ (128 + r) ∷ (128 + t) ∷ []
four-bits p q r t hq hr ht l =
    let n = ((p * 64 + q) * 64 + r) * 64 + t in
    let e₁ : n / 262144 ≡ p = omega arith in
    let e₂ : n / 4096 % 64 ≡ q = omega arith in
    let e₃ : n / 64 % 64 ≡ r = omega arith in
    let e₄ : n % 64 ≡ t = omega arith in
    encode-four n (omega arith) ∙ cc (e₁, e₂, e₃, e₄)

-- the rows by their length: what the limits have to keep
one-row-is : (text : List ℕ) → Fits (0x00 to 0x7F ∷ []) text → Character 1 text
one-row-is _ (next {b = a} {s = s} l h f) = of-bytes a (a ∷ []) s (character-below a (omega arith)) (encode_one a (omega arith))

two-row-is : (text : List ℕ) → Fits (0xC2 to 0xDF ∷ utf8_tail ∷ []) text → Character 2 text
two-row-is _ (next {b = a} la ha (next {b = b} {s = s} lb hb f)) =
    let e₁ : 192 + (a - 192) ≡ a = omega arith in
    let e₂ : 128 + (b - 128) ≡ b = omega arith in
    of-bytes ((a - 192) * 64 + (b - 128)) (a ∷ b ∷ []) s (character-below _ (omega arith))
    (two-bits (a - 192) (b - 128) (omega arith) (omega arith) (omega arith) ∙ cc (e₁, e₂))

module _ (a₀ a₁ b₀ b₁ : ℕ) (lb : 0x80 ≤ b₀) (hb : b₁ ≤ 0xBF) where
  three-row-is : 0xE0 ≤ a₀ → a₁ ≤ 0xEF → 0xE0 * 64 + 0xA0 ≤ a₀ * 64 + b₀ → (a₁ * 64 + b₁ < 0xED * 64 + 0xA0) ⊎ (0xEE * 64 + 0x80 ≤ a₀ * 64 + b₀)
      → (text : List ℕ) → Fits (a₀ to a₁ ∷ b₀ to b₁ ∷ utf8_tail ∷ []) text → Character 3 text
  three-row-is la ha l g _ (next {b = a} l₁ h₁ (next {b = b} l₂ h₂ (next {b = c} {s = s} l₃ h₃ f))) =
      let e₁ : 224 + (a - 224) ≡ a = omega arith in
      let e₂ : 128 + (b - 128) ≡ b = omega arith in
      let e₃ : 128 + (c - 128) ≡ c = omega arith in
      of-bytes (((a - 224) * 64 + (b - 128)) * 64 + (c - 128)) (a ∷ b ∷ c ∷ []) s
      (⊎_elim (λ p. character-below _ (omega arith)) (λ p. character-above _ (omega arith) (omega arith)) g)
      (three-bits (a - 224) (b - 128) (c - 128) (omega arith) (omega arith) (omega arith) (omega arith) ∙ cc (e₁, e₂, e₃))

  four-row-is : 0xF0 ≤ a₀ → 0xF0 * 64 + 0x90 ≤ a₀ * 64 + b₀ → a₁ * 64 + b₁ < 0xF4 * 64 + 0x90
      → (text : List ℕ) → Fits (a₀ to a₁ ∷ b₀ to b₁ ∷ utf8_tail ∷ utf8_tail ∷ []) text → Character 4 text
  four-row-is la l h _ (next {b = a} l₁ h₁ (next {b = b} l₂ h₂ (next {b = c} l₃ h₃ (next {b = d} {s = s} l₄ h₄ f)))) =
      let e₁ : 240 + (a - 240) ≡ a = omega arith in
      let e₂ : 128 + (b - 128) ≡ b = omega arith in
      let e₃ : 128 + (c - 128) ≡ c = omega arith in
      let e₄ : 128 + (d - 128) ≡ d = omega arith in
      of-bytes ((((a - 240) * 64 + (b - 128)) * 64 + (c - 128)) * 64 + (d - 128)) (a ∷ b ∷ c ∷ d ∷ []) s (character-above _ (omega arith) (omega arith))
      (four-bits (a - 240) (b - 128) (c - 128) (d - 128) (omega arith) (omega arith) (omega arith) (omega arith) ∙ cc (e₁, e₂, e₃, e₄))

-- each row is a character's
Are : List (List Range) → Type 0
Are [] = Unit
Are (r ∷ rs) = ((text : List ℕ) → Fits r text → Character (length r) text) × Are rs

fours : Are (drop 6 rows)
unfolding rows Are
fours = (
  four-row-is _ _ _ _ (omega arith) (omega arith) (omega arith) (omega arith) (omega arith),
  (
    four-row-is _ _ _ _ (omega arith) (omega arith) (omega arith) (omega arith) (omega arith),
    (four-row-is _ _ _ _ (omega arith) (omega arith) (omega arith) (omega arith) (omega arith), tt),
  ),
)

threes : Are (drop 2 rows)
unfolding rows Are
threes = (
  three-row-is _ _ _ _ (omega arith) (omega arith) (omega arith) (omega arith) (omega arith) (inl (omega arith)),
  (
    three-row-is _ _ _ _ (omega arith) (omega arith) (omega arith) (omega arith) (omega arith) (inl (omega arith)),
    (
      three-row-is _ _ _ _ (omega arith) (omega arith) (omega arith) (omega arith) (omega arith) (inl (omega arith)),
      (three-row-is _ _ _ _ (omega arith) (omega arith) (omega arith) (omega arith) (omega arith) (inr (omega arith)), fours),
    ),
  ),
)

each : (rs : List (List Range)) → Are rs → (k : ℕ) → k < length rs → (text : List ℕ) → Fits (get_or rs k []) text → Character (length (get_or rs k [])) text
unfolding Are
each [] e k h = absurd (omega arith)
each (r ∷ rs) e zero h = e.0
each (r ∷ rs) e (suc k) h = each rs e.1 k (omega arith)

pub row_is : (k : ℕ) → k < length rows → (text : List ℕ) → Fits (row k) text → Character (length (row k)) text
unfolding rows row Are
row_is k h = each rows (one-row-is, (two-row-is, threes)) k h
