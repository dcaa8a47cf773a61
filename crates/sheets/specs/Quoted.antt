-- Every string and every name of a text stands in it between two quotes, and the bytes between them are as the grammar says.
use Rattle.std.specs.Prelude.{ℕ, ◌+◌, ◌-◌, ◌≤◌, ◌<◌, ◌≡◌, Bool, true, not, ◌||◌, ◌⊎◌, length, ltb}
use Rattle.std.proofs.Common.{arith, sym, ap, inl, inr, ltb-true, le-leb, ne_eqb}
use Rattle.std.proofs.Math.Path.{refl}
use mathlib.Core.List.{List, [], ◌∷◌}
use Rattle.std.proofs.Math.Seq.{slice, slice_empty}
use Rattle.std.proofs.lemmas.Bool.{lt-leb}
use Rattle.utf8.specs.Laws.{never, below_or_not}
use Rattle.utf8.specs.Finite.{each_below}
use Rattle.strings.specs.Strings.{hex_value}
use Rattle.strings.specs.Laws.{cross}
use Rattle.strings.specs.Characters.{Digit, Escaped}
use Rattle.strings.specs.Characters as escaped
use Rattle.json_text.specs.Tree.{Json, Items, Members, Name}
use Rattle.json_text.specs.Machine.{is_hex, is_escape}
use Rattle.json_text.specs.Grammar.{At, Chars, Text}
use Rattle.json_text.specs.Grammar as g
use Rattle.grammar.specs.Induction.{Below, by-levels}
use Rattle.everywhere.specs.Everywhere.{strings, strings_in, strings_of}
use Rattle.model.specs.Code.{All}
use Rattle.model.specs.Lists.{all_append}
use Rattle.sheets.specs.Clear.{implied}

-- a string or a name stands in the text x between two quotes
pub record InQuotes (x : List ℕ) (s : Name) : Type 0 where
  pub opening : At x s.place 34
  pub chars : Chars x (s.place + 1) s.end
  pub raw : s.raw ≡ slice (s.place + 1) (s.end - 1) x

-- ---- the bytes between the quotes

-- is the byte no hexadecimal digit, or one whose value is below 16?
unfoldable small_if_hex : ℕ → Bool
small_if_hex b = not (is_hex b) || ltb (hex_value b) 16

-- it is
hex-digit : (b : ℕ) → true ≡ is_hex b → Digit b
unfolding is_hex hex_value small_if_hex
hex-digit b e = by (below_or_not b 128)
  where
    by : (b < 128) ⊎ (128 ≤ b) → Digit b
    by (inl h) = (h, ltb-true (hex_value b) 16 (implied (is_hex b) (ltb (hex_value b) 16) (sym e) (each_below small_if_hex 128 b refl h)))
    by (inr h) =
        absurd (never (sym e) (rw (
          le-leb 48 b (omega arith),
          lt-leb b 57 (omega arith),
          le-leb 65 b (omega arith),
          lt-leb b 70 (omega arith),
          le-leb 97 b (omega arith),
          lt-leb b 102 (omega arith),
        )))

-- a byte after a backslash
escape-low : (b : ℕ) → true ≡ is_escape b → b < 128
unfolding is_escape
escape-low b e = by (below_or_not b 128)
  where
    by : (b < 128) ⊎ (128 ≤ b) → b < 128
    by (inl h) = h
    by (inr h) =
        absurd (never (sym e) (rw (
          ne_eqb b 34 (λ z. omega arith),
          ne_eqb b 47 (λ z. omega arith),
          ne_eqb b 92 (λ z. omega arith),
          ne_eqb b 98 (λ z. omega arith),
          ne_eqb b 102 (λ z. omega arith),
          ne_eqb b 110 (λ z. omega arith),
          ne_eqb b 114 (λ z. omega arith),
          ne_eqb b 116 (λ z. omega arith),
        )))

escape-no-u : (b : ℕ) → true ≡ is_escape b → b ≡ 117 → ⊥
unfolding is_escape
escape-no-u b e z = never (sym e) (ap is_escape z)

module _ {x : List ℕ} where
  -- a string's end is a quote
  pub chars-end : {n m : ℕ} → Chars x n m → (n < m) × At x (m - 1) 34
  chars-end (g.Chars.quote {n = n} a) = let z : n + 1 - 1 ≡ n = omega arith in (omega arith, rw z a)
  chars-end (g.Chars.plain a h k l c) = let (i, q) = chars-end c in (omega arith, q)
  chars-end (g.Chars.short a b h c) = let (i, q) = chars-end c in (omega arith, q)
  chars-end (g.Chars.long a b c d e f h₁ h₂ h₃ h₄ r) = let (i, q) = chars-end r in (omega arith, q)

  -- a byte of it
  crossed : (n k m b : ℕ) → k ≡ n + 1 → n < m → m ≤ length x → At x n b → slice n m x ≡ b ∷ slice k m x
  crossed n k m b e l h a = rw (e, ← a.byte) (cross (record { low = omega arith; high = h }) l)

  -- its bytes
  pub chars-escaped : {n m : ℕ} → Chars x n m → Escaped (slice n (m - 1) x)
  chars-escaped (g.Chars.quote {n = n} a) = let z : n + 1 - 1 ≡ n = omega arith in rw (z, slice_empty n x) escaped.Escaped.end
  chars-escaped (g.Chars.plain {n = n} {m = m} {b = b} a h k l c) =
      let (i, q) = chars-end c in
      rw (crossed n (n + 1) (m - 1) b refl (omega arith) (omega (arith, q.inside)) a) (escaped.Escaped.unescaped k (chars-escaped c))
  chars-escaped (g.Chars.short {n = n} {m = m} {b = b} a₁ a₂ h c) =
      let (i, q) = chars-end c in
      let k = q.inside in
      rw (crossed n (n + 1) (m - 1) 92 refl (omega arith) (omega arith) a₁, crossed (n + 1) (n + 2) (m - 1) b (omega arith) (omega arith) (omega arith) a₂)
      (escaped.Escaped.short (escape-low b h) (escape-no-u b h) (chars-escaped c))
  chars-escaped (g.Chars.long {n = n} {m = m} {a = a} {b = b} {c = c} {d = d} a₁ a₂ a₃ a₄ a₅ a₆ h₁ h₂ h₃ h₄ r) =
      let (i, q) = chars-end r in
      let k = q.inside in
      rw (
        crossed n (n + 1) (m - 1) 92 refl (omega arith) (omega arith) a₁,
        crossed (n + 1) (n + 2) (m - 1) 117 (omega arith) (omega arith) (omega arith) a₂,
        crossed (n + 2) (n + 3) (m - 1) a (omega arith) (omega arith) (omega arith) a₃,
        crossed (n + 3) (n + 4) (m - 1) b (omega arith) (omega arith) (omega arith) a₄,
        crossed (n + 4) (n + 5) (m - 1) c (omega arith) (omega arith) (omega arith) a₅,
        crossed (n + 5) (n + 6) (m - 1) d (omega arith) (omega arith) (omega arith) a₆,
      )
      (escaped.Escaped.long (hex-digit a h₁) (hex-digit b h₂) (hex-digit c h₃) (hex-digit d h₄) (chars-escaped r))

-- ---- the strings of a text

-- of values of at most l levels
abbrev Values : List ℕ → ℕ → Type 0
Values x l = (p e : ℕ) (v : Json) → g.Value x l p e v → All (InQuotes x) (strings v)

module _ {x : List ℕ} where
  -- of elements, by those of their values
  elements-quoted : {l : ℕ} → Values x l → {n e : ℕ} {vs : Items} → g.Elements x l n e vs → All (InQuotes x) (strings_in vs)
  unfolding strings
  elements-quoted ih (g.Elements.last {p = p} {e = e} {v = v} w i w' a) = all_append (InQuotes x) (strings v) [] (ih p e v i) tt
  elements-quoted ih (g.Elements.next {p = p} {e = e} {v = v} {vs = vs} w i w' a es) =
      all_append (InQuotes x) (strings v) (strings_in vs) (ih p e v i) (elements-quoted ih es)

  -- of members, by the same
  members-quoted : {l : ℕ} → Values x l → {n e : ℕ} {ms : Members} → g.Members x l n e ms → All (InQuotes x) (strings_of ms)
  unfolding strings
  members-quoted ih (g.Members.last-member {p = p} {e = e} {v = v} w a c w₁ a₁ w₂ i w₃ a₂) =
      (record { opening = a; chars = c; raw = refl }, all_append (InQuotes x) (strings v) [] (ih p e v i) tt)
  members-quoted ih (g.Members.next-member {p = p} {e = e} {v = v} {ms = ms} w a c w₁ a₁ w₂ i w₃ a₂ es) =
      (record { opening = a; chars = c; raw = refl }, all_append (InQuotes x) (strings v) (strings_of ms) (ih p e v i) (members-quoted ih es))

  -- of a value, by those with one level less
  value-quoted : {l : ℕ} → Below (Values x) l → {p e : ℕ} {v : Json} → g.Value x l p e v → All (InQuotes x) (strings v)
  unfolding strings
  value-quoted ih (g.Value.string a c) = (record { opening = a; chars = c; raw = refl }, tt)
  value-quoted ih (g.Value.number i) = tt
  value-quoted ih (g.Value.true' w) = tt
  value-quoted ih (g.Value.false' w) = tt
  value-quoted ih (g.Value.null w) = tt
  value-quoted ih (g.Value.empty-array a w b) = tt
  value-quoted ih (g.Value.array a es) = elements-quoted ih es
  value-quoted ih (g.Value.empty-object a w b) = tt
  value-quoted ih (g.Value.object a ms) = members-quoted ih ms

-- every string and name of a text stands in it between quotes
pub text-quoted : {l : ℕ} {x : List ℕ} {v : Json} → Text l x v → All (InQuotes x) (strings v)
text-quoted {l} {x} {v} (g.Text.text {n = n} {m = m} w i w') = by-levels (Values x) (λ k ih p e u. value-quoted ih) l n m v i
