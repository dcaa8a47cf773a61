-- The tree of every text lies in order within the text.
use Rattle.std.specs.Prelude.{ℕ, ◌+◌, ◌-◌, ◌≤◌, ◌<◌, List, length, take}
use Rattle.std.proofs.Common.{arith, length-take, length-drop}
use Rattle.std.proofs.Math.Seq.{slice}
use Rattle.utf8.specs.Ascii.{ascii}
use Rattle.json_text.specs.Tree.{Json, Items, Members}
use Rattle.json_text.specs.Grammar.{Text, name_at}
use Rattle.json_text.specs.Grammar as g
use Rattle.grammar.specs.Induction.{Below, by-levels}
use Rattle.grammar.specs.Order.{Spans, Row, Rows}
use Rattle.grammar.specs.Order as o

-- a value of at most l levels spans its place and its end
abbrev Values : (x : List ℕ) (l : ℕ) → Type 0
Values x l = (p e : ℕ) (v : Json) → g.Value x l p e v → Spans v p e × (p < e)

-- a part of a text is no longer than its offsets say
slice-short : (f t : ℕ) (x : List ℕ) → length (slice f t x) ≤ t - f
slice-short f t x = omega (arith, length-drop f (take t x), length-take t x)

module _ {x : List ℕ} where
  -- each rule of the grammar ends at or after its start
  ws-le : {n m : ℕ} → g.Ws x n m → n ≤ m
  ws-le g.Ws.end = omega arith
  ws-le (g.Ws.more p q w) = omega (arith, ws-le w)

  -- digits
  digits_le : {n m : ℕ} → g.Digits x n m → n ≤ m
  digits_le g.Digits.end = omega arith
  digits_le (g.Digits.more p q d) = omega (arith, digits_le d)

  -- one digit or more
  some-lt : {n m : ℕ} → g.Some x n m → n < m
  some-lt (g.Some.some p q d) = omega (arith, digits_le d)

  -- a string's rest
  chars-lt : {n m : ℕ} → g.Chars x n m → n < m
  chars-lt (g.Chars.quote p) = omega arith
  chars-lt (g.Chars.plain p h k l c) = omega (arith, chars-lt c)
  chars-lt (g.Chars.short p q e c) = omega (arith, chars-lt c)
  chars-lt (g.Chars.long p q a b c d h₁ h₂ h₃ h₄ r) = omega (arith, chars-lt r)

  -- a whole part
  int_lt : {n m : ℕ} → g.Int x n m → n < m
  int_lt (g.Int.nought p) = omega arith
  int_lt (g.Int.digits p h q d) = omega (arith, digits_le d)

  -- a fraction
  frac-le : {n m : ℕ} → g.Frac x n m → n ≤ m
  frac-le g.Frac.absent = omega arith
  frac-le (g.Frac.frac p s) = omega (arith, some-lt s)

  -- a sign
  sign_le : {n m : ℕ} → g.Sign x n m → n ≤ m
  sign_le g.Sign.absent = omega arith
  sign_le (g.Sign.plus p) = omega arith
  sign_le (g.Sign.minus p) = omega arith

  -- an exponent
  exp-le : {n m : ℕ} → g.Exp x n m → n ≤ m
  exp-le g.Exp.absent = omega arith
  exp-le (g.Exp.exp p e s d) = omega (arith, sign_le s, some-lt d)

  -- a numeral
  number_lt : {n m : ℕ} → g.Number x n m → n < m
  number_lt (g.Number.plus i f e) = omega (arith, int_lt i, frac-le f, exp-le e)
  number_lt (g.Number.minus p i f e) = omega (arith, int_lt i, frac-le f, exp-le e)

  -- a word
  word-le : {ws : List ℕ} {n m : ℕ} → g.Word x ws n m → n + length ws ≤ m
  word-le g.Word.end = omega arith
  word-le (g.Word.letter p w) = omega (arith, word-le w)

  -- elements and members after a, by what holds of the values of so many levels
  elements-order : (l : ℕ) → Values x l → {n e : ℕ} {vs : Items} (a : ℕ) → a < n → g.Elements x l n e vs → (b : ℕ) × Row vs a b × (n ≤ b) × (b < e)
  elements-order l ih a h₀ (g.Elements.last {p = p} {e = e} {k = k} {v = v} w i w' r) =
      let (s, h) = ih p e v i in
      let h₁ = ws-le w in
      let h₂ = ws-le w' in
      (k, o.Row.next {a = a} {p = p} (omega arith) s (o.Row.end h₂), omega arith, omega arith)
  elements-order l ih a h₀ (g.Elements.next {p = p} {e = e} {k = k} {v = v} w i w' r es) =
      let (s, h) = ih p e v i in
      let h₁ = ws-le w in
      let h₂ = ws-le w' in
      let (b, t, h₃, h₄) = elements-order l ih e (omega arith) es in
      (b, o.Row.next {a = a} {p = p} (omega arith) s t, omega arith, h₄)

  -- members, by the same
  members-order : (l : ℕ) → Values x l → {n e : ℕ} {ms : Members} (a : ℕ) → a < n → g.Members x l n e ms → (b : ℕ) × Rows ms a b × (n ≤ b) × (b < e)
  members-order l ih a h₀ (g.Members.last-member {q = q} {f = f} {p = p} {e = e} {k = k} {v = v} w r c w₁ r₁ w₂ i w₃ r₂) =
      let (s, h) = ih p e v i in
      let h₁ = ws-le w in
      let h₂ = ws-le w₃ in
      let h₃ = chars-lt c in
      let h₄ = ws-le w₁ in
      let h₅ = ws-le w₂ in
      let room = slice-short (q + 1) (f - 1) x in
      (k, o.Rows.field {a = a} {p = p} {k = name_at x q f} (omega arith) (omega arith) (omega arith) s (o.Rows.last h₂), omega arith, omega arith)
  members-order l ih a h₀ (g.Members.next-member {q = q} {f = f} {p = p} {e = e} {k = k} {v = v} w r c w₁ r₁ w₂ i w₃ r₂ es) =
      let (s, h) = ih p e v i in
      let h₁ = ws-le w in
      let h₂ = ws-le w₃ in
      let h₃ = chars-lt c in
      let h₄ = ws-le w₁ in
      let h₅ = ws-le w₂ in
      let (b, t, h₆, h₇) = members-order l ih e (omega arith) es in
      let room = slice-short (q + 1) (f - 1) x in
      (b, o.Rows.field {a = a} {p = p} {k = name_at x q f} (omega arith) (omega arith) (omega arith) s t, omega arith, h₇)

  -- a value, by what holds of those with one level less
  one-order : {l : ℕ} → Below (Values x) l → {p e : ℕ} {v : Json} → g.Value x l p e v → Spans v p e × (p < e)
  unfolding ascii
  one-order ih {p} {e} (g.Value.string q c) =
      let h = chars-lt c in
      (o.Spans.str {p = p} {e = e} {raw = slice (p + 1) (e - 1) x} (omega (arith, slice-short (p + 1) (e - 1) x)), omega arith)
  one-order ih (g.Value.number i) = let h = number_lt i in (o.Spans.num h, h)
  one-order ih {p} {e} (g.Value.true' w) = let h : p < e = omega (arith, word-le w) in (o.Spans.bool h, h)
  one-order ih {p} {e} (g.Value.false' w) = let h : p < e = omega (arith, word-le w) in (o.Spans.bool h, h)
  one-order ih {p} {e} (g.Value.null w) = let h : p < e = omega (arith, word-le w) in (o.Spans.null h, h)
  one-order ih {p} (g.Value.empty-array {n = n} q w r) =
      let h = ws-le w in
      (o.Spans.arr {e = n + 1} {b = n} (o.Row.end {a = p} {b = n} (omega arith)) (omega arith), omega arith)
  one-order ih {p} (g.Value.array {l = l} q es) = let (b, t, h, h') = elements-order l ih p (omega arith) es in (o.Spans.arr t h', omega arith)
  one-order ih {p} (g.Value.empty-object {n = n} q w r) =
      let h = ws-le w in
      (o.Spans.obj {e = n + 1} {b = n} (o.Rows.last {a = p} {b = n} (omega arith)) (omega arith), omega arith)
  one-order ih {p} (g.Value.object {l = l} q es) = let (b, t, h, h') = members-order l ih p (omega arith) es in (o.Spans.obj t h', omega arith)

-- the tree of a text lies in order within it
pub ordered : (l : ℕ) (x : List ℕ) (v : Json) → Text l x v → (p e : ℕ) × Spans v p e × (e ≤ length x)
ordered l x v (g.Text.text {n = n} {m = m} w i w') = (n, m, (by-levels (Values x) (λ k ih p e u. one-order ih) l n m v i).0, ws-le w')
