-- In a tree that lies in order at most one value or name begins at a place, and it ends within the tree.
use Rattle.std.specs.Prelude.{ℕ, ◌+◌, ◌≤◌, ◌<◌, ◌≡◌, refl, Bool, true, false, cond, eqb}
use Rattle.std.proofs.Common.{arith, sym, ap, eqb-true, eq-eqb}
use mathlib.Core.List.{List, [], ◌∷◌, ◌++◌, Memᴰ}
use Rattle.utf8.specs.Laws.{clash}
use Rattle.json_text.specs.Tree.{Json, Items, Members}
use Rattle.grammar.specs.Order.{Spans, Row, Rows}
use Rattle.grammar.specs.Order as order
use Rattle.everywhere.specs.Parts.{Part, part_place, part_end, parts, parts_in, parts_of}
use Rattle.verdict.specs.Ends.{ends_at, end_at}

-- exactly one of the parts begins at the place q, and e is its end
abbrev pub Alone : ℕ → List Part → ℕ → Type 0
Alone q ss e = ends_at q ss ≡ e ∷ []

-- it is then the end that belongs to the place
pub alone-end : (q e : ℕ) (ss : List Part) → Alone q ss e → end_at q ss ≡ e
unfolding end_at
alone-end q e ss h = rw (h, end_at)

-- ---- at most one

-- none of these ends, which are those of parts that begin at q, or one; such a part stands from a on, and ends at b or before
data AtMost (q a b : ℕ) : List ℕ → Type 0 where
  nothing : AtMost q a b []
  one : {e : ℕ} → a ≤ q → q < e → e ≤ b → AtMost q a b (e ∷ [])

-- in a wider stretch
widen : {q a b c d : ℕ} {es : List ℕ} → c ≤ a → b ≤ d → AtMost q a b es → AtMost q c d es
widen h k nothing = nothing
widen h k (one l m n) = one (omega arith) m (omega arith)

-- of two stretches, one after the other
join : {q a b c d : ℕ} {es fs : List ℕ} → a ≤ c → b ≤ c → b ≤ d → AtMost q a b es → AtMost q c d fs → AtMost q a d (es ++ fs)
join h k l nothing y = widen h (omega arith) y
join h k l (one m n o) nothing = one m n (omega arith)
join h k l (one m n o) (one r s t) = absurd (omega arith)

-- of a part and what stands after its first byte
lead : {q b : ℕ} (p e : ℕ) {es : List ℕ} → p < e → e ≤ b → AtMost q (p + 1) b es → AtMost q p b (cond (eqb p q) (e ∷ es) es)
lead {q} {b} p e h k y = by (eqb p q) refl y
  where
    by : (t : Bool) {es : List ℕ} → eqb p q ≡ t → AtMost q (p + 1) b es → AtMost q p b (cond t (e ∷ es) es)
    by true z nothing = let s = eqb-true p q z in one {e = e} (omega arith) (omega arith) k
    by true z (one l m n) = let s = eqb-true p q z in absurd (omega arith)
    by false z y = widen (omega arith) (omega arith) y

ends-append : (q : ℕ) (ss us : List Part) → ends_at q (ss ++ us) ≡ ends_at q ss ++ ends_at q us
unfolding ends_at
ends-append q [] us = refl
ends-append q (s ∷ ss) us = by (eqb (part_place s) q) (ends_at q (ss ++ us)) (ends_at q ss) (ends-append q ss us)
  where
    by : (t : Bool) (es fs : List ℕ) → es ≡ fs ++ ends_at q us → cond t (part_end s ∷ es) es ≡ cond t (part_end s ∷ fs) fs ++ ends_at q us
    by true es fs h = ap (λ l. part_end s ∷ l) h
    by false es fs h = h

-- ---- a tree that lies in order

mutual
  pub spans-lt : {v : Json} {p e : ℕ} → Spans v p e → p < e
  spans-lt (order.null h) = h
  spans-lt (order.bool h) = h
  spans-lt (order.num h) = h
  spans-lt (order.str h) = omega arith
  spans-lt (order.arr r h) = omega (arith, row-le r)
  spans-lt (order.obj r h) = omega (arith, rows-le r)

  pub row-le : {vs : Items} {a b : ℕ} → Row vs a b → a ≤ b
  row-le (order.end h) = h
  row-le (order.next h s r) = omega (arith, spans-lt s, row-le r)

  pub rows-le : {ms : Members} {a b : ℕ} → Rows ms a b → a ≤ b
  rows-le (order.last h) = h
  rows-le (order.field h k l s r) = omega (arith, spans-lt s, rows-le r)

module _ (q : ℕ) where
  mutual
    unfolding parts ends_at

    spans-at : {v : Json} {p e : ℕ} → Spans v p e → AtMost q p e (ends_at q (parts v))
    spans-at (order.null {p = p} {e = e} h) = lead p e h (omega arith) nothing
    spans-at (order.bool {p = p} {e = e} h) = lead p e h (omega arith) nothing
    spans-at (order.num {p = p} {e = e} h) = lead p e h (omega arith) nothing
    spans-at (order.str {p = p} {e = e} h) = lead p e (omega arith) (omega arith) nothing
    spans-at (order.arr {p = p} {e = e} r h) = lead p e (omega (arith, row-le r)) (omega arith) (widen (omega arith) (omega arith) (row_at r))
    spans-at (order.obj {p = p} {e = e} r h) = lead p e (omega (arith, rows-le r)) (omega arith) (widen (omega arith) (omega arith) (rows_at r))

    row_at : {vs : Items} {a b : ℕ} → Row vs a b → AtMost q (a + 1) b (ends_at q (parts_in vs))
    row_at (order.end h) = nothing
    row_at (order.next {v = v} {vs = vs} h s r) =
        let m = spans-lt s in
        let l = row-le r in
        rw (ends-append q (parts v) (parts_in vs)) (widen (omega arith) (omega arith) (join (omega arith) (omega arith) l (spans-at s) (row_at r)))

    rows_at : {ms : Members} {a b : ℕ} → Rows ms a b → AtMost q (a + 1) b (ends_at q (parts_of ms))
    rows_at (order.last h) = nothing
    rows_at (order.field {b = b} {k = k} {v = v} {ms = ms} h i j s r) =
        let m = spans-lt s in
        let l = rows-le r in
        let rest = join (omega arith) (omega arith) l (spans-at s) (rows_at r) in
        rw (ends-append q (parts v) (parts_of ms))
        (widen {b = b} (omega arith) (omega arith) (lead k.place k.end (omega arith) (omega arith) (widen (omega arith) (omega arith) rest)))

-- where a part begins, there is one
begins-some : {s : Part} {ss : List Part} → Memᴰ s ss → ends_at (part_place s) ss ≡ [] → ⊥
unfolding ends_at
begins-some {s} (Memᴰ.head {x = u} {xs = ss} z) n = let y = rw (eq-eqb (part_place u) (part_place s) (ap part_place (sym z))) at n in clash cc
begins-some {s} (Memᴰ.tail {x = u} {xs = ss} m) n = by (eqb (part_place u) (part_place s)) (begins-some m) n
  where
    by : (t : Bool) → (ends_at (part_place s) ss ≡ [] → ⊥) → cond t (part_end u ∷ ends_at (part_place s) ss) (ends_at (part_place s) ss) ≡ [] → ⊥
    by true f k = clash cc
    by false f k = f k

-- at the place of a value or a name, exactly one begins
pub alone_at : {v : Json} {a b : ℕ} → Spans v a b → {s : Part} → Memᴰ s (parts v) → (e : ℕ) × Alone (part_place s) (parts v) e
alone_at {v} {a} {b} h {s} m = by (ends_at (part_place s) (parts v)) refl (spans-at (part_place s) h)
  where
    by : (es : List ℕ) → ends_at (part_place s) (parts v) ≡ es → AtMost (part_place s) a b es → (e : ℕ) × Alone (part_place s) (parts v) e
    by _ z nothing = absurd (begins-some m z)
    by _ z (one {e = e} i j k) = (e, z)

-- and it has a byte at least, and ends within the tree
pub alone-within : {v : Json} {a b : ℕ} → Spans v a b → (q e : ℕ) → Alone q (parts v) e → (a ≤ q) × (q < e) × (e ≤ b)
alone-within {v} {a} {b} h q e z = by (rw z at (spans-at q h))
  where
    by : AtMost q a b (e ∷ []) → (a ≤ q) × (q < e) × (e ≤ b)
    by (one i j k) = (i, j, k)
