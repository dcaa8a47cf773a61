-- A value takes at least as many bytes of its text as its size says, so the sheet of every accepted text is short.
use Rattle.std.specs.Prelude.{ℕ, ◌+◌, ◌≤◌, ◌≡◌, List, length}
use Rattle.std.proofs.Common.{arith}
use Rattle.json_text.specs.Tree.{Json, Items, Members}
use Rattle.json_text.specs.Machine.{read, reads}
use Rattle.strings.specs.Laws.{decode-short}
use Rattle.grammar.specs.Order.{Spans, Row, Rows}
use Rattle.grammar.specs.Order as order
use Rattle.grammar.proofs.Theorems.{read-text, ordered}
use Rattle.model.proofs.Size.{size, sizes, weights}

mutual
  unfolding size

  -- a value that stands from p up to e
  spans-size : {v : Json} {p e : ℕ} → Spans v p e → p + size v ≤ e
  spans-size (order.null h) = omega arith
  spans-size (order.bool h) = omega arith
  spans-size (order.num h) = omega arith
  spans-size (order.str {raw = raw} h) = omega (arith, decode-short raw)
  spans-size (order.arr r h) = omega (arith, row-size r)
  spans-size (order.obj r h) = omega (arith, rows-size r)

  -- elements, one after the other
  row-size : {vs : Items} {a b : ℕ} → Row vs a b → a + sizes vs ≤ b
  row-size (order.end h) = omega arith
  row-size (order.next h s r) = omega (arith, spans-size s, row-size r)

  -- members, one after the other
  rows-size : {ms : Members} {a b : ℕ} → Rows ms a b → a + weights ms ≤ b
  rows-size (order.last h) = omega arith
  rows-size (order.field {k = k} h i l s r) = omega (arith, decode-short k.raw, spans-size s, rows-size r)

-- so the tree of a text is no larger than the text
pub tree-within : (n : ℕ) (x : List ℕ) (v : Json) → length x ≤ n → read x ≡ reads v → size v ≤ n
tree-within n x v h e = let (p, q, s, k) = ordered 32 x v ((read-text x v).0 e) in omega (arith, spans-size s)
