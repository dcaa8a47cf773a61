-- A tree that lies in order: each value stands between the ends of what holds it, and after what stands before it,
-- a string or a name has room for its bytes and its quotes, and there is room for a bracket or a comma before each element and each name.
use Rattle.std.specs.Prelude.{ℕ, ◌+◌, ◌≤◌, ◌<◌, Bool, List, length}
use Rattle.json_text.specs.Tree.{Json, Items, ◌▸◌, Members, member, Name}
use Rattle.json_text.specs.Tree as tree

mutual
  -- the value v stands from p up to e, and so does all that it holds, in order
  pub data Spans : Json → ℕ → ℕ → Type 0 where
    null : {p e : ℕ} → p < e → Spans (tree.null p e) p e
    bool : {p e : ℕ} {b : Bool} → p < e → Spans (tree.bool p e b) p e
    num : {p e : ℕ} {raw : List ℕ} → p < e → Spans (tree.num p e raw) p e
    str : {p e : ℕ} {raw : List ℕ} → p + (2 + length raw) ≤ e → Spans (tree.str p e raw) p e
    arr : {p e b : ℕ} {vs : Items} → Row vs p b → b < e → Spans (tree.arr p e vs) p e
    obj : {p e b : ℕ} {ms : Members} → Rows ms p b → b < e → Spans (tree.obj p e ms) p e

  -- elements stand after a, the place of the bracket or the end of the element before, and up to b, with something between each two
  pub data Row : Items → ℕ → ℕ → Type 0 where
    end : {a b : ℕ} → a ≤ b → Row tree.no_items a b
    next : {a p e b : ℕ} {v : Json} {vs : Items} → a < p → Spans v p e → Row vs e b → Row (v ▸ vs) a b

  -- so do members, the name of each before its value, with something between the two
  pub data Rows : Members → ℕ → ℕ → Type 0 where
    last : {a b : ℕ} → a ≤ b → Rows tree.empty a b
    field : {a p e b : ℕ} {k : Name} {v : Json} {ms : Members} → a < k.place → k.place + (2 + length k.raw) ≤ k.end → k.end < p → Spans v p e
        → Rows ms e b → Rows (member k v ms) a b
