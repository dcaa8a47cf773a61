-- The node table of a tree: three words for each value and each name, in the order in which they start in the text: where it starts,
-- where it ends (one past its last byte), and the index of the first word past it and all that it holds. A name is followed by its value.
use Rattle.std.specs.Prelude.{◌≡◌, ℕ, ◌+◌, ◌-◌, ◌<◌, ◌≤◌, Bool, true, false, ◌||◌, List, length, ◌==◌, slice_index_or}
use Rattle.std.proofs.Math.Seq.{slice}
use Rattle.utf8.specs.Ascii.{is_digit}
use Rattle.json_text.specs.Tree.{Json, Items, ◌▸◌, Members, member, Name}
use Rattle.json_text.specs.Tree as tree

-- how many words a value takes, elements take, and members take
unfoldable mutual
  pub size : Json → ℕ
  size (tree.null p e) = 3
  size (tree.bool p e b) = 3
  size (tree.num p e raw) = 3
  size (tree.str p e raw) = 3
  size (tree.arr p e vs) = 3 + sizes vs
  size (tree.obj p e ms) = 3 + widths ms

  pub sizes : Items → ℕ
  sizes tree.no_items = 0
  sizes (v ▸ vs) = size v + sizes vs

  pub widths : Members → ℕ
  widths tree.empty = 0
  widths (member k v ms) = 3 + size v + widths ms

-- the three words at i of the table t of the text x: what stands there starts at p with the byte b, ends before e, and the table goes on at n
pub record Words (x t : List ℕ) (i p e b n : ℕ) : Type 0 where
  pub room : i + 2 < length t
  pub start : slice_index_or t i 0 ≡ p
  pub end : slice_index_or t (i + 1) 0 ≡ e
  pub next : slice_index_or t (i + 2) 0 ≡ n
  pub some : p < e
  pub inside : e ≤ length x
  pub byte : slice_index_or x p 0 ≡ b

-- the three words at i are those of a string from its first quote at p to before e, whose bytes between the quotes are raw
pub record Quoted (x t : List ℕ) (i p e : ℕ) (raw : List ℕ) : Type 0 where
  pub words : Words x t i p e 34 (i + 3)
  pub quotes : p + 2 ≤ e
  pub between : raw ≡ slice (p + 1) (e - 1) x

-- a byte that a numeral begins with
unfoldable pub is_numeric : ℕ → Bool
unfolding is_digit
is_numeric b = b == 45 || is_digit b

abbrev pub lead : Bool → ℕ
lead true = 116
lead false = 102

-- `Sub x t i v`: the words of the table t from i on are those of the value v of the text x. `Subs` and `Fields`: those of elements and of members, one
-- after the other
mutual
  pub data Sub (x t : List ℕ) : ℕ → Json → Type 0 where
    null : {i p e : ℕ} → Words x t i p e 110 (i + 3) → Sub x t i (tree.null p e)
    bool : {i p e : ℕ} {b : Bool} → Words x t i p e (lead b) (i + 3) → Sub x t i (tree.bool p e b)
    num : {i p e b : ℕ} {raw : List ℕ} → Words x t i p e b (i + 3) → true ≡ is_numeric b → raw ≡ slice p e x → Sub x t i (tree.num p e raw)
    str : {i p e : ℕ} {raw : List ℕ} → Quoted x t i p e raw → Sub x t i (tree.str p e raw)
    arr : {i p e : ℕ} {vs : Items} → Words x t i p e 91 (i + (3 + sizes vs)) → Subs x t (i + 3) vs → Sub x t i (tree.arr p e vs)
    obj : {i p e : ℕ} {ms : Members} → Words x t i p e 123 (i + (3 + widths ms)) → Fields x t (i + 3) ms → Sub x t i (tree.obj p e ms)

  pub data Subs (x t : List ℕ) : ℕ → Items → Type 0 where
    nil : {i : ℕ} → Subs x t i tree.no_items
    cons : {i : ℕ} {v : Json} {vs : Items} → Sub x t i v → Subs x t (i + size v) vs → Subs x t i (v ▸ vs)

  pub data Fields (x t : List ℕ) : ℕ → Members → Type 0 where
    last : {i : ℕ} → Fields x t i tree.empty
    field : {i : ℕ} {k : Name} {v : Json} {ms : Members} → Quoted x t i k.place k.end k.raw → Sub x t (i + 3) v → Fields x t (i + (3 + size v)) ms
        → Fields x t i (member k v ms)
