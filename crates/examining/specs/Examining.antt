-- What the parts of judge and lay answer.
use Rattle.std.specs.Prelude.{◌≡◌, List, [], ◌⊎◌, ℕ, ◌+◌, ◌*◌, ◌<◌, ◌≤◌, length, get_or, take, Result, Ok, Err}
use Rattle.std.proofs.Common.{inl, inr}
use Rattle.std.proofs.Math.Option.{Option, none, some}
use Rattle.json_text.specs.Tree.{Json}
use Rattle.json_text.specs.Machine.{Outcome, read, reads, bad, too_deep}
use Rattle.json_text.specs.Table.{Sub, size}
use Rattle.nodes.specs.Faults as faults
use Rattle.fields.specs.Fields.{objects_of}
use Rattle.fields.specs.Says.{Indexed}
use Rattle.fields.specs.declared.Index.{Index}
use Rattle.model.specs.Model.{object_number}
use Rattle.ids.specs.Says.{Offsets, names_of}
use Rattle.rows.specs.Says.{Listed}
use Rattle.schema.specs.Says.{IndexedAt}
use Rattle.schema.specs.declared.Walked.{Walked}
use Rattle.verdict.specs.Places.{early}
use Rattle.verdict.specs.Verdict as verdict
use Rattle.refusals.specs.Refusals.{refusal}
use Rattle.refusals.specs.declared.Refusal.{Refusal}

-- the first n words of the table t are those of the tree that the text x, which is not too long, is read as
pub record Stands (x t : List ℕ) (n : ℕ) : Type 0 where
  pub value : Json
  pub short : length x ≤ 65535
  pub reads : read x ≡ reads value
  pub stands : Sub x t 0 value
  pub ends : size value ≡ n

-- the text x is not too long, and the table t has room for its tree's words
pub record Room (x t : List ℕ) : Type 0 where
  pub short : length x ≤ 65535
  pub long : 3 * length x + 99 ≤ 2 * length t

-- what `screen` answers, as the refusal by rule 1 or 2, if there is one
unfoldable pub screened_as : Result (Unit {0}) Refusal → Option verdict.Verdict
screened_as (Ok u) = none
screened_as (Err f) = some (refusal f)

-- rules 3 and 4: how many words the tree takes that a text is read as, or the refusal by one of them
unfoldable pub tree_or_refusal : Outcome → ℕ ⊎ verdict.Verdict
unfolding size
tree_or_refusal (reads v) = inl (size v)
tree_or_refusal (bad p) = inr (verdict.parsed (bad p))
tree_or_refusal (too_deep p) = inr (verdict.parsed (too_deep p))

-- what `open` answers, in that form
unfoldable pub opened_as : Result ℕ Refusal → ℕ ⊎ verdict.Verdict
opened_as (Ok n) = inl n
opened_as (Err f) = inr (refusal f)

-- the table, which was t₀, has the words of the tree; the others are as they were
pub record TreeIn (x t₀ t : List ℕ) (n : ℕ) : Type 0 where
  pub tree : Stands x t n
  pub rest : (k : ℕ) → n ≤ k → get_or t k 0 ≡ get_or t₀ k 0

-- r is the answer for the text x, and what the table holds if that is a tree
pub record Opens (x t₀ t : List ℕ) (r : Result ℕ Refusal) : Type 0 where
  pub is : opened_as r ≡ tree_or_refusal (read x)
  pub holds : (n : ℕ) → r ≡ Ok n → TreeIn x t₀ t n

-- the rows have room for what the city objects list in the tree that stands at the node 0:
-- a word for each object, one more and one for each listed value take a third of the tree's words
pub record RowRoom (x t rows : List ℕ) : Type 0 where
  pub long : (v : Json) → Sub x t 0 v → size v ≤ 3 * length rows
  pub short : length rows ≤ 65535

-- a value of a text that is short enough stands at the node 0; the offsets are those of its city objects, no two of which have the same ID (rule 6)
pub record Linked (x t offsets : List ℕ) : Type 0 where
  pub value : Json
  pub stands : Sub x t 0 value
  pub short : length x ≤ 65535
  pub indexed : (v : Json) → Sub x t 0 v → Offsets x t (objects_of v) offsets
  pub alone : (k : ℕ) → k < length (objects_of value) → object_number (names_of (objects_of value)) (get_or (names_of (objects_of value)) k []) ≡ k

-- the rows have what the objects list
pub record Rows (x t offsets children parents : List ℕ) : Type 0 where
  pub below : Listed x t offsets "children" children
  pub above : Listed x t offsets "parents" parents

-- the offsets of an index
unfoldable pub offsets_of : Index → List ℕ
offsets_of index = take index.count index.offsets

-- the least fault of the rules 5 to 14 of the tree that stands at the node 0, and the index over the table t of its city objects
pub record TreeExamined (x t : List ℕ) (w : Walked) : Type 0 where
  pub least : (v : Json) → Sub x t 0 v → w.least ≡ faults.least faults.no_fault (early v)
  pub indexed : IndexedAt x t w.index

-- the least fault of the rules 5 to 17 of the tree that the text x is read as, and the index over the table t of its city objects
pub record Examined (x t : List ℕ) (w : Walked) : Type 0 where
  pub least : (v : Json) → read x ≡ reads v → w.least ≡ faults.least faults.no_fault (verdict.faults v)
  pub from : 5 * 65536 ≤ w.least
  pub indexed : (v : Json) → read x ≡ reads v → Indexed x t (objects_of v) w.index

-- if there is no fault, the rows have what the city objects list
pub record RowsOf (x t : List ℕ) (w : Walked) (children parents : List ℕ) : Type 0 where
  pub are : faults.no_fault ≤ w.least → Rows x t (offsets_of w.index) children parents
