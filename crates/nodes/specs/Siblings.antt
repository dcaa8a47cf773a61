-- What the iterator over what stands one after another in a table gives.
use Rattle.std.specs.Prelude.{ℕ, ◌+◌, ◌<◌, ◌≤◌, ◌≡◌, List, Bool, length, get_or, cond, Some, None}
use Rattle.std.specs.Prelude as code
use Rattle.json_text.specs.Tree.{Json}
use Rattle.json_text.specs.Table.{Sub}
use Rattle.nodes.specs.Access.{is_array_value, is_object_value}
use Rattle.nodes.specs.declared.Siblings.{Siblings}

-- from the node k on, the third word of each value, which has `lead` words before it, leads to the next node, and at last to n
pub data Chain (t : List ℕ) (lead n : ℕ) : ℕ → Type 0 where
  here : Chain t lead n n
  onward : {k : ℕ} → k + lead + 2 < length t → k < get_or t (k + lead + 2) 0 → Chain t lead n (get_or t (k + lead + 2) 0) → Chain t lead n k

pub record CanStep (s : Siblings) : Type 0 where
  pub chain : Chain s.table.now s.lead s.end s.at

-- from s to u past the node k
pub record StepsPast (s : Siblings) (k : ℕ) (u : Siblings) : Type 0 where
  pub more : s.at < s.end
  pub node : k ≡ s.at
  pub table : u.table.now ≡ s.table.now
  pub end : u.end ≡ s.end
  pub lead : u.lead ≡ s.lead
  pub at : u.at ≡ get_or s.table.now (s.at + s.lead + 2) 0
  pub onward : s.at < u.at

-- a step gives the next node, or there is none
abbrev pub Steps : Siblings → code.Option ℕ → Siblings → Type 0
Steps s (Some k) u = StepsPast s k u
Steps s None u = (s.end ≤ s.at) × (u ≡ s)

-- s begins after the three words of the node i, and ends where these say, if there is something, else at once
pub record Begins (t : List ℕ) (i : ℕ) (holds : Bool) (n : ℕ) (s : Siblings) : Type 0 where
  pub table : s.table.now ≡ t
  pub at : s.at ≡ i + 3
  pub lead : s.lead ≡ n
  pub end : s.end ≡ cond holds (get_or t (i + 2) 0) (i + 3)

-- s runs over the elements of the value that stands at the node i: over none if it is no array
pub record Elements (x t : List ℕ) (i : ℕ) (s : Siblings) : Type 0 where
  pub table : s.table.now ≡ t
  pub at : s.at ≡ i + 3
  pub lead : s.lead ≡ 0
  pub end : (v : Json) → Sub x t i v → s.end ≡ cond (is_array_value v) (get_or t (i + 2) 0) (i + 3)

-- s runs over the names of the members of the value that stands at the node i: over none if it is no object
pub record Names (x t : List ℕ) (i : ℕ) (s : Siblings) : Type 0 where
  pub table : s.table.now ≡ t
  pub at : s.at ≡ i + 3
  pub lead : s.lead ≡ 3
  pub end : (v : Json) → Sub x t i v → s.end ≡ cond (is_object_value v) (get_or t (i + 2) 0) (i + 3)
