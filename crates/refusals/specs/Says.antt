-- What the functions that refuse a fault ask and tell.
use Rattle.std.specs.Prelude.{ℕ, ◌≡◌, List}
use Rattle.json_text.specs.Tree.{Json}
use Rattle.json_text.specs.Table.{Sub}
use Rattle.nodes.specs.Faults.{rule_of, place_in}
use Rattle.nodes.specs.Says.{Root}
use Rattle.everywhere.specs.Parts.{parts}
use Rattle.verdict.specs.Ends.{end_at}
use Rattle.verdict.specs.Verdict.{refused, end_of_fault}
use Rattle.refusals.specs.Refusals.{refusal}
use Rattle.refusals.specs.declared.Refusal.{Refusal}

-- the first n words of the table t are those of a tree, of some text
pub record Tabled (t : List ℕ) (n : ℕ) : Type 0 where
  pub text : List ℕ
  pub root : Root text t n

-- e is the end that belongs to the place p in the tree
pub record EndsAt (t : List ℕ) (p e : ℕ) : Type 0 where
  pub is : (x : List ℕ) (v : Json) → Sub x t 0 v → e ≡ end_at p (parts v)

-- e is the end of the fault f of the tree
pub record Ended (t : List ℕ) (f e : ℕ) : Type 0 where
  pub is : (x : List ℕ) (v : Json) → Sub x t 0 v → e ≡ end_of_fault v f

-- r is the refusal of the fault f of the tree
pub record Refuses (t : List ℕ) (f : ℕ) (r : Refusal) : Type 0 where
  pub is : (x : List ℕ) (v : Json) → Sub x t 0 v → refusal r ≡ refused (rule_of f) (place_in f) (end_of_fault v f)
