-- What the functions over a node table ask and tell.
use Rattle.std.specs.Prelude.{◌≡◌, List, ℕ, ◌≤◌, length}
use Rattle.std.proofs.Math.Option.{Option, none, some}
use Rattle.json_text.specs.Tree.{Json}
use Rattle.json_text.specs.Table.{Sub, size}
use Rattle.std.specs.Prelude.{Some, None}
use Rattle.std.specs.Prelude as code

-- some value of the text x, which is short enough (rule 1), stands at the node i of the table t
pub record Node (x t : List ℕ) (i : ℕ) : Type 0 where
  pub value : Json
  pub stands : Sub x t i value
  pub short : length x ≤ 65535

-- the first n words of the table t are those of a value of the text x
pub record Root (x t : List ℕ) (n : ℕ) : Type 0 where
  pub value : Json
  pub stands : Sub x t 0 value
  pub ends : size value ≡ n
  pub short : length x ≤ 65535

-- r is what f gives for the value that stands at the node i
pub record Gives {A : Type 0} (f : Json → A) (x t : List ℕ) (i : ℕ) (r : A) : Type 0 where
  pub is : (v : Json) → Sub x t i v → r ≡ f v

-- what a search gives: the node of what is sought, or none
abbrev pub Found : Type 0
Found = code.Option ℕ

-- a search for a value found its node, or there is no such value
unfoldable pub Finds : List ℕ → List ℕ → Option Json → Found → Type 0
Finds x t o (Some k) = (v : Json) × (o ≡ some v) × Sub x t k v
Finds x t o None = o ≡ none

-- what was found is the answer to some search
pub record Sought (x t : List ℕ) (found : Found) : Type 0 where
  pub answer : Option Json
  pub finds : Finds x t answer found
  pub short : length x ≤ 65535

-- r is what f gives for the value that was found, if there is one
pub record GivesFound {A : Type 0} (f : Option Json → A) (x t : List ℕ) (found : Found) (r : A) : Type 0 where
  pub is : (o : Option Json) → Finds x t o found → r ≡ f o

-- what was found is what f seeks in the value that stands at the node i
pub record Seeks (f : Json → Option Json) (x t : List ℕ) (i : ℕ) (found : Found) : Type 0 where
  pub finds : (v : Json) → Sub x t i v → Finds x t (f v) found
