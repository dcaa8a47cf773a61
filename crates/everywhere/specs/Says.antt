-- What the private functions ask and tell, which look at one node of any kind: a value's or a name's.
use Rattle.std.specs.Prelude.{◌≡◌, List, [], map, ℕ, ◌+◌, ◌-◌, ◌≤◌, length, get_or}
use Rattle.strings.specs.Strings.{unpaired_from}
use Rattle.strings.specs.Spans.{decode_at}
use Rattle.json_text.specs.Tree.{Json, Name}
use Rattle.json_text.specs.Tree as tree
use Rattle.json_text.specs.Table.{Quoted, Sub}
use Rattle.nodes.specs.Faults.{fault, least}
use Rattle.everywhere.specs.Parts.{Part, value, name}

-- a part stands at the node i
pub data Stands (x t : List ℕ) (i : ℕ) : Part → Type 0 where
  of-value : {v : Json} → Sub x t i v → Stands x t i (value v)
  of-name : {k : Name} → Quoted x t i k.place k.end k.raw → Stands x t i (name k)

-- the places at which a part breaks rule 5 itself, without what it holds
unfoldable pub own5 : Part → List ℕ
unfolding unpaired_from
own5 (value (tree.null p e)) = []
own5 (value (tree.bool p e b)) = []
own5 (value (tree.num p e raw)) = []
own5 (value (tree.str p e raw)) = unpaired_from (p + 1) raw
own5 (value (tree.arr p e vs)) = []
own5 (value (tree.obj p e ms)) = []
own5 (name k) = unpaired_from (k.place + 1) k.raw

-- some part of the text x, which is short enough (rule 1), stands at the node i
pub record AnyPart (x t : List ℕ) (i : ℕ) : Type 0 where
  pub part : Part
  pub stands : Stands x t i part
  pub short : length x ≤ 65535

-- r is the least of b and of the faults of the part that stands at the node i
pub record PartGives (rule : ℕ) (own : Part → List ℕ) (x t : List ℕ) (i b r : ℕ) : Type 0 where
  pub is : (d : Part) → Stands x t i d → r ≡ least b (map (fault rule) (own d))

-- a string, as decoded, that stands at the node k
unfoldable pub text_at : List ℕ → List ℕ → ℕ → List ℕ
unfolding decode_at
text_at x t k = decode_at x (get_or t k 0 + 1) (get_or t (k + 1) 0 - 1)
