-- What the functions ask and tell that compare a name with those before it.
use Rattle.std.specs.Prelude.{◌≡◌, Bool, cond, List, [], ◌∷◌, map, ℕ, ◌+◌, ◌≤◌, length, get_or, Option, MatchOption}
use Rattle.strings.specs.Strings.{decode}
use Rattle.json_text.specs.Tree.{Members, member}
use Rattle.json_text.specs.Tree as tree
use Rattle.json_text.specs.Table.{widths, Fields}
use Rattle.nodes.specs.Faults.{fault, least}
use Rattle.nodes.specs.Says.{Gives}
use Rattle.nodes.specs.Laws.{StringAt, fields_of}
use Rattle.everywhere.specs.Everywhere.{among, repeated, rule6}
use Rattle.everywhere.specs.Parts.{Part, value, name}
use Rattle.everywhere.specs.Says.{PartGives, text_at}

-- the places at which a part breaks rule 6 itself, without what it holds
unfoldable pub own6 : Part → List ℕ
unfolding repeated fields_of
own6 (value v) = repeated [] (fields_of v)
own6 (name k) = []

-- o is the least of b and of the faults of the part that stands at the node i, or it is left to another way, of which there are some
pub record PartTells (others rule : ℕ) (own : Part → List ℕ) (x t : List ℕ) (i b : ℕ) (o : Option ℕ) : Type 0 where
  pub told : MatchOption o (others ≡ 0 → ⊥) (λ r. PartGives rule own x t i b r)

-- the same of rule 6 in the value that stands at the node 0
pub record TreeTells (others : ℕ) (x t : List ℕ) (b : ℕ) (o : Option ℕ) : Type 0 where
  pub told : MatchOption o (others ≡ 0 → ⊥) (λ r. Gives (λ v. least b (map (fault 6) (rule6 v))) x t 0 r)

-- the names of some members, decoded, the last first, before the texts `last`
unfoldable pub earlier : List (List ℕ) → Members → List (List ℕ)
unfolding decode
earlier last tree.empty = last
earlier last (member k v ms) = earlier (decode k.raw ∷ last) ms

-- a name at the node k
pub record NameText (x t : List ℕ) (k : ℕ) : Type 0 where
  pub raw : List ℕ
  pub string : StringAt x t k raw

-- a name stands at the node k, and from the node `first` up to it the members before it
pub record NameNode (x t : List ℕ) (first k : ℕ) : Type 0 where
  pub before : Members
  pub stand : Fields x t first before
  pub ends : first + widths before ≡ k
  pub name : NameText x t k
  pub short : length x ≤ 65535

-- r tells whether the name at the node k is among those before it
pub record Repeats (x t : List ℕ) (first k : ℕ) (r : Bool) : Type 0 where
  pub is : (ms : Members) → Fields x t first ms → first + widths ms ≡ k → r ≡ among (earlier [] ms) (text_at x t k)

-- r is the least of b and of the fault of the name at the node k, if it repeats one of those before it
pub record RepeatGives (x t : List ℕ) (first k b r : ℕ) : Type 0 where
  pub is : (ms : Members) → Fields x t first ms → first + widths ms ≡ k
      → r ≡ least b (map (fault 6) (cond (among (earlier [] ms) (text_at x t k)) (get_or t k 0 ∷ []) []))
