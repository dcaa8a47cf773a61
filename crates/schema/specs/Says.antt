-- What the walk over a node table asks and tells.
use Rattle.std.specs.Prelude.{◌≡◌, List, [], ◌∷◌, length, drop, replicate, ℕ, ◌≤◌}
use Rattle.std.proofs.Math.Option.{Option}
use Rattle.utf8.specs.Ascii.{ascii}
use Rattle.json_text.specs.Tree.{Json}
use Rattle.json_text.specs.Table.{Sub}
use Rattle.nodes.specs.Access.{Member, members, find}
use Rattle.nodes.specs.Faults.{least}
use Rattle.nodes.specs.Says.{Finds}
use Rattle.nodes.specs.Says.{Found}
use Rattle.std.specs.Prelude.{Some, None}
use Rattle.fields.specs.Fields.{members_in, count_in, objects_of}
use Rattle.fields.specs.Says.{MemberAt, Indexed}
use Rattle.fields.specs.declared.Index.{Index}
use Rattle.shapes.specs.Checks.{Check}
use Rattle.rules.specs.Schema.{name_fault, city_objects}
use Rattle.geometry.specs.Says.{required}

-- the check of a root's city objects over its vertices
unfoldable pub objects : Check
unfolding required ascii city_objects count_in find
objects v = required (ascii "CityObjects") (city_objects (count_in (find "vertices" v))) v

-- what was found is the node of the name of the first of some members, or there are none
unfoldable pub Extra : List ℕ → List ℕ → List Member → Found → Type 0
Extra x t ms (Some k) = (m : Member) × (rest : List Member) × (ms ≡ m ∷ rest) × MemberAt x t k m
Extra x t ms None = ms ≡ []

-- some members' first is named there
pub record Named (x t : List ℕ) (found : Found) : Type 0 where
  pub members : List Member
  pub extra : Extra x t members found
  pub short : length x ≤ 65535

-- r is the least of best and the fault of rule 9 at the name that was found, if there are more members
pub record Limited (x t : List ℕ) (extra : Found) (best r : ℕ) : Type 0 where
  pub is : (ms : List Member) → Extra x t ms extra → r ≡ least best (name_fault ms)

-- what was found is the name of the 1,025th member of the value that stands at the node i, or of what was found, if there are so many
pub record ExtraAt (x t : List ℕ) (i : ℕ) (extra : Found) : Type 0 where
  pub is : (v : Json) → Sub x t i v → Extra x t (drop 1024 (members v)) extra

pub record ExtraFound (x t : List ℕ) (found extra : Found) : Type 0 where
  pub is : (o : Option Json) → Finds x t o found → Extra x t (drop 1024 (members_in o)) extra

-- an index of no members
pub record Empty (index : Index) : Type 0 where
  pub offsets : index.offsets ≡ replicate 1024 0
  pub count : index.count ≡ 0

-- the index of its first 1,024 members, and the node of the name of the next
pub record FillsAt (x t : List ℕ) (i : ℕ) (index : Index) (extra : Found) : Type 0 where
  pub indexed : (v : Json) → Sub x t i v → Indexed x t (members v) index
  pub more : ExtraAt x t i extra

pub record Fills (x t : List ℕ) (found : Found) (index : Index) (extra : Found) : Type 0 where
  pub indexed : (o : Option Json) → Finds x t o found → Indexed x t (members_in o) index
  pub more : ExtraFound x t found extra

-- the index of the city objects of the value that stands at the node 0
pub record IndexedAt (x t : List ℕ) (index : Index) : Type 0 where
  pub is : (v : Json) → Sub x t 0 v → Indexed x t (objects_of v) index
