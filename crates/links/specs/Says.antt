-- What the functions over links ask and tell.
use Rattle.std.specs.Prelude.{◌≡◌, false, List, [], ◌∷◌, ◌++◌, map, ℕ, ◌*◌, ◌^◌, ◌<◌, ◌≤◌, length, get_or}
use Prim.Native.String.{String}
use Rattle.words.specs.Words as word
use Rattle.json_text.specs.Tree.{Json}
use Rattle.json_text.specs.Table.{Sub}
use Rattle.model.specs.Code.{concat_map}
use Rattle.model.specs.Model.{object_number}
use Rattle.nodes.specs.Access.{Member, elements}
use Rattle.nodes.specs.Faults.{least}
use Rattle.nodes.specs.Says.{Node}
use Rattle.fields.specs.Fields.{listed_in, type_text, objects_of}
use Rattle.utf8.specs.Ascii.{ascii}
use Rattle.ids.specs.Says.{Offsets, Objects, names_of}
use Rattle.marks.specs.Says.{Row}
use Rattle.rows.specs.Rows.{link_number, link_numbers}
use Rattle.rows.specs.Says.{Listed}
use Rattle.rules.specs.Links.{ids_among, parent_link, links_of_each, link_faults}
use Rattle.links.specs.declared.City.{City}
use Rattle.links.specs.Passes.{absent_at, absent, listed_under, absent_under, open_at, open_in, open_children, open_parents}

-- the numbers of the objects that some IDs name
unfoldable pub numbers_of : List Member → List (List ℕ) → List ℕ
numbers_of ms ids = map (object_number (names_of ms)) ids

-- r is the least of best and of the fault of rule 15 of the value at the node k, of which the number is that of its object; the set g has those
-- listed earlier, g' this one too
pub record AbsentGives (x t : List ℕ) (k number count : ℕ) (g g' : List ℕ) (best r : ℕ) : Type 0 where
  pub room : length g' ≡ length g
  pub is : (ms : List Member) → count ≡ length ms → (v : Json) → Sub x t k v → number ≡ link_number (names_of ms) v
      → (earlier : List (List ℕ)) → Row count g 0 (numbers_of ms earlier)
      → (r ≡ least best (absent_at ms earlier v)) × (Row count g' 0 (numbers_of ms (ids_among (v ∷ []) ++ earlier)))

-- there is a number for each element of a value that stands at the node i
pub record Sized (x t : List ℕ) (i : ℕ) (ns : List ℕ) : Type 0 where
  pub node : Node x t i
  pub all : length ns ≡ length (elements node.value)

-- r is the least of best and of the faults of rule 15 of the list that stands at the node i, of which the numbers are those of its objects
pub record AbsentsGive (x t : List ℕ) (i : ℕ) (ns : List ℕ) (count best r : ℕ) : Type 0 where
  pub is : (ms : List Member) → count ≡ length ms → (v : Json) → Sub x t i v → ns ≡ map (link_number (names_of ms)) (elements v)
      → r ≡ least best (absent ms [] (elements v))

-- there is a number for each value that the value at the node i lists under a name
pub record SizedUnder (x t : List ℕ) (i : ℕ) (name ns : List ℕ) : Type 0 where
  pub node : Node x t i
  pub all : length ns ≡ length (listed_under name node.value)

-- rule 15 of what the value at the node i lists under a name
pub record AbsentUnder (x t : List ℕ) (i : ℕ) (name ns : List ℕ) (count best r : ℕ) : Type 0 where
  pub is : (ms : List Member) → count ≡ length ms → (v : Json) → Sub x t i v → ns ≡ map (link_number (names_of ms)) (listed_under name v)
      → r ≡ least best (absent ms [] (listed_under name v))

-- the objects, and the rows of what they list under a name, which is given as bytes
pub record ListedAs (x t offsets name rows : List ℕ) : Type 0 where
  pub objects : Objects x t offsets
  pub word : String
  pub bytes : name ≡ ascii word
  pub listed : Listed x t offsets word rows

-- r is the least of best and of the faults f of the object of number k, where the first argument of f are all objects
pub record ObjectGives (x t offsets : List ℕ) (f : List Member → Member → List ℕ) (k best r : ℕ) : Type 0 where
  pub is : (ms : List Member) → Offsets x t ms offsets → (d : Member) → r ≡ least best (f ms (get_or ms k d))

-- the same of all objects
pub record AllGive (x t offsets : List ℕ) (f : List Member → Member → List ℕ) (best r : ℕ) : Type 0 where
  pub is : (ms : List Member) → Offsets x t ms offsets → r ≡ least best (concat_map (f ms) ms)

-- the set g has a row for each object, with the numbers of what it lists under `back`
pub record OtherSide (ms : List Member) (back : String) (g : List ℕ) : Type 0 where
  pub room : length g ≡ length ms * 128
  pub few : length ms ≤ 1024
  pub is : (n : ℕ) (d : Member) → n < length ms → Row (length ms) g n (link_numbers (names_of ms) back (get_or ms n d).1)

-- rule 15 of what all objects list under a name; the set g, which was g₀, has it then
pub record Fills (x t offsets name g₀ g : List ℕ) (best r : ℕ) : Type 0 where
  pub faults : AllGive x t offsets (absent_under name) best r
  pub room : length g ≡ length g₀
  pub set : (ms : List Member) → Offsets x t ms offsets → (back : String) → name ≡ ascii back → OtherSide ms back g

-- the objects, no two of which have the same ID: the number of each ID is its place. The rows have what they list under a name, and the set what they
-- list under `back`
pub record Links (x t offsets : List ℕ) (name : String) (rows : List ℕ) (back : String) (g : List ℕ) : Type 0 where
  pub objects : Objects x t offsets
  pub alone : (ms : List Member) → Offsets x t ms offsets → (k : ℕ) → k < length offsets → object_number (names_of ms) (get_or (names_of ms) k []) ≡ k
  pub listed : Listed x t offsets name rows
  pub set : (ms : List Member) → Offsets x t ms offsets → OtherSide ms back g

-- r is the least of best and of the fault of rule 17 of the value at the node k, of a list of the object of number `own`
pub record OpenGives (x t : List ℕ) (k number : ℕ) (g : List ℕ) (own best r : ℕ) : Type 0 where
  pub is : (ms : List Member) (back : String) → OtherSide ms back g → (id : List ℕ) → own ≡ object_number (names_of ms) id → own < length ms
      → (v : Json) → Sub x t k v → number ≡ link_number (names_of ms) v → r ≡ least best (open_at ms back id false v)

-- the same of the list that stands at the node i
pub record OpensGive (x t : List ℕ) (i : ℕ) (ns g : List ℕ) (own best r : ℕ) : Type 0 where
  pub is : (ms : List Member) (back : String) → OtherSide ms back g → (id : List ℕ) → own ≡ object_number (names_of ms) id → own < length ms
      → (v : Json) → Sub x t i v → ns ≡ map (link_number (names_of ms)) (elements v) → r ≡ least best (open_in ms back id false (elements v))

-- the same of what the value at the node i lists under a name
pub record OpenUnder (x t : List ℕ) (i : ℕ) (name ns g : List ℕ) (own best r : ℕ) : Type 0 where
  pub is : (ms : List Member) (back : String) → OtherSide ms back g → (id : List ℕ) → own ≡ object_number (names_of ms) id → own < length ms
      → (v : Json) → Sub x t i v → ns ≡ map (link_number (names_of ms)) (listed_under name v) → r ≡ least best (open_in ms back id false (listed_under name v))

-- the same of its children, which are excused if it is a group
pub record ChildrenOpen (x t : List ℕ) (i : ℕ) (ns g : List ℕ) (own best r : ℕ) : Type 0 where
  pub is : (ms : List Member) (back : String) → OtherSide ms back g → (id : List ℕ) → own ≡ object_number (names_of ms) id → own < length ms
      → (v : Json) → Sub x t i v → ns ≡ map (link_number (names_of ms)) (listed_in "children" v)
      → r ≡ least best (open_in ms back id (word.is "CityObjectGroup" (type_text v)) (listed_in "children" v))

-- rule 16 of the object at the node i, which lists so many parents
pub record ParentGives (x t : List ℕ) (i count best r : ℕ) : Type 0 where
  pub is : (v : Json) → Sub x t i v → count ≡ length (listed_in "parents" v) → r ≡ least best (parent_link v)

-- rules 16 and 17 of all objects
pub record OpenFaults (x t offsets : List ℕ) (best r : ℕ) : Type 0 where
  pub is : (ms : List Member) → Offsets x t ms offsets → r ≡ least (least best (concat_map (open_children ms) ms)) (concat_map (open_parents ms) ms)

-- the set g is empty, and has a row for each of `count` objects
pub record Empty (g : List ℕ) (count : ℕ) : Type 0 where
  pub room : length g ≡ count * 128
  pub clear : (i : ℕ) → get_or g i 0 ≡ 0

-- a check may be called at each of `count` objects, by the object's number and the least fault so far
pub record CheckedAt (count : ℕ) (pre : ℕ → ℕ → Type 0) : Type 0 where
  pub at : (k b : ℕ) → k < count → b < 2 ^ 32 → pre k b

-- r is the least of best and of the faults of each object, if what the check gives is that of one
pub record EachGives (offsets : List ℕ) (post : ℕ → ℕ → ℕ → Type 0) (best r : ℕ) : Type 0 where
  pub is : (x t : List ℕ) (f : List Member → Member → List ℕ)
      → ((k b r : ℕ) → k < length offsets → b < 2 ^ 32 → post k b r → ObjectGives x t offsets f k b r) → AllGive x t offsets f best r

-- the objects, no two of which have the same ID, with the rows of what they list
pub record Town (c : City) : Type 0 where
  pub objects : Objects c.text.now c.table.now c.offsets.now
  pub alone : (ms : List Member) → Offsets c.text.now c.table.now ms c.offsets.now
      → (k : ℕ) → k < length c.offsets.now → object_number (names_of ms) (get_or (names_of ms) k []) ≡ k
  pub below : Listed c.text.now c.table.now c.offsets.now "children" c.children.now
  pub above : Listed c.text.now c.table.now c.offsets.now "parents" c.parents.now

-- rule 15 of all objects; the sets g and p, which were g₀ and p₀, have who lists whom as a child, and as a parent
pub record Marks (c : City) (g₀ g p₀ p : List ℕ) (best r : ℕ) : Type 0 where
  pub faults : (ms : List Member) → Offsets c.text.now c.table.now ms c.offsets.now
      → r ≡ least (least best (concat_map (absent_under (ascii "children") ms) ms)) (concat_map (absent_under (ascii "parents") ms) ms)
  pub room-below : length g ≡ length g₀
  pub room-above : length p ≡ length p₀
  pub up : Links c.text.now c.table.now c.offsets.now "children" c.children.now "parents" p
  pub down : Links c.text.now c.table.now c.offsets.now "parents" c.parents.now "children" g

-- rules 15 to 17 of all objects
pub record LinkFaults (x t offsets : List ℕ) (best r : ℕ) : Type 0 where
  pub is : (ms : List Member) → Offsets x t ms offsets → r ≡ least best (links_of_each ms ms)

-- a value of a text that is short enough stands at the node 0; the offsets are those of its city objects, no two of which have the same ID (rule 6),
-- and the rows have what they list
pub record Ready (x t offsets children parents : List ℕ) : Type 0 where
  pub value : Json
  pub stands : Sub x t 0 value
  pub short : length x ≤ 65535
  pub indexed : (v : Json) → Sub x t 0 v → Offsets x t (objects_of v) offsets
  pub alone : (k : ℕ) → k < length (objects_of value) → object_number (names_of (objects_of value)) (get_or (names_of (objects_of value)) k []) ≡ k
  pub below : Listed x t offsets "children" children
  pub above : Listed x t offsets "parents" parents

-- r is the least of best and the faults of the links of the value that stands at the node 0
pub record LinksGive (x t : List ℕ) (best r : ℕ) : Type 0 where
  pub is : (v : Json) → Sub x t 0 v → r ≡ least best (link_faults v)
