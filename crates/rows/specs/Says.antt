-- What the functions over rows ask and tell.
use Rattle.std.specs.Prelude.{ℕ, ◌+◌, ◌<◌, ◌≤◌, ◌≡◌, List, map, ◌++◌, length, get_or, take}
use Prim.Native.String.{String}
use Rattle.std.proofs.Math.Option.{Option}
use Rattle.utf8.specs.Ascii.{ascii}
use Rattle.json_text.specs.Tree.{Json}
use Rattle.json_text.specs.Table.{Sub}
use Rattle.nodes.specs.Access.{Member}
use Rattle.nodes.specs.Says.{Finds, Sought}
use Rattle.nodes.specs.Says.{Found}
use Rattle.fields.specs.Fields.{elements_in}
use Rattle.marks.specs.Marks.{row_of}
use Rattle.marks.specs.Says.{Table}
use Rattle.ids.specs.Says.{Offsets, names_of}
use Rattle.rows.specs.Rows.{link_number, link_numbers, listed_count}

-- the rows have the numbers of the objects that each object lists under a name
pub record Listed (x t offsets : List ℕ) (name : String) (rows : List ℕ) : Type 0 where
  pub table : Table rows (length offsets)
  pub is : (ms : List Member) → Offsets x t ms offsets
      → (k : ℕ) (d : Member) → k < length offsets → row_of rows k ≡ link_numbers (names_of ms) name (get_or ms k d).1

-- a table has room for the rows of what the objects list under a name, and each of its places is a number of sixteen bits
pub record RoomFor (x t offsets : List ℕ) (name : String) (rows : List ℕ) : Type 0 where
  pub all : (ms : List Member) → Offsets x t ms offsets → length offsets + 1 + listed_count name ms ≤ length rows
  pub short : length rows ≤ 65535

-- ---- the private functions

-- r is the number of the object that the value at the node k names; their count, if it names none
pub record LinkGives (x t offsets : List ℕ) (k r : ℕ) : Type 0 where
  pub is : (ms : List Member) → Offsets x t ms offsets → (v : Json) → Sub x t k v → r ≡ link_number (names_of ms) v
  pub low : r ≤ length offsets

-- from the word `at` on there is room for a word for each element of what was found
pub record ListFits (x t : List ℕ) (found : Found) (at : ℕ) (rows : List ℕ) : Type 0 where
  pub sought : Sought x t found
  pub room : at + length (elements_in sought.answer) ≤ length rows
  pub short : length rows ≤ 65535

-- the words before `end` are those that stood before `at`, and ws after them
pub record Appends (ws rows₀ : List ℕ) (at : ℕ) (rows : List ℕ) (end : ℕ) : Type 0 where
  pub ends : end ≡ at + length ws
  pub are : take end rows ≡ take at rows₀ ++ ws

-- the numbers of the objects that the elements of what was found name were written from the word `at` on
pub record ListGives (x t offsets : List ℕ) (found : Found) (rows₀ : List ℕ) (at : ℕ) (rows : List ℕ) (end : ℕ) : Type 0 where
  pub room : length rows ≡ length rows₀
  pub is : (ms : List Member) → Offsets x t ms offsets → (o : Option Json) → Finds x t o found
      → Appends (map (link_number (names_of ms)) (elements_in o)) rows₀ at rows end

-- the bytes ws are a word, and the table has room for the rows of what the objects list under it
pub record RoomForWord (x t offsets ws rows : List ℕ) : Type 0 where
  pub word : String
  pub bytes : ws ≡ ascii word
  pub room : RoomFor x t offsets word rows

-- the rows have the numbers of the objects that each object lists under the word whose bytes are ws
pub record RowsGive (x t offsets ws rows : List ℕ) : Type 0 where
  pub is : (word : String) → ws ≡ ascii word → Listed x t offsets word rows
