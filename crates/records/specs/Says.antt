-- What the writers of records ask and tell.
use Rattle.std.specs.Prelude.{◌≡◌, List, ◌++◌, ℕ, ◌+◌, ◌<◌, length, get_or}
use Rattle.json_text.specs.Tree.{Json}
use Rattle.json_text.specs.Table.{Sub}
use Rattle.nodes.specs.Access.{Member}
use Rattle.fields.specs.Fields.{objects_of}
use Rattle.fields.specs.Says.{MemberAt}
use Rattle.ids.specs.Says.{Offsets, Objects, names_of}
use Rattle.rows.specs.Rows.{link_numbers}
use Rattle.rows.specs.Says.{Listed}
use Rattle.utf8.specs.Bytes.{le}
use Rattle.model.specs.Code.{concat_map}
use Rattle.model.specs.Model.{lay_rec, rec, sheet_of}
use Rattle.model.specs.Read.{model_of}
use Rattle.writer.specs.Writes.{Writes}
use Rattle.arrays.specs.Says.{Holds}
use Rattle.records.specs.Fits.{ObjectFits, RootFits}
use Rattle.records.specs.Bytes.{identity_bytes, object_bytes}

-- a record of that kind with the numbers of a row
unfoldable pub link_bytes : ℕ → List ℕ → List ℕ
link_bytes kind row = lay_rec (rec kind (concat_map (le 4) row))

-- the links of an object were to be written: kinds 4 and 5
pub record LinksWrote (children parents d₀ d : List ℕ) (to r : ℕ) : Type 0 where
  pub is : Writes (link_bytes 4 children ++ link_bytes 5 parents) d₀ d to r

-- the type and the ID of the object whose name stands at the node `own` were to be written
pub record IdentityWrote (x t : List ℕ) (own : ℕ) (d₀ d : List ℕ) (to r : ℕ) : Type 0 where
  pub is : (m : Member) → MemberAt x t own m → Writes (identity_bytes m) d₀ d to r

-- the records of the object whose name stands at the node `own` were to be written, where the rows have the numbers of the objects that it lists
pub record ObjectWrote (x t : List ℕ) (own : ℕ) (children parents d₀ d : List ℕ) (to r : ℕ) : Type 0 where
  pub is : (names : List (List ℕ)) (m : Member) → MemberAt x t own m → children ≡ link_numbers names "children" m.1
      → parents ≡ link_numbers names "parents" m.1
      → Writes (object_bytes names m) d₀ d to r

-- each object is as the writers ask, and the rows have what they list
pub record Placed (x t offsets children parents : List ℕ) : Type 0 where
  pub objects : Objects x t offsets
  pub fits : (k : ℕ) → k < length offsets → Holds ObjectFits x t (get_or offsets k 0 + 3)
  pub below : Listed x t offsets "children" children
  pub above : Listed x t offsets "parents" parents

-- the records of all objects were to be written
pub record ObjectsWrote (x t offsets d₀ d : List ℕ) (to r : ℕ) : Type 0 where
  pub is : (ms : List Member) → Offsets x t ms offsets → Writes (concat_map (object_bytes (names_of ms)) ms) d₀ d to r

-- a text as the writers ask stands at the node 0, with the offsets of its objects and the rows of what they list
pub record Ready (x t offsets children parents : List ℕ) : Type 0 where
  pub root : Holds RootFits x t 0
  pub indexed : (v : Json) → Sub x t 0 v → Offsets x t (objects_of v) offsets
  pub below : Listed x t offsets "children" children
  pub above : Listed x t offsets "parents" parents

-- the sheet of the text was to be written
pub record SheetWrote (x t : List ℕ) (d₀ d : List ℕ) (r : ℕ) : Type 0 where
  pub is : (v : Json) → Sub x t 0 v → Writes (sheet_of (model_of v)) d₀ d 0 r
