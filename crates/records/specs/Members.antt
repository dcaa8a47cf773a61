-- What the writers ask and tell of the members of an object and of the root, and of the payload of their records. A name is written as bytes.
use Rattle.std.specs.Prelude.{List, ◌++◌, ℕ}
use Rattle.utf8.specs.Ascii.{ascii}
use Rattle.utf8.specs.Bytes.{le}
use Rattle.json_text.specs.Tree.{Json}
use Rattle.nodes.specs.Access.{Member, members, name_of, first_named}
use Rattle.words.specs.Words.{object_words, code_of}
use Rattle.fields.specs.Fields.{type_text}
use Rattle.fields.specs.Says.{MemberAt}
use Rattle.model.specs.Model.{lay_three, lay_decimal}
use Rattle.model.specs.Read.{get, or_null, decimal_of, three_of}
use Rattle.writer.specs.Writes.{Writes}
use Rattle.records.specs.Bytes.{transform_bytes, vertices_bytes}

-- the bytes that f gives for the object whose name stands at the node `own` were to be written
pub record MemberWrote (f : Member → List ℕ) (x t : List ℕ) (own : ℕ) (d₀ d : List ℕ) (to r : ℕ) : Type 0 where
  pub is : (m : Member) → MemberAt x t own m → Writes (f m) d₀ d to r

-- ---- the bytes of a member

-- three pairs
unfoldable pub pairs_member : List ℕ → Json → List ℕ
pairs_member name v = lay_three lay_decimal (three_of decimal_of (or_null (first_named name (members v))))

-- the transform and the vertices of the root, and both
unfoldable pub transform_member : Json → List ℕ
transform_member v = transform_bytes (or_null (first_named (ascii "transform") (members v)))

unfoldable pub vertices_member : Json → List ℕ
vertices_member v = vertices_bytes (or_null (first_named (ascii "vertices") (members v)))

unfoldable pub frame_bytes : Json → List ℕ
frame_bytes v = transform_member v ++ vertices_member v

-- ---- the payload of a record

-- an object's type and ID
unfoldable pub identity_payload : Member → List ℕ
identity_payload m = le 2 (code_of object_words (type_text m.1)) ++ name_of m

-- the transform
unfoldable pub transform_payload : Json → List ℕ
transform_payload v = lay_three lay_decimal (three_of decimal_of (get "scale" v)) ++ lay_three lay_decimal (three_of decimal_of (get "translate" v))
