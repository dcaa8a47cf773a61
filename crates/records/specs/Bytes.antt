-- The bytes of the records of a value, of a part of a city model.
use Rattle.std.specs.Prelude.{List, ◌++◌, ℕ}
use Rattle.std.proofs.Math.Option.{Option}
use Rattle.json_text.specs.Tree.{Json}
use Rattle.nodes.specs.Access.{Member, elements, name_of, text_of}
use Rattle.fields.specs.Fields.{type_text}
use Rattle.words.specs.Words.{object_words, code_of}
use Rattle.utf8.specs.Bytes.{le}
use Rattle.model.specs.Code.{signed, concat_map}
use Rattle.model.specs.Model.{rec, lay_rec, lay_three, lay_decimal, object_recs, object_number, number_object}
use Rattle.model.specs.Read.{get, decimal_of, integer_of, three_of, object_of}
use Rattle.geometry_records.specs.Bytes.{each_in}

-- the numbers of the objects that a list of links names, where these are the objects' IDs
unfoldable pub numbers_in : List (List ℕ) → Option Json → List ℕ
numbers_in ids o = each_in (λ s. le 4 (object_number ids (text_of s))) o

-- a city object's type and ID: kind 3
unfoldable pub identity_bytes : Member → List ℕ
identity_bytes m = lay_rec (rec 3 (le 2 (code_of object_words (type_text m.1)) ++ name_of m))

-- a city object: kinds 3, 4 and 5, and its geometries
unfoldable pub object_bytes : List (List ℕ) → Member → List ℕ
object_bytes ids m = concat_map lay_rec (object_recs (number_object ids (object_of m)))

-- the transform: kind 1
unfoldable pub transform_bytes : Json → List ℕ
transform_bytes v = lay_rec (rec 1 (lay_three lay_decimal (three_of decimal_of (get "scale" v)) ++ lay_three lay_decimal (three_of decimal_of (get "translate" v))))

-- the vertices: kind 2
unfoldable pub vertices_bytes : Json → List ℕ
vertices_bytes v = lay_rec (rec 2 (concat_map (λ w. lay_three (signed 4) (three_of integer_of w)) (elements v)))
