-- The checks in the order of the code, and in that of the definition. What an object is checked for is listed here: a member that is added is added to its list.
use Prim.Native.Nat.{ℕ}
use mathlib.Core.Path.{ap, ◌∙◌}
use mathlib.Core.List.{List, [], ◌∷◌, ◌++◌}
use Rattle.utf8.specs.Ascii.{ascii}
use Rattle.words.specs.Words.{object_words, code_of}
use Rattle.nodes.specs.Access.{members, first_named, find}
use Rattle.nodes.specs.Faults.{least}
use Rattle.nodes.specs.Says.{Seeks, GivesFound}
use Rattle.nodes.specs.Says.{Found}
use Rattle.fields.specs.Fields.{type_text, count_in}
use Rattle.shapes.specs.Checks.{Check, all, object_kind}
use Rattle.rules.specs.Schema.{word, object_type, geometries, links, city_object, three_pairs, transform, city_objects, vertices, city_json}
use Rattle.geometry.specs.Says.{Checked, required, TypeAt}
use Rattle.geometry.proofs.Lines.{Part, need, may, names, apart, together, gather}
use Rattle.geometry.proofs.Strings.{type-code}
use Rattle.schema.specs.Says.{objects}

-- what they are checked for: a city object, a transform, and a root but for its city objects and vertices
unfoldable pub object_parts : ℕ → ℕ → List Part
object_parts vertices code =
    need "type" object_type ∷ may "attributes" object_kind ∷ may "children" links ∷ may "parents" links ∷ may "geometry" (geometries vertices code) ∷ []

unfoldable pub transform_parts : List Part
transform_parts = need "scale" three_pairs ∷ need "translate" three_pairs ∷ []

unfoldable pub root_parts : List Part
root_parts = need "type" (word "CityJSON") ∷ need "version" (word "2.0") ∷ need "transform" transform ∷ []

-- ---- a city object

pub city-object-is : {x t : List ℕ} {i best r code : ℕ} {kind : Found} (vertices : ℕ) → TypeAt object_words x t i kind code
    → Checked (all (object_kind ∷ together (object_parts vertices code))) x t i best r → Checked (city_object vertices) x t i best r
unfolding city_object object_parts names apart
city-object-is {best = best} vertices k g =
    record {
      is = λ v s.
          g.is v s
          ∙ (ap (λ (c : ℕ). least best (all (object_kind ∷ together (object_parts vertices c)) v)) (type-code k v s)
          ∙ gather (object_parts vertices (code_of object_words (type_text v))) v best);
    }

-- ---- the root

pub transform-is : {x t : List ℕ} {i best r : ℕ} → Checked (all (object_kind ∷ together transform_parts)) x t i best r → Checked transform x t i best r
unfolding transform transform_parts names apart
transform-is {best = best} g = record { is = λ v s. g.is v s ∙ gather transform_parts v best }

-- its city objects, over the vertices that were counted
pub town-is : {x t : List ℕ} {best n r : ℕ} {points : Found} → Seeks (λ v. first_named (ascii "vertices") (members v)) x t 0 points → GivesFound count_in x t points n
    → Checked (all (required (ascii "CityObjects") (city_objects n) ∷ required (ascii "vertices") vertices ∷ [])) x t 0 best r
    → Checked (all (objects ∷ required (ascii "vertices") vertices ∷ [])) x t 0 best r
unfolding objects all find
town-is {best = best} f k g =
    record {
      is = λ v s.
          let over : ℕ → Check = λ n. required (ascii "CityObjects") (city_objects n) in
          g.is v s ∙ ap (λ (n : ℕ). least best (all (over n ∷ required (ascii "vertices") vertices ∷ []) v)) (k.is (find "vertices" v) (f.finds v s));
    }

pub root_is : {x t : List ℕ} {best r : ℕ} → Checked (all (object_kind ∷ together root_parts ++ objects ∷ required (ascii "vertices") vertices ∷ [])) x t 0 best r
    → Checked city_json x t 0 best r
unfolding city_json root_parts objects all names apart together
root_is {best = best} g =
    record { is = λ v s. g.is v s ∙ gather (root_parts ++ need "CityObjects" (city_objects (count_in (find "vertices" v))) ∷ need "vertices" vertices ∷ []) v best }
