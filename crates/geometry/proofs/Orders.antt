-- The checks in the order of the code, and in that of the definition. What an object is checked for is listed here: a member that is added is added to its list.
use Prim.Native.Nat.{ℕ, ◌≤◌}
use mathlib.Core.Path.{◌≡◌, ap, ◌∙◌}
use mathlib.Core.List.{List, [], ◌∷◌, ◌++◌}
use Rattle.utf8.specs.Ascii.{ascii}
use Rattle.words.specs.Words.{geometry_words, code_of}
use Rattle.nodes.specs.Access.{members, first_named, find}
use Rattle.nodes.specs.Faults.{least}
use Rattle.nodes.specs.Says.{Seeks, Gives, GivesFound}
use Rattle.nodes.specs.Says.{Found}
use Rattle.fields.specs.Fields.{type_text, count_in}
use Rattle.shapes.specs.Checks.{Check, all, at, object_kind}
use Rattle.shapes.specs.Says.{Needs}
use Rattle.rules.specs.Schema.{geometry_type, lod, surface_type, boundaries, surface, surfaces, values, semantics, needs_lod, geometry}
use Rattle.geometry.specs.Says.{Checked, CheckedOver, OwnFault, least_with, optional, required, TypeAt, meaning}
use Rattle.geometry.proofs.Lines.{line-none, line-then, line-append, line-object, optional-is, required-then, Part, need, may, other, names, apart, together, gather}
use Rattle.geometry.proofs.Strings.{type-code}

-- what they are checked for: a surface, the semantics of a geometry, and a geometry (its words, its body)
unfoldable pub surface_parts : List Part
surface_parts = need "type" surface_type ∷ []

unfoldable pub semantic_parts : Check → List Part
semantic_parts over = need "surfaces" surfaces ∷ need "values" over ∷ []

unfoldable pub word_parts : ℕ → ℕ → List Part
word_parts object code = other needs_lod ∷ need "type" (geometry_type object code) ∷ may "lod" lod ∷ []

unfoldable pub body_parts : ℕ → ℕ → List Part
body_parts vertices code = need "boundaries" (boundaries vertices code) ∷ other (meaning code) ∷ []

pub surface-is : {x t : List ℕ} {i best r : ℕ} → Checked (all (object_kind ∷ together surface_parts)) x t i best r → Gives (λ v. least best (surface v)) x t i r
unfolding surface surface_parts names apart
surface-is {best = best} g = record { is = λ v s. g.is v s ∙ gather surface_parts v best }

-- its semantics, over so many surfaces
pub semantics-is : {x t : List ℕ} {i best a b n r : ℕ} {every outline : Found} (code : ℕ) → Seeks (λ v. first_named (ascii "surfaces") (members v)) x t i every
    → Gives (λ v. least best (object_kind v)) x t i a → Checked (required (ascii "surfaces") surfaces) x t i a b → GivesFound count_in x t every n
    → CheckedOver (λ o. required (ascii "values") (values n code o)) x t outline i b r → CheckedOver (semantics code) x t outline i best r
unfolding semantics find semantic_parts names apart together
semantics-is {best = best} {n = n} code f u w k h =
    record {
      is = λ o y.
          let last = required (ascii "values") (values n code o) in
          let line = line-object (required (ascii "surfaces") surfaces ∷ last ∷ []) u (line-then (last ∷ []) w (line-then [] (h.is o y) line-none)) in
          record {
            is = λ v s.
                line.is v s
                ∙ (ap (λ (n : ℕ). least best (all (object_kind ∷ together (semantic_parts (values n code o))) v)) (k.is (find "surfaces" v) (f.finds v s))
                ∙ gather (semantic_parts (values (count_in (find "surfaces" v)) code o)) v best);
          };
    }

-- its boundary, of which its own fault is known, and the semantics over it
pub body_is : {x t : List ℕ} {i best a b r : ℕ} {outline own : Found} (vertices code : ℕ) → Seeks (λ v. first_named (ascii "boundaries") (members v)) x t i outline
    → Needs x t outline i best a → a ≤ 4294967295 → OwnFault vertices code x t outline own → b ≡ least_with a own
    → CheckedOver (λ o. optional (ascii "semantics") (semantics code o)) x t outline i b r
    → Checked (all (required (ascii "boundaries") (boundaries vertices code) ∷ meaning code ∷ [])) x t i best r
unfolding meaning find
body_is {a = a} vertices code f n l k e h =
    let c = boundaries vertices code in
    let bounds = required-then (ascii "boundaries") f c n (optional-is (ascii "boundaries") f c (record { is = λ o y. e ∙ k.is o a y l })) in
    line-then (meaning code ∷ []) bounds (line-then [] (record { is = λ v s. (h.is (find "boundaries" v) (f.finds v s)).is v s }) line-none)

pub geometry-is : {x t : List ℕ} {i best a r code : ℕ} {kind : Found} (vertices object : ℕ) → TypeAt geometry_words x t i kind code
    → Checked (all (object_kind ∷ together (word_parts object code))) x t i best a → Checked (all (together (body_parts vertices code))) x t i a r
    → Gives (λ v. least best (geometry vertices object v)) x t i r
unfolding geometry word_parts body_parts meaning optional at find all names apart together
geometry-is {best = best} {code = code} vertices object k g h =
    record {
      is = λ v s.
          let line = line-append (object_kind ∷ together (word_parts object code)) (together (body_parts vertices code)) g h in
          line.is v s
          ∙ (ap (λ (c : ℕ). least best (all (object_kind ∷ together (word_parts object c ++ body_parts vertices c)) v)) (type-code k v s)
          ∙ gather (word_parts object (code_of geometry_words (type_text v)) ++ body_parts vertices (code_of geometry_words (type_text v))) v best);
    }
