-- The records of a geometry are the bytes of its parts, one after the other.
use Rattle.std.specs.Prelude.{◌≡◌, refl, List, [], ◌∷◌, ◌++◌, map, ℕ}
use Rattle.std.proofs.Common.{sym, ap, ◌∙◌, append_assoc, append-nil}
use Rattle.std.proofs.Math.Option
use Rattle.std.proofs.Math.Option.{Option, none, some}
use Rattle.json_text.specs.Tree.{Json}
use Rattle.nodes.specs.Access.{elements, text_of, find}
use Rattle.fields.specs.Fields.{text_in}
use Rattle.words.specs.Words.{geometry_words, code_of, depth, values_depth}
use Rattle.utf8.specs.Bytes.{le}
use Rattle.model.specs.Code.{concat_map}
use Rattle.model.proofs.Weigh.{each-each}
use Rattle.model.specs.Model.{rec, lay_rec, lod_code, lay_nest, lay_values, surface_recs, semantics_recs, geometry_recs}
use Rattle.model.specs.Read.{get, or_null, index_of, value_of, nest_of, lod_of, surface_of, semantics_of, geometry_of}
use Rattle.arrays.specs.Parts.{each_map}
use Rattle.sheets.specs.Clear.{type-text}
use Rattle.geometry_records.specs.Fits.{geometry_code}
use Rattle.geometry_records.specs.Bytes.{each_in, surface_bytes, values_bytes, semantics_bytes, semantics_in, shape_bytes, geometry_bytes}

-- ---- lists

pub each-++ : {A : Type 0} (enc : A → List ℕ) (l m : List A) → concat_map enc (l ++ m) ≡ concat_map enc l ++ concat_map enc m
unfolding concat_map
each-++ enc [] m = refl
each-++ enc (a ∷ l) m = ap (λ r. enc a ++ r) (each-++ enc l m) ∙ sym (append_assoc (enc a) (concat_map enc l) (concat_map enc m))

-- the text of a member that may be absent
text-get : (name : _) (v : Json) → text_of (get name v) ≡ text_in (find name v)
unfolding get or_null text_of text_in
text-get name v = go (find name v)
  where
    go : (o : Option Json) → text_of (or_null o) ≡ text_in o
    go none = refl
    go (some w) = refl

-- ---- parts

pub semantics-parts : (code : ℕ) (v : Json) → semantics_bytes code v ≡ each_in surface_bytes (find "surfaces" v) ++ values_bytes code (get "values" v)
unfolding semantics_bytes semantics_recs semantics_of values_bytes each_in surface_bytes get concat_map
semantics-parts code v =
    let vs = elements (or_null (find "surfaces" v)) in
    let r = rec 8 (lay_values (values_depth code) (nest_of value_of (values_depth code) (get "values" v))) in
    each-++ lay_rec (concat_map surface_recs (map surface_of vs)) (r ∷ [])
    ∙ ap (λ l. l ++ concat_map lay_rec (r ∷ [])) (each-each surface_recs lay_rec (map surface_of vs) ∙ each_map (λ s. concat_map lay_rec (surface_recs s)) surface_of vs)
    ∙ ap (λ l. concat_map surface_bytes vs ++ l) (append-nil (lay_rec r))

-- semantics that may be absent, of a geometry
semantics-perhaps : (code : ℕ) (o : Option Json) → concat_map lay_rec (semantics_recs code (Option.map (semantics_of code) o)) ≡ semantics_in code o
unfolding semantics_in semantics_recs semantics_bytes concat_map
semantics-perhaps code none = refl
semantics-perhaps code (some v) = refl

-- a geometry's records, by the code of its type and the text of its lod
geometry_from : ℕ → List ℕ → Json → List ℕ
geometry_from code lod v =
    lay_rec (rec 6 (le 2 code ++ le 2 (lod_code (lod_of lod)) ++ lay_nest (depth code) (nest_of index_of (depth code) (get "boundaries" v))))
    ++ concat_map lay_rec (semantics_recs code (Option.map (semantics_of code) (find "semantics" v)))

pub geometry-parts : (v : Json) → geometry_bytes v ≡ shape_bytes (geometry_code v) v ++ semantics_in (geometry_code v) (find "semantics" v)
unfolding geometry_bytes geometry_recs geometry_of shape_bytes geometry_code concat_map geometry_from
geometry-parts v =
    let c = sym (type-text v) in
    let l = text-get "lod" v in
    (λ i. geometry_from (code_of geometry_words (c i)) (l i) v)
    ∙ ap (λ r. shape_bytes (geometry_code v) v ++ r) (semantics-perhaps (geometry_code v) (find "semantics" v))
