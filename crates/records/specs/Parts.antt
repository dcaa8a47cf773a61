-- A sheet is the bytes of its parts, one after the other.
use Rattle.std.specs.Prelude.{◌≡◌, refl, List, [], ◌∷◌, ◌++◌, map, ℕ}
use Rattle.std.proofs.Common.{sym, ap, ◌∙◌, append_assoc, append-nil}
use Rattle.json_text.specs.Tree.{Json}
use Rattle.nodes.specs.Access.{Member, elements, members, name_of, text_of, find}
use Rattle.fields.specs.Fields.{objects_of}
use Rattle.words.specs.Words.{object_words, code_of}
use Rattle.utf8.specs.Bytes.{le}
use Rattle.model.specs.Code.{signed, concat_map}
use Rattle.model.proofs.Weigh.{each-each}
use Rattle.model.specs.Model.{Rec, rec, lay_rec, lay_three, lay_decimal, geometry_recs, object_recs, model_recs, lay_model, object_number, ids_of, number_object, number_model, sheet_of}
use Rattle.model.specs.Read.{get, or_null, decimal_of, integer_of, three_of, geometry_of, object_of, model_of}
use Rattle.arrays.specs.Parts.{each_map}
use Rattle.sheets.specs.Clear.{type-text, objects-members}
use Rattle.ids.specs.Says.{names_of}
use Rattle.geometry_records.specs.Bytes.{each_in, geometry_bytes}
use Rattle.geometry_records.specs.Parts.{each-++}
use Rattle.records.specs.Bytes.{numbers_in, identity_bytes, object_bytes, transform_bytes, vertices_bytes}

-- ---- parts

-- the numbers of linked objects
numbers-map : (ids : List (List ℕ)) (vs : List Json)
    → concat_map (le 4) (map (object_number ids) (map text_of vs)) ≡ concat_map (λ s. le 4 (object_number ids (text_of s))) vs
numbers-map ids vs = each_map (le 4) (object_number ids) (map text_of vs) ∙ each_map (λ t. le 4 (object_number ids t)) text_of vs

-- three records and those after them
three-records : (p q r : Rec) (l : List Rec) → concat_map lay_rec (p ∷ q ∷ r ∷ l) ≡ lay_rec p ++ lay_rec q ++ lay_rec r ++ concat_map lay_rec l
unfolding concat_map
three-records p q r l =
    sym (append_assoc (lay_rec p ++ lay_rec q) (lay_rec r) (concat_map lay_rec l)
    ∙ append_assoc (lay_rec p) (lay_rec q) (lay_rec r ++ concat_map lay_rec l))

pub object-parts : (ids : List (List ℕ)) (m : Member)
    → object_bytes ids m
    ≡ identity_bytes m ++ lay_rec (rec 4 (numbers_in ids (find "children" m.1))) ++ lay_rec (rec 5 (numbers_in ids (find "parents" m.1)))
    ++ each_in geometry_bytes (find "geometry" m.1)
unfolding object_bytes object_recs number_object object_of identity_bytes numbers_in each_in geometry_bytes get
object-parts ids m =
    let v = m.1 in
    let t = sym (type-text v) in
    let c = numbers-map ids (elements (or_null (find "children" v))) in
    let p = numbers-map ids (elements (or_null (find "parents" v))) in
    let gs = elements (or_null (find "geometry" v)) in
    let g = each-each geometry_recs lay_rec (map geometry_of gs) ∙ each_map (λ g. concat_map lay_rec (geometry_recs g)) geometry_of gs in
    three-records
    (rec 3 (le 2 (code_of object_words (text_of (get "type" v))) ++ name_of m))
    (rec 4 (concat_map (le 4) (map (object_number ids) (map text_of (elements (get "children" v))))))
    (rec 5 (concat_map (le 4) (map (object_number ids) (map text_of (elements (get "parents" v))))))
    (concat_map geometry_recs (map geometry_of gs))
    ∙ λ i. lay_rec (rec 3 (le 2 (code_of object_words (t i)) ++ name_of m)) ++ lay_rec (rec 4 (c i)) ++ lay_rec (rec 5 (p i)) ++ g i

-- the IDs of the objects of a model
ids-names : (ms : List Member) → ids_of (map object_of ms) ≡ names_of ms
unfolding ids_of names_of object_of
ids-names [] = refl
ids-names (m ∷ ms) = ap (λ l. name_of m ∷ l) (ids-names ms)

-- two records, some, and one more
ended : (p q : Rec) (l : List Rec) (r : Rec) → concat_map lay_rec (p ∷ q ∷ (l ++ r ∷ [])) ≡ lay_rec p ++ lay_rec q ++ concat_map lay_rec l ++ lay_rec r
unfolding concat_map
ended p q l r =
    ap (λ m. lay_rec p ++ (lay_rec q ++ m)) (each-++ lay_rec l (r ∷ []) ∙ ap (λ m. concat_map lay_rec l ++ m) (append-nil (lay_rec r)))
    ∙ sym (append_assoc (lay_rec p ++ lay_rec q) (concat_map lay_rec l) (lay_rec r) ∙ append_assoc (lay_rec p) (lay_rec q) (concat_map lay_rec l ++ lay_rec r))

pub sheet-parts : (v : Json)
    → sheet_of (model_of v)
    ≡ transform_bytes (get "transform" v) ++ vertices_bytes (get "vertices" v)
    ++ concat_map (object_bytes (names_of (objects_of v))) (objects_of v) ++ lay_rec (rec 9 [])
unfolding sheet_of lay_model model_recs number_model model_of transform_bytes vertices_bytes object_bytes
sheet-parts v =
    let ms = members (get "CityObjects" v) in
    let vs = elements (get "vertices" v) in
    let ids = ids_of (map object_of ms) in
    let w = each_map (lay_three (signed 4)) (three_of integer_of) vs in
    let o =
    each-each object_recs lay_rec (map (number_object ids) (map object_of ms))
    ∙ each_map (λ a. concat_map lay_rec (object_recs a)) (number_object ids) (map object_of ms)
    ∙ each_map (λ a. concat_map lay_rec (object_recs (number_object ids a))) object_of ms in
    let n = ids-names ms in
    let e = sym (objects-members v) in
    ended
    (rec 1 (lay_three lay_decimal (three_of decimal_of (get "scale" (get "transform" v)))
    ++ lay_three lay_decimal (three_of decimal_of (get "translate" (get "transform" v)))))
    (rec 2 (concat_map (lay_three (signed 4)) (map (three_of integer_of) vs)))
    (concat_map object_recs (map (number_object ids) (map object_of ms))) (rec 9 [])
    ∙ (λ i. transform_bytes (get "transform" v) ++ lay_rec (rec 2 (w i)) ++ o i ++ lay_rec (rec 9 []))
    ∙ (λ i. transform_bytes (get "transform" v) ++ vertices_bytes (get "vertices" v) ++ concat_map (object_bytes (n i)) ms ++ lay_rec (rec 9 []))
    ∙ λ i. transform_bytes (get "transform" v) ++ vertices_bytes (get "vertices" v) ++ concat_map (object_bytes (names_of (e i))) (e i) ++ lay_rec (rec 9 [])
