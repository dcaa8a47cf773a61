-- The sheet of a tree that has what rules 7, 8 and 12 ask for is at most twice as long as the tree's size.
use Rattle.std.specs.Prelude.{◌≡◌, refl, Bool, true, false, cond, not, ◌&&◌, List, [], ◌∷◌, ◌++◌, map, ℕ, ◌+◌, ◌*◌, ◌≤◌, ◌<◌, length}
use Rattle.std.proofs.Common.{ap, subst, arith, length-append}
use Rattle.std.proofs.Math.Option.{Option, some}
use Rattle.std.proofs.Math.Option as option
use Prim.Native.String.{String}
use Rattle.std.proofs.lemmas.Bool.{not-true}
use Rattle.std.proofs.lemmas.List.{length-map}
use Rattle.utf8.specs.Ascii.{ascii}
use Rattle.utf8.specs.Bytes.{le}
use Rattle.utf8.specs.Utf8.{same}
use Rattle.utf8.specs.Laws.{both_left, both_right, same-equal}
use Rattle.words.specs.Words.{depth, values_depth}
use Rattle.json_text.specs.Tree.{Json, null}
use Rattle.nodes.specs.Access.{Member, elements, members, name_of, text_of, first_named, find}
use Rattle.model.specs.Code.{All, concat_map}
use Rattle.model.specs.Lists.{all_map}
use Rattle.model.specs.Model.{rec, lod_code, lay_nest, lay_values, surface_recs, semantics_recs, geometry_recs, object_recs, object_number, number_object, ids_of, sheet_of}
use Rattle.model.specs.Read.{get, or_null, index_of, value_of, nest_of, surface_of, semantics_of, geometry_of, object_of, model_of}
use Rattle.model.proofs.Weigh.{length-le, weight, weight-cons, weight-append}
use Rattle.model.proofs.Size.{size, total, room, member_room, size-pos, elements-size, members-size, text-size, count-size, words-length, nest-length, values_length, surface-short, weight-all, sheet-parts}

-- ---- what the bound asks of a tree

-- the member is there
abbrev pub Present : String → Json → Type 0
Present n j = find n j ≡ some (get n j)

abbrev pub FullVertex : Json → Type 0
FullVertex j = 3 ≤ length (elements j)

abbrev pub FullGeometry : Json → Type 0
FullGeometry j = Present "type" j × All (Present "type") (elements (get "surfaces" (get "semantics" j)))

abbrev pub FullObject : Member → Type 0
FullObject m = Present "type" m.1 × All FullGeometry (elements (get "geometry" m.1))

pub record Full (j : Json) : Type 0 where
  pub transform : Present "transform" j
  pub city_objects : Present "CityObjects" j
  pub vertices : Present "vertices" j
  pub objects : All FullObject (members (get "CityObjects" j))
  pub points : All FullVertex (elements (get "vertices" j))

-- ---- members of different names take no more together than their object

-- what a member takes, if it is there: a bracket or a comma, two quotes, its name, a colon, its value
spent : List ℕ → Option Json → ℕ
spent w option.none = 0
spent w (some j) = 4 + length w + size j

spent_in : List (List ℕ) → List Member → ℕ
spent_in [] l = 0
spent_in (w ∷ ws) l = spent w (first_named w l) + spent_in ws l

-- no name in the list is this one
free : List ℕ → List (List ℕ) → Bool
free x [] = true
free x (w ∷ ws) = not (same w x) && free x ws

-- no two names in the list are one
apart : List (List ℕ) → Bool
apart [] = true
apart (w ∷ ws) = free w ws && apart ws

spent-cond : (w : List ℕ) (j : Json) (o : Option Json) (b : Bool) → b ≡ false → spent w (cond b (some j) o) ≡ spent w o
spent-cond w j o b e = ap (λ c. spent w (cond c (some j) o)) e

-- a member of another name changes nothing
stays : (m : Member) (l : List Member) (ws : List (List ℕ)) → free (name_of m) ws ≡ true → spent_in ws (m ∷ l) ≡ spent_in ws l
unfolding spent_in free first_named
stays m l [] e = refl
stays m l (w ∷ ws) e =
    let p = spent-cond w m.1 (first_named w l) (same w (name_of m)) (not-true (same w (name_of m)) (both_left _ (free (name_of m) ws) e)) in
    let q = stays m l ws (both_right (not (same w (name_of m))) _ e) in
    λ i. p i + q i

-- any other adds no more than it takes
one_more : (m : Member) (l : List Member) (ws : List (List ℕ)) → apart ws ≡ true → spent_in ws (m ∷ l) ≤ member_room m + spent_in ws l
unfolding spent_in apart first_named spent member_room
one_more m l [] e = omega arith
one_more m l (w ∷ ws) e = go (same w (name_of m)) refl (one_more m l ws (both_right (free w ws) _ e))
  where
    go : (b : Bool) → same w (name_of m) ≡ b → spent_in ws (m ∷ l) ≤ member_room m + spent_in ws l
        → spent w (cond b (some m.1) (first_named w l)) + spent_in ws (m ∷ l) ≤ member_room m + (spent w (first_named w l) + spent_in ws l)
    go true q h =
        let n = same-equal w (name_of m) q in
        omega (arith, ap length n, stays m l ws (subst (λ x. free x ws ≡ true) n (both_left _ (apart ws) e)))
    go false q h = omega arith

spent-none : (ws : List (List ℕ)) → spent_in ws [] ≡ 0
unfolding spent_in first_named spent
spent-none [] = refl
spent-none (w ∷ ws) = omega (arith, spent-none ws)

together : (ws : List (List ℕ)) → apart ws ≡ true → (l : List Member) → spent_in ws l ≤ total member_room l
unfolding total
together ws e [] = omega (arith, spent-none ws)
together ws e (m ∷ l) = omega (arith, one_more m l ws e, together ws e l)

-- what the member of this name takes in a value
spent_by : String → Json → ℕ
spent_by n j = spent (ascii n) (find n j)

-- what the members of several names take
takes : List String → Json → ℕ
takes [] j = 0
takes (n ∷ ns) j = spent_by n j + takes ns j

takes-in : (ns : List String) (j : Json) → takes ns j ≡ spent_in (map ascii ns) (members j)
unfolding takes spent_by spent_in find
takes-in [] j = refl
takes-in (n ∷ ns) j = ap (λ k. spent_by n j + k) (takes-in ns j)

takes-most : (ns : List String) → apart (map ascii ns) ≡ true → (j : Json) → takes ns j < size j
takes-most ns e j = omega (arith, takes-in ns j, together (map ascii ns) e (members j), members-size j)

-- a member that is there, with a name of k bytes
has-spent : (n : String) (k : ℕ) → length (ascii n) ≡ k → (j : Json) → Present n j → spent_by n j ≡ 4 + k + size (get n j)
unfolding spent_by spent
has-spent n k e j h = omega (arith, e, ap (spent (ascii n)) h)

-- what is made of a member, or of null where it is absent
get-most : (f : Json → ℕ) (c b : ℕ) → f (null 0 0) ≤ b → ((k : Json) → f k ≤ b + c * size k) → (n : String) (j : Json) → f (get n j) ≤ b + c * spent_by n j
unfolding get spent_by or_null spent
get-most f c b z h n j = go (find n j)
  where
    go : (o : Option Json) → f (or_null o) ≤ b + c * spent (ascii n) o
    go option.none = omega arith
    go (some k) = omega (arith, h k)

elements-spent : (n : String) (j : Json) → total room (elements (get n j)) ≤ spent_by n j
unfolding elements total
elements-spent n j = omega (arith, get-most (λ k. total room (elements k)) 1 0 (omega arith) (λ k. omega (arith, elements-size k)) n j)

text-spent : (n : String) (j : Json) → length (text_of (get n j)) ≤ spent_by n j
unfolding text_of
text-spent n j = omega (arith, get-most (λ k. length (text_of k)) 1 0 (omega arith) (λ k. omega (arith, text-size k)) n j)

nest-spent : (d : ℕ) (n : String) (j : Json) → length (lay_nest d (nest_of index_of d (get n j))) ≤ 4 + 2 * spent_by n j
unfolding room size
nest-spent d = get-most (λ k. length (lay_nest d (nest_of index_of d k))) 2 4 (omega (arith, nest-length d (null 0 0))) (λ k. omega (arith, nest-length d k))

values-spent : (d : ℕ) (n : String) (j : Json) → length (lay_values d (nest_of value_of d (get n j))) ≤ 4 + 2 * spent_by n j
unfolding room size
values-spent d =
    get-most (λ k. length (lay_values d (nest_of value_of d k))) 2 4 (omega (arith, values_length d (null 0 0))) (λ k. omega (arith, values_length d k))

-- a vertex takes eight bytes
vertices-room : (l : List Json) → All FullVertex l → 8 * length l ≤ total room l
unfolding total room
vertices-room [] h = omega arith
vertices-room (v ∷ l) h = omega (arith, h.0, count-size (elements v), elements-size v, vertices-room l h.1)

-- ---- the parts of a sheet

surface-most : (j : Json) → Present "type" j → weight (surface_recs (surface_of j)) ≤ 2 * room j
unfolding takes apart free ascii same room
surface-most j h =
    omega (arith, surface-short j, text-spent "type" j, has-spent "type" 4 refl j h, size-pos (get "type" j), takes-most ("type" ∷ []) refl j)

semantics-most : (c : ℕ) (o : Option Json) → All (Present "type") (elements (get "surfaces" (or_null o)))
    → weight (semantics_recs c (option.map (semantics_of c) o)) ≤ 2 * spent (ascii "semantics") o
unfolding semantics_recs semantics_of spent weight concat_map or_null takes apart free ascii same
semantics-most c option.none h = omega arith
semantics-most c (some j) h =
    let ss = elements (get "surfaces" j) in
    let p = lay_values (values_depth c) (nest_of value_of (values_depth c) (get "values" j)) in
    omega (
      arith,
      weight-append (concat_map surface_recs (map surface_of ss)) (rec 8 p ∷ []),
      weight-cons 8 p [],
      weight-all surface_recs surface_of room 2 ss (all_map surface-most ss h),
      elements-spent "surfaces" j,
      values-spent (values_depth c) "values" j,
      takes-most ("surfaces" ∷ "values" ∷ []) refl j,
    )

geometry-most : (j : Json) → FullGeometry j → weight (geometry_recs (geometry_of j)) ≤ 2 * room j
unfolding geometry_recs geometry_of room takes spent_by get apart free ascii same
geometry-most j h =
    let s = geometry_of j in
    let c = s.code in
    let a = le 2 c in
    let l = le 2 (lod_code s.lod) in
    let b = lay_nest (depth c) (nest_of index_of (depth c) (get "boundaries" j)) in
    omega (
      arith,
      weight-cons 6 (a ++ l ++ b) (semantics_recs c s.semantics),
      length-append (a ++ l) b,
      length-append a l,
      length-le 2 c,
      length-le 2 (lod_code s.lod),
      nest-spent (depth c) "boundaries" j,
      semantics-most c (find "semantics" j) h.1,
      has-spent "type" 4 refl j h.0,
      takes-most ("type" ∷ "boundaries" ∷ "semantics" ∷ []) refl j,
    )

links-most : (ids : List (List ℕ)) (n : String) (j : Json)
    → length (concat_map (le 4) (map (object_number ids) (map text_of (elements (get n j))))) ≤ 2 * spent_by n j
links-most ids n j =
    let l = elements (get n j) in
    omega (
      arith,
      words-length (map (object_number ids) (map text_of l)),
      length-map (map text_of l) (object_number ids),
      length-map l text_of,
      count-size l,
      elements-spent n j,
    )

object-most : (ids : List (List ℕ)) (m : Member) → FullObject m → weight (object_recs (number_object ids (object_of m))) ≤ 2 * member_room m
unfolding object_recs number_object object_of member_room takes apart free ascii same
object-most ids m h =
    let j = m.1 in
    let o = number_object ids (object_of m) in
    let g = concat_map geometry_recs o.geometries in
    let k = elements (get "geometry" j) in
    let a = concat_map (le 4) o.children in
    let b = concat_map (le 4) o.parents in
    omega (
      arith,
      weight-cons 3 (le 2 o.code ++ name_of m) (rec 4 a ∷ rec 5 b ∷ g),
      weight-cons 4 a (rec 5 b ∷ g),
      weight-cons 5 b g,
      length-append (le 2 o.code) (name_of m),
      length-le 2 o.code,
      links-most ids "children" j,
      links-most ids "parents" j,
      weight-all geometry_recs geometry_of room 2 k (all_map geometry-most k h.1),
      elements-spent "geometry" j,
      has-spent "type" 4 refl j h.0,
      takes-most ("type" ∷ "children" ∷ "parents" ∷ "geometry" ∷ []) refl j,
    )

-- ---- the whole sheet

pub sheet-most : (j : Json) → Full j → length (sheet_of (model_of j)) ≤ 2 * size j
unfolding takes apart free ascii same
sheet-most j h =
    let ms = members (get "CityObjects" j) in
    let ids = ids_of (map object_of ms) in
    omega (
      arith,
      sheet-parts j,
      vertices-room (elements (get "vertices" j)) h.points,
      elements-size (get "vertices" j),
      weight-all object_recs (λ m. number_object ids (object_of m)) member_room 2 ms (all_map (object-most ids) ms h.objects),
      members-size (get "CityObjects" j),
      has-spent "transform" 9 refl j h.transform,
      has-spent "CityObjects" 11 refl j h.city_objects,
      has-spent "vertices" 8 refl j h.vertices,
      size-pos (get "transform" j),
      takes-most ("transform" ∷ "CityObjects" ∷ "vertices" ∷ []) refl j,
    )
