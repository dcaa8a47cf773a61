-- How many bytes a value takes in a text, and that the sheet of no accepted text has 2^32 bytes. How long a sheet is at the most stands in crate `bound`.
use Rattle.std.specs.Prelude.{◌≡◌, refl, Bool, true, false, cond, List, [], ◌∷◌, ◌++◌, map, ℕ, zero, suc, ◌+◌, ◌*◌, ◌^◌, ◌≤◌, ◌<◌, length, get_or, eqb, ℤ}
use Rattle.std.proofs.Common.{ap, length-append}
use Rattle.std.proofs.Math.Option.{Option, some}
use Rattle.std.proofs.Math.Option as option
use native.Mathlib.Omega.{arith}
use Prim.Native.String.{String}
use Rattle.std.proofs.lemmas.List.{length-map}
use Rattle.utf8.specs.Bytes.{le}
use Rattle.model.specs.Code.{All, signed, concat_map}
use Rattle.model.specs.Lists.{all-always}
use Rattle.numerals.specs.Numerals.{Decimal}
use Rattle.words.specs.Words.{depth, values_depth}
use Rattle.model.specs.Model.{Three, Model, Rec, rec}
use Rattle.model.specs.Model as Model
use Rattle.utf8.specs.Utf8.{same}
use Rattle.model.specs.Model.{lay_rec, lay_three, lay_decimal, lod_code, lay_nest, lay_value, lay_values, lay_surface, surface_recs, semantics_recs, geometry_recs, object_recs, end_recs, model_recs, lay_model, number_object, number_model, ids_of, sheet_of}
use Rattle.utf8.specs.Ascii.{ascii}
use Rattle.words.specs.Words.{code_of, surface_words}
use Rattle.strings.specs.Strings.{decode}
use Rattle.json_text.specs.Tree.{Json, null, bool, num, str, arr, obj, Items, no_items, ◌▸◌, Members, empty, member}
use Rattle.nodes.specs.Access.{Member, listed, pairs, elements, members, name_of, text_of, first_named, find}
use Rattle.model.specs.Read.{get, or_null, integer_of, index_of, value_of, three_of, nest_of, surface_named, surface_of, semantics_of, geometry_of, object_of, model_of}
use Rattle.model.proofs.Weigh.{length-le, length-signed, weight, weight-cons, weight-append}

-- how many bytes a value takes in a text, at the least: a bracket or a comma stands before each element and each member, and a name has two quotes and a colon
unfoldable mutual
  pub size : Json → ℕ
  size (null p e) = 1
  size (bool p e b) = 1
  size (num p e raw) = 1
  size (str p e raw) = 2 + length (decode raw)
  size (arr p e vs) = suc (sizes vs)
  size (obj p e ms) = suc (weights ms)

  pub sizes : Items → ℕ
  sizes no_items = 0
  sizes (j ▸ v) = suc (size j) + sizes v

  pub weights : Members → ℕ
  weights empty = 0
  weights (member n j m) = 4 + length (decode n.raw) + size j + weights m

unfoldable pub total : {A : Type 0} → (A → ℕ) → List A → ℕ
total f [] = 0
total f (a ∷ l) = f a + total f l

-- an element with what stands before it
unfoldable pub room : Json → ℕ
room j = suc (size j)

-- a member with what stands before it, its quotes and its colon
unfoldable pub member_room : Member → ℕ
member_room m = 4 + length (name_of m) + size m.1

pub size-pos : (j : Json) → 1 ≤ size j
unfolding size
size-pos (null p e) = omega arith
size-pos (bool p e b) = omega arith
size-pos (num p e raw) = omega arith
size-pos (str p e raw) = omega arith
size-pos (arr p e v) = omega arith
size-pos (obj p e m) = omega arith

listed-size : (v : Items) → total room (listed v) ≤ sizes v
unfolding size total listed room
listed-size no_items = omega arith
listed-size (j ▸ v) = omega (arith, listed-size v)

pairs-size : (m : Members) → total member_room (pairs m) ≤ weights m
unfolding size total pairs member_room name_of
pairs-size empty = omega arith
pairs-size (member n j m) = omega (arith, pairs-size m)

pub elements-size : (j : Json) → total room (elements j) < size j
unfolding size elements total
elements-size (null p e) = omega arith
elements-size (bool p e b) = omega arith
elements-size (num p e raw) = omega arith
elements-size (str p e raw) = omega arith
elements-size (arr p e v) = omega (arith, listed-size v)
elements-size (obj p e m) = omega arith

pub members-size : (j : Json) → total member_room (members j) < size j
unfolding size members total
members-size (null p e) = omega arith
members-size (bool p e b) = omega arith
members-size (num p e raw) = omega arith
members-size (str p e raw) = omega arith
members-size (arr p e v) = omega arith
members-size (obj p e m) = omega (arith, pairs-size m)

pub text-size : (j : Json) → length (text_of j) ≤ size j
unfolding size text_of
text-size (null p e) = omega arith
text-size (bool p e b) = omega arith
text-size (num p e raw) = omega arith
text-size (str p e raw) = omega arith
text-size (arr p e v) = omega arith
text-size (obj p e m) = omega arith

-- the size of what is found, or 0
found : Option Json → ℕ
found option.none = 0
found (some j) = size j

found-cond : (b : Bool) (j : Json) (o : Option Json) (n : ℕ) → size j ≤ n → found o ≤ n → found (cond b (some j) o) ≤ n
unfolding found
found-cond true j o n h k = h
found-cond false j o n h k = k

first-size : (name : List ℕ) (l : List Member) → found (first_named name l) ≤ total member_room l
unfolding first_named total member_room found
first-size name [] = omega arith
first-size name (m ∷ l) = found-cond (same name (name_of m)) m.1 (first_named name l) _ (omega arith) (omega (arith, first-size name l))

find-size : (n : String) (j : Json) → found (find n j) < size j
unfolding find
find-size n j = omega (arith, first-size (ascii n) (members j), members-size j)

or_null-size : (o : Option Json) (n : ℕ) → 1 ≤ n → found o ≤ n → size (or_null o) ≤ n
unfolding or_null found size
or_null-size option.none n h k = h
or_null-size (some j) n h k = k

pub get-size : (n : String) (j : Json) → size (get n j) ≤ size j
unfolding get
get-size n j = or_null-size (find n j) (size j) (size-pos j) (omega (arith, find-size n j))

-- ---- what stands in a value is no larger

total-each : {A : Type 0} (f g : A → ℕ) → ((a : A) → g a ≤ f a) → (n : ℕ) (l : List A) → total f l ≤ n → All (λ a. g a ≤ n) l
unfolding total
total-each f g low n [] h = tt
total-each f g low n (a ∷ l) h = (omega (arith, low a), total-each f g low n l (omega arith))

-- its elements
pub elements-within : (n : ℕ) (j : Json) → size j ≤ n → All (λ k. size k ≤ n) (elements j)
unfolding room
elements-within n j h = total-each room size (λ k. omega arith) n (elements j) (omega (arith, elements-size j))

-- its members
pub members-within : (n : ℕ) (j : Json) → size j ≤ n → All (λ m. size m.1 ≤ n) (members j)
unfolding member_room
members-within n j h = total-each member_room (λ m. size m.1) (λ m. omega arith) n (members j) (omega (arith, members-size j))

-- a member that is found
pub find-within : (n : ℕ) (name : String) (j k : Json) → size j ≤ n → find name j ≡ some k → size k ≤ n
unfolding found
find-within n name j k h e = omega (arith, find-size name j, ap found e)

-- ---- lengths

pub count-size : (l : List Json) → 2 * length l ≤ total room l
unfolding total room
count-size [] = omega arith
count-size (j ∷ l) = omega (arith, size-pos j, count-size l)

-- a value has no more elements than bytes
pub count-within : (j : Json) → length (elements j) ≤ size j
count-within j = omega (arith, count-size (elements j), elements-size j)

each-bound : {A T : Type 0} (enc : A → List T) (f : A → ℕ) (c : ℕ) → ((a : A) → length (enc a) ≤ c * f a) → (l : List A)
    → length (concat_map enc l) ≤ c * total f l
unfolding concat_map total
each-bound enc f c h [] = omega arith
each-bound enc f c h (a ∷ l) = omega (arith, length-append (enc a) (concat_map enc l), h a, each-bound enc f c h l)

each_map : {A B T : Type 0} (enc : B → List T) (f : A → B) (l : List A) → concat_map enc (map f l) ≡ concat_map (λ a. enc (f a)) l
unfolding concat_map
each_map enc f [] = refl
each_map enc f (a ∷ l) = ap (λ r. enc (f a) ++ r) (each_map enc f l)

pub words-length : (l : List ℕ) → length (concat_map (le 4) l) ≤ 4 * length l
unfolding concat_map
words-length [] = omega arith
words-length (n ∷ l) = omega (arith, length-append (le 4 n) (concat_map (le 4) l), length-le 4 n, words-length l)

pub nest-length : (d : ℕ) (j : Json) → length (lay_nest d (nest_of index_of d j)) ≤ 2 * room j
unfolding lay_nest nest_of room
nest-length zero j = omega (arith, length-le 4 (index_of j), size-pos j)
nest-length (suc d) j =
    let l = map (nest_of index_of d) (elements j) in
    let e = ap length (each_map (lay_nest d) (nest_of index_of d) (elements j)) in
    let b = each-bound (λ k. lay_nest d (nest_of index_of d k)) room 2 (nest-length d) (elements j) in
    omega (arith, length-append (le 4 (length l)) (concat_map (lay_nest d) l), length-le 4 (length l), elements-size j)

value-length : (v : Option ℕ) → length (lay_value v) ≡ 4
unfolding lay_value
value-length option.none = length-le 4 _
value-length (some n) = length-le 4 n

pub values_length : (d : ℕ) (j : Json) → length (lay_values d (nest_of value_of d j)) ≤ 2 * room j
unfolding lay_values nest_of room
values_length zero j = omega (arith, value-length (value_of j), size-pos j)
values_length (suc d) j =
    let e = ap length (each_map (lay_values d) (nest_of value_of d) (elements j)) in
    let b = each-bound (λ k. lay_values d (nest_of value_of d k)) room 2 (values_length d) (elements j) in
    omega (arith, elements-size j)

surface-cond : (b : Bool) (w : List ℕ) (c : ℕ) → length (lay_surface (cond b (Model.added w) (Model.listed c))) ≤ 2 + length w
unfolding lay_surface
surface-cond true w c = omega (arith, length-append (le 2 19) w, length-le 2 19)
surface-cond false w c = omega (arith, length-le 2 c)

-- a surface's record, by the text of its type
pub surface-short : (j : Json) → weight (surface_recs (surface_of j)) ≤ 8 + length (text_of (get "type" j))
unfolding surface_recs surface_of surface_named weight concat_map
surface-short j =
    let t = text_of (get "type" j) in
    omega (arith, weight-cons 7 (lay_surface (surface_named t)) [], surface-cond (eqb (get_or t 0 0) 43) t (code_of surface_words t))

surface-weight : (j : Json) → weight (surface_recs (surface_of j)) ≤ 9 * room j
unfolding room
surface-weight j = omega (arith, surface-short j, text-size (get "type" j), get-size "type" j, size-pos j)

-- the weight of what a list of parts gives
pub weight-all : {A B : Type 0} (recs : B → List Rec) (read : A → B) (f : A → ℕ) (c : ℕ) (l : List A) → All (λ a. weight (recs (read a)) ≤ c * f a) l
    → weight (concat_map recs (map read l)) ≤ c * total f l
unfolding concat_map total
weight-all recs read f c [] h = unfold weight in omega arith
weight-all recs read f c (a ∷ l) h = omega (arith, weight-append (recs (read a)) (concat_map recs (map read l)), h.0, weight-all recs read f c l h.1)

semantics-weight : (c : ℕ) (o : Option Json) → weight (semantics_recs c (option.map (semantics_of c) o)) ≤ 19 * found o
unfolding semantics_recs semantics_of found weight concat_map room
semantics-weight c option.none = omega arith
semantics-weight c (some j) =
    let ss = elements (get "surfaces" j) in
    let p = lay_values (values_depth c) (nest_of value_of (values_depth c) (get "values" j)) in
    omega (
      arith,
      weight-append (concat_map surface_recs (map surface_of ss)) (rec 8 p ∷ []),
      weight-cons 8 p [],
      weight-all surface_recs surface_of room 9 ss (all-always surface-weight ss),
      elements-size (get "surfaces" j),
      get-size "surfaces" j,
      values_length (values_depth c) (get "values" j),
      get-size "values" j,
      size-pos j,
    )

geometry-weight : (j : Json) → weight (geometry_recs (geometry_of j)) ≤ 33 * room j
unfolding geometry_recs geometry_of room
geometry-weight j =
    let g = geometry_of j in
    let c = g.code in
    let a = le 2 c in
    let l = le 2 (lod_code g.lod) in
    let b = lay_nest (depth c) (nest_of index_of (depth c) (get "boundaries" j)) in
    omega (
      arith,
      weight-cons 6 (a ++ l ++ b) (semantics_recs c g.semantics),
      length-append (a ++ l) b,
      length-append a l,
      length-le 2 c,
      length-le 2 (lod_code g.lod),
      nest-length (depth c) (get "boundaries" j),
      get-size "boundaries" j,
      semantics-weight c (find "semantics" j),
      find-size "semantics" j,
      size-pos j,
    )

links-length : (ids : List (List ℕ)) (n : String) (j : Json)
    → length (concat_map (le 4) (map (Model.object_number ids) (map text_of (elements (get n j))))) ≤ 4 * size j
links-length ids n j =
    let l = elements (get n j) in
    omega (
      arith,
      words-length (map (Model.object_number ids) (map text_of l)),
      length-map (map text_of l) (Model.object_number ids),
      length-map l text_of,
      count-size l,
      elements-size (get n j),
      get-size n j,
    )

object-weight : (ids : List (List ℕ)) (m : Member) → weight (object_recs (number_object ids (object_of m))) ≤ 61 * member_room m
unfolding object_recs number_object object_of member_room
object-weight ids m =
    let j = m.1 in
    let o = number_object ids (object_of m) in
    let g = concat_map geometry_recs o.geometries in
    let k = elements (get "geometry" j) in
    let a = concat_map (le 4) o.children in
    let b = concat_map (le 4) o.parents in
    omega (
      arith,
      weight-cons 3 (le 2 o.code ++ name_of m) (rec 4 a ∷ rec 5 b ∷ g),
      weight-cons 4 a (rec 5 b ∷ g),
      weight-cons 5 b g,
      length-append (le 2 o.code) (name_of m),
      length-le 2 o.code,
      links-length ids "children" j,
      links-length ids "parents" j,
      weight-all geometry_recs geometry_of room 33 k (all-always geometry-weight k),
      elements-size (get "geometry" j),
      get-size "geometry" j,
      size-pos j,
    )

three-length : (t : Three ℤ) → length (lay_three (signed 4) t) ≡ 12
unfolding lay_three
three-length t = simp (length-append, length-signed)

decimals-length : (t : Three Decimal) → length (lay_three lay_decimal t) ≡ 30
unfolding lay_three lay_decimal
decimals-length t = simp (length-append, length-signed)

vertices-length : (l : List (Three ℤ)) → length (concat_map (lay_three (signed 4)) l) ≡ 12 * length l
unfolding concat_map
vertices-length [] = refl
vertices-length (v ∷ l) = omega (arith, length-append (lay_three (signed 4) v) (concat_map (lay_three (signed 4)) l), three-length v, vertices-length l)

-- numbers for links, done as the objects are read
number-map : (ids : List (List ℕ)) (l : List Member) → map (number_object ids) (map object_of l) ≡ map (λ m. number_object ids (object_of m)) l
number-map ids [] = refl
number-map ids (m ∷ l) = ap (λ r. number_object ids (object_of m) ∷ r) (number-map ids l)

end-weight : weight end_recs ≡ 6
unfolding end_recs weight concat_map lay_rec le
end-weight = refl

-- a sheet by its parts
pub sheet-parts : (j : Json) → let ms = members (get "CityObjects" j) in
    length (sheet_of (model_of j))
    ≤ 78 + 12 * length (elements (get "vertices" j)) + weight (concat_map object_recs (map (λ m. number_object (ids_of (map object_of ms)) (object_of m)) ms))
unfolding sheet_of lay_model model_recs number_model model_of weight concat_map
sheet-parts j =
    let t = model_of j in
    let ids = ids_of t.objects in
    let ms = members (get "CityObjects" j) in
    let vs = elements (get "vertices" j) in
    let six = lay_three lay_decimal t.scale ++ lay_three lay_decimal t.translate in
    let points = concat_map (lay_three (signed 4)) t.vertices in
    let objects = concat_map object_recs (map (number_object ids) (map object_of ms)) in
    omega (
      arith,
      weight-cons 1 six (rec 2 points ∷ (objects ++ end_recs)),
      weight-cons 2 points (objects ++ end_recs),
      weight-append objects end_recs,
      end-weight,
      length-append (lay_three lay_decimal t.scale) (lay_three lay_decimal t.translate),
      decimals-length t.scale,
      decimals-length t.translate,
      vertices-length t.vertices,
      length-map vs (three_of integer_of),
      ap (λ l. weight (concat_map object_recs l)) (number-map ids ms),
    )

-- whatever the tree
sheet-crude : (j : Json) → length (sheet_of (model_of j)) ≤ 78 + 73 * size j
sheet-crude j =
    let ms = members (get "CityObjects" j) in
    let ids = ids_of (map object_of ms) in
    omega (
      arith,
      sheet-parts j,
      count-within (get "vertices" j),
      get-size "vertices" j,
      weight-all object_recs (λ m. number_object ids (object_of m)) member_room 61 ms (all-always (object-weight ids) ms),
      members-size (get "CityObjects" j),
      get-size "CityObjects" j,
    )

-- so the sheet of a text of at most 65,535 bytes is shorter than 2^32 bytes
pub short-enough : (j : Json) → size j ≤ 65535 → length (sheet_of (model_of j)) < 2 ^ 32
short-enough j h = omega (arith, sheet-crude j)
