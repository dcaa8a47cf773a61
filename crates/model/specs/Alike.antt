-- Alike texts, and that they read as the same model (docs/SHEET.md, "Alike texts").
use Rattle.std.specs.Prelude.{◌≡◌, refl, List, [], ◌∷◌, map, ℕ, zero, suc, length, get_or}
use Rattle.std.proofs.Common.{sym, ap, ◌∙◌}
use Rattle.std.proofs.Math.Option.{Option, some}
use Rattle.std.proofs.Math.Option as option
use Prim.Native.String.{String}
use Rattle.words.specs.Words.{depth, values_depth}
use Rattle.model.specs.Good.{Both}
use Rattle.words.specs.Words.{code_of, geometry_words, object_words}
use Rattle.numerals.specs.Numerals.{decimal, whole_of}
use Rattle.strings.specs.Strings.{decode}
use Rattle.json_text.specs.Tree.{Json, null, bool, num, str, arr, obj, Items, no_items, ◌▸◌, Members, empty, member}
use Rattle.nodes.specs.Access.{Member, listed, pairs, elements, members, name_of, text_of, first_named, find}
use Rattle.model.specs.Read.{get, or_null, maybe_decimal, zero_if_none, decimal_of, integer_of, natural, index_of, value_of, three_of, nest_of, lod_of, surface_named, surface_of, semantics_of, geometry_of, object_of, model_of}

-- ---- the definition

-- two JSON values agree: "members are matched by name in any order, .. arrays go in order, names and strings as decoded, numbers by value"
unfoldable mutual
  pub Same : Json → Json → Type 0
  Same (null p e) k = (q f : ℕ) × (k ≡ null q f)
  Same (bool p e b) k = (q f : ℕ) × (k ≡ bool q f b)
  Same (num p e raw) k = (q f : ℕ) × (raw' : List ℕ) × (k ≡ num q f raw') × (decimal raw ≡ decimal raw')
  Same (str p e raw) k = (q f : ℕ) × (raw' : List ℕ) × (k ≡ str q f raw') × (decode raw ≡ decode raw')
  Same (arr p e vs) k = (q f : ℕ) × (us : Items) × (k ≡ arr q f us) × SameAll vs (listed us)
  Same (obj p e ms) k = (q f : ℕ) × (ns : Members) × (k ≡ obj q f ns) × (length (pairs ms) ≡ length (pairs ns)) × SameIn ms (pairs ns)

  pub SameAll : Items → List Json → Type 0
  SameAll no_items [] = Unit {0}
  SameAll no_items (k ∷ l) = ⊥
  SameAll (j ▸ v) [] = ⊥
  SameAll (j ▸ v) (k ∷ l) = Same j k × SameAll v l

  pub SameIn : Members → List Member → Type 0
  SameIn empty l = Unit {0}
  SameIn (member n j m) l = (k : Json) × (first_named (decode n.raw) l ≡ some k) × Same j k × SameIn m l

-- what is examined of a value
pub data Shape : Type 0 where
  -- all of it
  whole : Shape
  -- an array: this of each element
  list : Shape → Shape
  -- an object: this of each member's value, and the names, in text order
  entries : Shape → Shape
  -- an object: this of the member of this name, and more
  field : String → Shape → Shape → Shape
  -- nothing more
  none-else : Shape

-- both absent, or both present with R between them
abbrev pub Perhaps : (Json → Json → Type 0) → Option Json → Option Json → Type 0
Perhaps R option.none option.none = Unit {0}
Perhaps R option.none (some k) = ⊥
Perhaps R (some j) option.none = ⊥
Perhaps R (some j) (some k) = R j k

-- two values agree in what is examined of them
unfoldable pub Agree : Shape → Json → Json → Type 0
Agree whole j k = Same j k
Agree (list s) j k = Both (Agree s) (elements j) (elements k)
Agree (entries s) j k = Both (λ a b. (name_of a ≡ name_of b) × Agree s a.1 b.1) (members j) (members k)
Agree (field n s r) j k = Perhaps (Agree s) (find n j) (find n k) × Agree r j k
Agree none-else j k = Unit {0}

-- "The unexamined members, those examined by rules 1 to 7 only, are left out first; no city object is left out": what is examined
unfoldable pub surface_shape : Shape
surface_shape = field "type" whole none-else

unfoldable pub semantics_shape : Shape
semantics_shape = field "surfaces" (list surface_shape) (field "values" whole none-else)

unfoldable pub geometry_shape : Shape
geometry_shape = field "type" whole (field "lod" whole (field "boundaries" whole (field "semantics" semantics_shape none-else)))

unfoldable pub object_shape : Shape
object_shape = field "type" whole (field "children" whole (field "parents" whole (field "geometry" (list geometry_shape) none-else)))

unfoldable pub transform_shape : Shape
transform_shape = field "scale" whole (field "translate" whole none-else)

unfoldable pub root_shape : Shape
root_shape =
    field "type" whole (field "version" whole (field "transform" transform_shape
    (field "CityObjects" (entries object_shape) (field "vertices" whole none-else))))

-- "Two accepted texts are alike when their JSON values agree in this way: .. those of `CityObjects` are compared in text order"
unfoldable pub Alike : Json → Json → Type 0
Alike = Agree root_shape

-- ---- the law

-- values that agree have one text
pub same_text : (j k : Json) → Same j k → text_of j ≡ text_of k
unfolding Same text_of
same_text (null p e) k s = sym (ap text_of s.2)
same_text (bool p e b) k s = sym (ap text_of s.2)
same_text (num p e raw) k s = sym (ap text_of s.3)
same_text (str p e raw) k s = s.4 ∙ sym (ap text_of s.3)
same_text (arr p e vs) k s = sym (ap text_of s.3)
same_text (obj p e ms) k s = sym (ap text_of s.3)

same_number : (j k : Json) → Same j k → maybe_decimal j ≡ maybe_decimal k
unfolding Same maybe_decimal
same_number (null p e) k s = sym (ap maybe_decimal s.2)
same_number (bool p e b) k s = sym (ap maybe_decimal s.2)
same_number (num p e raw) k s = ap some s.4 ∙ sym (ap maybe_decimal s.3)
same_number (str p e raw) k s = sym (ap maybe_decimal s.3)
same_number (arr p e vs) k s = sym (ap maybe_decimal s.3)
same_number (obj p e ms) k s = sym (ap maybe_decimal s.3)

same-all : (v : Items) (l : List Json) → SameAll v l → Both Same (listed v) l
unfolding Same listed
same-all no_items [] s = tt
same-all no_items (k ∷ l) s = s
same-all (j ▸ v) [] s = s
same-all (j ▸ v) (k ∷ l) s = (s.0, same-all v l s.1)

same-elements : (j k : Json) → Same j k → Both Same (elements j) (elements k)
unfolding Same elements
same-elements (null p e) k s = rw s.2 tt
same-elements (bool p e b) k s = rw s.2 tt
same-elements (num p e raw) k s = rw s.3 tt
same-elements (str p e raw) k s = rw s.3 tt
same-elements (arr p e vs) k s = rw s.3 (same-all vs (listed s.2) s.4)
same-elements (obj p e ms) k s = rw s.3 tt

map_both : {A B C : Type 0} (R : A → B → Type 0) (f : A → C) (g : B → C) → ((a : A) (b : B) → R a b → f a ≡ g b)
    → (l : List A) (m : List B) → Both R l m → map f l ≡ map g m
map_both R f g one [] [] r = refl
map_both R f g one [] (b ∷ m) r = absurd r
map_both R f g one (a ∷ l) [] r = absurd r
map_both R f g one (a ∷ l) (b ∷ m) r =
    let p = one a b r.0 in
    let q = map_both R f g one l m r.1 in
    λ i. p i ∷ q i

get_or-both : (l m : List Json) (n : ℕ) → Both Same l m → Same (get_or l n (null 0 0)) (get_or m n (null 0 0))
unfolding Same
get_or-both [] [] n r = (0, 0, refl)
get_or-both [] (b ∷ m) n r = absurd r
get_or-both (a ∷ l) [] n r = absurd r
get_or-both (a ∷ l) (b ∷ m) zero r = r.0
get_or-both (a ∷ l) (b ∷ m) (suc n) r = get_or-both l m n r.1

-- what reads alike values alike
abbrev Respects : {A : Type 0} → Shape → (Json → A) → Type 0
Respects s read = (j k : Json) → Agree s j k → read j ≡ read k

text-r : Respects whole text_of
unfolding Agree
text-r = same_text

decimal-r : Respects whole decimal_of
unfolding Agree decimal_of
decimal-r j k s = ap zero_if_none (same_number j k s)

integer-r : Respects whole integer_of
unfolding integer_of
integer-r j k s = ap whole_of (decimal-r j k s)

index-r : Respects whole index_of
unfolding index_of
index-r j k s = ap natural (integer-r j k s)

value-r : Respects whole value_of
unfolding Agree value_of
value-r j k s = ap (option.map (λ d. natural (whole_of d))) (same_number j k s)

three-r : {A : Type 0} (read : Json → A) → Respects whole read → Respects whole (three_of read)
unfolding Agree three_of
three-r read r j k s =
    let e = same-elements j k s in
    let at : (n : ℕ) → read (get_or (elements j) n (null 0 0)) ≡ read (get_or (elements k) n (null 0 0)) = λ n. r _ _ (get_or-both (elements j) (elements k) n e) in
    λ i. record { x = at 0 i; y = at 1 i; z = at 2 i }

map-r : {A : Type 0} (read : Json → A) → Respects whole read → Respects whole (λ j. map read (elements j))
unfolding Agree
map-r read r j k s = map_both Same read read r (elements j) (elements k) (same-elements j k s)

nest-r : {A : Type 0} (read : Json → A) → Respects whole read → (d : ℕ) → Respects whole (nest_of read d)
unfolding nest_of
nest-r read r zero = r
nest-r read r (suc d) = map-r (nest_of read d) (nest-r read r d)

list-r : {A : Type 0} (s : Shape) (read : Json → A) → Respects s read → Respects (list s) (λ j. map read (elements j))
unfolding Agree
list-r s read r j k a = map_both (Agree s) read read r (elements j) (elements k) a

-- a member that both have or both lack
get-r : {A : Type 0} (s : Shape) (read : Json → A) → Respects s read → (n : String) (j k : Json) → Perhaps (Agree s) (find n j) (find n k)
    → read (get n j) ≡ read (get n k)
unfolding get or_null
get-r s read r n j k p = go (find n j) (find n k) p
  where
    go : (a b : Option Json) → Perhaps (Agree s) a b → read (or_null a) ≡ read (or_null b)
    go option.none option.none q = refl
    go option.none (some b) q = absurd q
    go (some a) option.none q = absurd q
    go (some a) (some b) q = r a b q

find-r : {A : Type 0} (s : Shape) (read : Json → A) → Respects s read → (a b : Option Json) → Perhaps (Agree s) a b → option.map read a ≡ option.map read b
find-r s read r option.none option.none p = refl
find-r s read r option.none (some b) p = absurd p
find-r s read r (some a) option.none p = absurd p
find-r s read r (some a) (some b) p = ap some (r a b p)

surface-r : Respects surface_shape surface_of
unfolding surface_shape surface_of Agree
surface-r j k a = ap surface_named (get-r whole text_of text-r "type" j k a.0)

semantics-r : (c : ℕ) → Respects semantics_shape (semantics_of c)
unfolding semantics_shape semantics_of Agree
semantics-r c j k a =
    let p = get-r (list surface_shape) (λ x. map surface_of (elements x)) (list-r surface_shape surface_of surface-r) "surfaces" j k a.0 in
    let q = get-r whole (nest_of value_of (values_depth c)) (nest-r value_of value-r (values_depth c)) "values" j k a.1.0 in
    λ i. record { surfaces = p i; values = q i }

geometry-r : Respects geometry_shape geometry_of
unfolding geometry_shape geometry_of Agree
geometry-r j k a =
    let p = get-r whole text_of text-r "type" j k a.0 in
    let l = get-r whole text_of text-r "lod" j k a.1.0 in
    let b : (d : ℕ) → nest_of index_of d (get "boundaries" j) ≡ nest_of index_of d (get "boundaries" k) =
    λ d. get-r whole (nest_of index_of d) (nest-r index_of index-r d) "boundaries" j k a.1.1.0 in
    let s : (c : ℕ) → option.map (semantics_of c) (find "semantics" j) ≡ option.map (semantics_of c) (find "semantics" k) =
    λ c. find-r semantics_shape (semantics_of c) (semantics-r c) (find "semantics" j) (find "semantics" k) a.1.1.1.0 in
    λ i. let c = code_of geometry_words (p i) in record { code = c; lod = lod_of (l i); boundary = b (depth c) i; semantics = s c i }

object-r : (m n : Member) → (name_of m ≡ name_of n) × Agree object_shape m.1 n.1 → object_of m ≡ object_of n
unfolding object_shape object_of Agree
object-r m n a =
    let j = m.1 in
    let k = n.1 in
    let t = get-r whole text_of text-r "type" j k a.1.0 in
    let c = get-r whole (λ x. map text_of (elements x)) (map-r text_of text-r) "children" j k a.1.1.0 in
    let p = get-r whole (λ x. map text_of (elements x)) (map-r text_of text-r) "parents" j k a.1.1.1.0 in
    let g = get-r (list geometry_shape) (λ x. map geometry_of (elements x)) (list-r geometry_shape geometry_of geometry-r) "geometry" j k a.1.1.1.1.0 in
    λ i. record { id = a.0 i; code = code_of object_words (t i); children = c i; parents = p i; geometries = g i }

scale-r : Respects transform_shape (λ x. three_of decimal_of (get "scale" x))
unfolding transform_shape Agree
scale-r j k a = get-r whole (three_of decimal_of) (three-r decimal_of decimal-r) "scale" j k a.0

translate-r : Respects transform_shape (λ x. three_of decimal_of (get "translate" x))
unfolding transform_shape Agree
translate-r j k a = get-r whole (three_of decimal_of) (three-r decimal_of decimal-r) "translate" j k a.1.0

objects-r : Respects (entries object_shape) (λ x. map object_of (members x))
unfolding Agree
objects-r j k a = map_both _ object_of object_of object-r (members j) (members k) a

-- "Alike texts read as the same town"
pub alike-same-model : (j k : Json) → Alike j k → model_of j ≡ model_of k
unfolding Alike root_shape model_of Agree
alike-same-model j k a =
    let t = a.1.1.0 in
    let s = get-r transform_shape (λ x. three_of decimal_of (get "scale" x)) scale-r "transform" j k t in
    let r = get-r transform_shape (λ x. three_of decimal_of (get "translate" x)) translate-r "transform" j k t in
    let o = get-r (entries object_shape) (λ x. map object_of (members x)) objects-r "CityObjects" j k a.1.1.1.0 in
    let v =
    get-r whole (λ x. map (three_of integer_of) (elements x)) (map-r (three_of integer_of) (three-r integer_of integer-r)) "vertices" j k a.1.1.1.1.0 in
    λ i. record { scale = s i; translate = r i; vertices = v i; objects = o i }
