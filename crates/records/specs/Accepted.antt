-- A tree in which rules 7 to 14 find no fault, of a text that is not too long, is as the writers ask.
use Rattle.std.specs.Prelude.{ℕ, ◌^◌, ◌≤◌, ◌≡◌, true, length, eqb}
use Rattle.std.proofs.Common.{arith, eqb-true}
use mathlib.Core.List.{List, [], ◌∷◌}
use Rattle.numerals.specs.Numerals.{pair_of}
use Rattle.words.specs.Words.{object_words, code_of}
use Rattle.json_text.specs.Tree.{Json}
use Rattle.json_text.specs.Machine.{read, reads}
use Rattle.nodes.specs.Access.{is_number_value, is_array_value, elements, members, Member, find}
use Rattle.shapes.specs.Checks.{Check, at, for_each, each_element, values, object_kind, string_kind, number_kind, array_kind, is_some, needs}
use Rattle.shapes.specs.Shapes.{is_integer_value, three_entries, pair_range, coordinate, vertex}
use Rattle.fields.specs.Fields.{type_text, count_in}
use Rattle.rules.specs.Schema.{geometry, geometries, links, city_object, city_objects, three_pairs, transform, vertices, city_json}
use Rattle.model.specs.Code.{All}
use Rattle.model.specs.Lists.{all_both}
use Rattle.model.specs.Read.{get}
use Rattle.model.proofs.Size.{size, get-size, members-within}
use Rattle.sheets.specs.Clear.{nil-left, nil-right, kept, implied, is-string, numeral-ok, clear, has, at_some, each-clear, objects-members}
use Rattle.sheets.specs.Numbers.{coordinate-clear, vertex-clear}
use Rattle.sheets.specs.Short.{tree-within}
use Rattle.sheets.specs.Faultless.{object_checks, root_checks, objects-clear}
use Rattle.arrays.specs.Fits.{Pair, Coordinate, Elements, Triple}
use Rattle.geometry_records.specs.Fits.{GeometryFits}
use Rattle.geometry_records.specs.Accepted.{Small, Fit, array-fits, has-fits, perhaps-fits, count_small, geometry-fits}
use Rattle.records.specs.Fits.{Text, ObjectFits, TransformFits, RootFits}

-- ---- numbers

-- three numbers of a transform
pairs-fit : Fit three_pairs (Triple Pair)
unfolding three_pairs Triple Elements Pair each_element number_kind three_entries pair_range array_kind
pairs-fit v h e =
    let (a, (n, (t, (p, r)))) = clear (array_kind ∷ each_element number_kind ∷ three_entries ∷ each_element pair_range ∷ []) v e in (
      eqb-true _ _ (implied (is_array_value v) (eqb (length (elements v)) 3) (kept (is_array_value v) 7 v a) (kept _ 12 v t)),
      all_both (λ w. number_kind w ≡ []) (λ w. pair_range w ≡ []) Pair one (elements v)
          (each-clear number_kind (elements v) n) (each-clear pair_range (elements v) p),
    )
  where
    one : (w : Json) → number_kind w ≡ [] → pair_range w ≡ [] → Pair w
    one w n p = let k = kept (is_number_value w) 7 w n in (k, numeral-ok 13 (λ raw. is_some (pair_of raw)) w k p)

-- a vertex
vertex-fits : Fit vertex (Triple Coordinate)
unfolding Triple Elements Coordinate
vertex-fits v h e =
    let (l, i, c) = vertex-clear v e in
    let both = all_both (λ w. is_integer_value w ≡ true) (λ w. coordinate w ≡ []) Coordinate (λ w p q. (p, coordinate-clear w p q)) in
    (l, both (elements v) i (each-clear coordinate (elements v) c))

-- ---- the root

string-fits : Fit string_kind Text
unfolding Text
string-fits v h e = is-string v e

object-fits : (n : ℕ) → n ≤ 2 ^ 32 → Fit (city_object n) ObjectFits
unfolding city_object links geometries
object-fits n most v h e =
    let c = code_of object_words (type_text v) in
    let (o, (d, (t, (a, (k, (p, (g, r))))))) = clear (object_checks n v) v e in
    record {
      children = perhaps-fits links (Elements Text) (array-fits string_kind Text string-fits) "children" v h k;
      parents = perhaps-fits links (Elements Text) (array-fits string_kind Text string-fits) "parents" v h p;
      geometries = perhaps-fits (geometries n c) (Elements GeometryFits) (array-fits (geometry n c) GeometryFits (geometry-fits n most c)) "geometry" v h g;
    }

transform-fits : Fit transform TransformFits
unfolding transform
transform-fits v h e =
    let (o, (n, (s, (t, r)))) = clear (object_kind ∷ needs ("scale" ∷ "translate" ∷ []) ∷ at "scale" three_pairs ∷ at "translate" three_pairs ∷ []) v e in
    let (a, (b, z)) = has ("scale" ∷ "translate" ∷ []) v o n in
    record { scale = has-fits three_pairs (Triple Pair) pairs-fit "scale" v h a s; translate = has-fits three_pairs (Triple Pair) pairs-fit "translate" v h b t }

module _ (c : Check) (P : Json → Type 0) (one : Fit c P) where
  -- a member's value
  members-fit : (ms : List Member) → All (λ m. Small m.1) ms → for_each c (values ms) ≡ [] → All (λ m. P m.1) ms
  unfolding for_each values
  members-fit [] h e = tt
  members-fit (m ∷ ms) h e = (one m.1 h.0 (nil-left (c m.1) _ e), members-fit ms h.1 (nil-right (c m.1) _ e))

-- a tree with no fault
pub fits : (v : Json) → size v ≤ 65535 → city_json v ≡ [] → RootFits v
unfolding city_json vertices
fits v h e =
    let n = count_in (find "vertices" v) in
    let (o, (d, (t, (k, (f, (c, (p, r))))))) = clear (root_checks n) v e in
    let (x, (y, (z, (w, (u, q))))) = has ("type" ∷ "version" ∷ "transform" ∷ "CityObjects" ∷ "vertices" ∷ []) v o d in
    let j = get "CityObjects" v in
    record {
      transform = has-fits transform TransformFits transform-fits "transform" v h z f;
      vertices = has-fits vertices (Elements (Triple Coordinate)) (array-fits vertex (Triple Coordinate) vertex-fits) "vertices" v h u p;
      objects =
          rw (objects-members v)
          (members-fit (city_object n) ObjectFits (object-fits n (count_small "vertices" v h)) (members j)
          (members-within 65535 j (omega (arith, get-size "CityObjects" v))) (objects-clear n j (at_some "CityObjects" (city_objects n) v w c)));
    }

-- so the tree of a text that is not too long
pub text-fits : (x : List ℕ) (v : Json) → length x ≤ 65535 → read x ≡ reads v → city_json v ≡ [] → RootFits v
text-fits x v h e c = fits v (tree-within 65535 x v h e) c
