-- A tree with no fault has what the bound asks for: members that are there, and three entries in each vertex (rules 7, 8 and 12).
use Rattle.std.specs.Prelude.{ℕ, ◌≡◌, List, [], ◌∷◌, ◌++◌, map}
use Prim.Native.String.{String}
use Rattle.std.proofs.Common.{arith}
use Rattle.std.proofs.Math.Option.{Option}
use Rattle.words.specs.Words.{code_of, object_words, geometry_words}
use Rattle.json_text.specs.Tree.{Json, null}
use Rattle.nodes.specs.Access.{Member, elements, members, find}
use Rattle.nodes.specs.Faults.{fault}
use Rattle.everywhere.specs.Everywhere.{rule5, rule6}
use Rattle.fields.specs.Fields.{type_text, count_in}
use Rattle.shapes.specs.Checks.{Check, all, at, each_element, for_each, values, object_kind, array_kind, needs}
use Rattle.shapes.specs.Shapes.{vertex}
use Rattle.rules.specs.Schema.{surface_type, surface, surfaces, semantics, geometry, geometries, city_object, city_objects, vertices, city_json}
use Rattle.rules.specs.Schema as schema
use Rattle.rules.specs.Links.{link_faults}
use Rattle.verdict.specs.Verdict.{faults}
use Rattle.model.specs.Code.{All}
use Rattle.model.specs.Lists.{all-in-map}
use Rattle.model.specs.Read.{get, or_null}
use Rattle.sheets.specs.Clear.{nil-left, nil-right, clear, has, found, at_some, at_null, list-good}
use Rattle.sheets.specs.Numbers.{vertex-clear}
use Rattle.sheets.specs.Faultless.{geometry_checks, object_checks, root_checks, objects-clear}
use Rattle.bound.specs.Length.{Present, FullVertex, FullGeometry, FullObject, Full}

-- each element of a member that is an array, if it is there
elements-full : (c : Check) (P : Json → Type 0) → ((v : Json) → c v ≡ [] → P v) → (n : String) (v : Json)
    → at n (all (array_kind ∷ each_element c ∷ [])) v ≡ [] → All P (elements (get n v))
elements-full c P one n v e = all-in-map P (λ w. w) (elements (get n v)) (list-good c (λ w. w) P one n v e)

surface-full : (v : Json) → surface v ≡ [] → Present "type" v
unfolding surface
surface-full v e =
    let (o, (n, r)) = clear (object_kind ∷ needs ("type" ∷ []) ∷ at "type" surface_type ∷ []) v e in
    found "type" v (has ("type" ∷ []) v o n).0

semantics-full : (c : ℕ) (b : Option Json) (v : Json) → semantics c b v ≡ [] → All (Present "type") (elements (get "surfaces" v))
unfolding semantics surfaces
semantics-full c b v e =
    let (o, (n, (f, r))) = clear (object_kind ∷ needs ("surfaces" ∷ "values" ∷ []) ∷ at "surfaces" surfaces
    ∷ at "values" (schema.values (count_in (find "surfaces" v)) c b) ∷ []) v e in
    elements-full surface (Present "type") surface-full "surfaces" v f

-- there are none where there are no semantics
no-surfaces : All (Present "type") (elements (get "surfaces" (null 0 0)))
unfolding get or_null find members elements
no-surfaces = tt

geometry-full : (n object : ℕ) (v : Json) → geometry n object v ≡ [] → FullGeometry v
unfolding geometry at
geometry-full n object v e =
    let c = code_of geometry_words (type_text v) in
    let b = find "boundaries" v in
    let (o, (d, (l, (t, (k, (f, (s, r))))))) = clear (geometry_checks n object c b) v e in (
      found "type" v (has ("type" ∷ "boundaries" ∷ []) v o d).0,
      at_null (semantics c b) (λ j. All (Present "type") (elements (get "surfaces" j))) (semantics-full c b) no-surfaces "semantics" v s,
    )

object-full : (n : ℕ) (m : Member) → city_object n m.1 ≡ [] → FullObject m
unfolding city_object geometries
object-full n m e =
    let v = m.1 in
    let c = code_of object_words (type_text v) in
    let (o, (d, (t, (a, (k, (p, (g, r))))))) = clear (object_checks n v) v e in
    (found "type" v (has ("type" ∷ []) v o d).0, elements-full (geometry n c) FullGeometry (geometry-full n c) "geometry" v g)

objects-full : (n : ℕ) (ms : List Member) → for_each (city_object n) (values ms) ≡ [] → All FullObject ms
unfolding for_each values
objects-full n [] e = tt
objects-full n (m ∷ ms) e = (object-full n m (nil-left (city_object n m.1) _ e), objects-full n ms (nil-right (city_object n m.1) _ e))

vertex-full : (v : Json) → vertex v ≡ [] → FullVertex v
vertex-full v e = omega (arith, (vertex-clear v e).0)

-- rules 7 to 14, of all that a tree may break
schema-clear : (v : Json) → faults v ≡ [] → city_json v ≡ []
unfolding faults
schema-clear v e =
    let low = map (fault 5) (rule5 v) ++ map (fault 6) (rule6 v) in
    nil-right low (city_json v) (nil-left (low ++ city_json v) (link_faults v) e)

-- the whole tree
pub full : (v : Json) → faults v ≡ [] → Full v
unfolding city_json vertices
full v e =
    let n = count_in (find "vertices" v) in
    let (o, (d, (t, (k, (f, (c, (w, r))))))) = clear (root_checks n) v (schema-clear v e) in
    let (h₁, (h₂, (h₃, (h₄, (h₅, h₆))))) = has ("type" ∷ "version" ∷ "transform" ∷ "CityObjects" ∷ "vertices" ∷ []) v o d in
    record {
      transform = found "transform" v h₃;
      city_objects = found "CityObjects" v h₄;
      vertices = found "vertices" v h₅;
      objects = objects-full n (members (get "CityObjects" v)) (objects-clear n (get "CityObjects" v) (at_some "CityObjects" (city_objects n) v h₄ c));
      points = elements-full vertex FullVertex vertex-full "vertices" v w;
    }
