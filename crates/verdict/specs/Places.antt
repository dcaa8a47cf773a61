-- Every fault of a tree of a text that is short enough is one of its rules with a place below 65,536; one by the rules 6 to 17 is at the place
-- of a value or a name of the tree.
use Prim.Native.Nat.{ℕ, zero, suc, ◌+◌, ◌*◌, ◌%◌, ◌≤◌, ◌<◌}
use native.Mathlib.Omega.{arith}
use Rattle.std.specs.Prelude.{◌≡◌, refl, Bool, ◌||◌, ◌&&◌, length, drop, T, leb, ltb}
use Rattle.std.proofs.Math.Path.{subst}
use Rattle.std.proofs.Math.Bool.{true, false, cond, not}
use mathlib.Core.List.{List, [], ◌∷◌, ◌++◌, map, Memᴰ}
use Rattle.std.proofs.Math.Option.{Option, some}
use Rattle.std.proofs.Math.Option as option
use Prim.Native.String.{String}
use Rattle.std.proofs.Math.Dec.{eqb, leb→le, ltb→lt}
use Rattle.utf8.specs.Ascii.{ascii}
use Rattle.utf8.specs.Utf8.{same}
use Rattle.json_text.specs.Tree.{Json, Items, ◌▸◌, Members, member, Name, place_of}
use Rattle.json_text.specs.Tree as tree
use Rattle.grammar.specs.Order.{Spans, Row, Rows}
use Rattle.grammar.specs.Order as order
use Rattle.strings.specs.Strings.{decode, unpaired_from}
use Rattle.strings.specs.Laws.{unpaired-within}
use Rattle.nodes.specs.Access.{is_null_value, is_number_value, is_string_value, is_array_value, is_object_value, text_of, numeral_of, listed, elements, pairs, members, Member, name_of, first_named, find}
use Rattle.everywhere.specs.Everywhere.{strings, strings_in, strings_of, unpaired_in, rule5, among, repeated, rule6, rule6_in, rule6_of}
use Rattle.nodes.specs.Faults.{fault, place_in}
use Rattle.shapes.specs.Checks.{Check, unless, all, on, at, for_each, each_element, values, each_member, object_kind, string_kind, number_kind, array_kind, is_some, needs, text, numeral, is_empty}
use Rattle.numerals.specs.Numerals.{integer, pair_of, fits32, is_below}
use Rattle.shapes.specs.Shapes.{three_entries, pair_range, coordinate, is_triple, vertex, shaped, ranged, for_both, matches, is_integer_value}
use Rattle.words.specs.Words.{object_words, geometry_words, code_of, is, is_added, is_lod, is_second_level, depth, values_depth, is_permitted}
use Rattle.fields.specs.Fields.{elements_in, listed_in, type_text, count_in, members_in, objects_of}
use Rattle.rules.specs.Schema.{is_object_type, is_geometry_type, is_surface_type, one_word, word, object_type, geometry_type, lod, surface_type, boundary, boundaries, surface, surfaces, over_boundary, semantics, needs_lod, geometry, geometries, city_object, name_fault, object_limit, city_objects, three_pairs, transform, vertices, city_json}
use Rattle.rules.specs.Schema as schema
use Rattle.rules.specs.Links.{ids_among, ids_in, link, links_from, parent_link, links_of, links_of_each, link_faults}
use Rattle.model.specs.Code.{All}
use Rattle.model.specs.Lists.{all_map, all_append, all-parts}
use Rattle.everywhere.specs.Parts.{part_place, parts, parts_in, parts_of}
use Rattle.verdict.specs.EndLaws.{Alone, alone_at, alone-within, spans-lt, row-le, rows-le}
use Rattle.verdict.specs.Verdict.{faults}

-- a fault of a rule from lo to before hi
abbrev pub Among : ℕ → ℕ → ℕ → Type 0
Among lo hi f = (lo * 65536 ≤ f) × (f < hi * 65536)

-- a rule from lo to before hi
abbrev Rule : ℕ → ℕ → ℕ → Type 0
Rule lo hi r = T (leb lo r && ltb r hi)

-- the value stands in the first 65,536 bytes
pub record Placed (v : Json) : Type 0 where
  pub from : ℕ
  pub to : ℕ
  pub spans : Spans v from to
  pub before : to ≤ 65536

-- ---- values and names of a tree whose places have the property P

-- all of a list, from each of its members
all_of : {A : Type 0} (P : A → Type 0) (l : List A) → ((a : A) → Memᴰ a l → P a) → All P l
all_of P [] f = tt
all_of P (a ∷ l) f = (f a (Memᴰ.head refl), all_of P l (λ b m. f b (Memᴰ.tail m)))

module _ (P : ℕ → Type 0) (low : (p : ℕ) → P p → p < 65536) where
  -- the place of every value and every name in v has it
  abbrev Held : Json → Type 0
  Held v = All (λ s. P (part_place s)) (parts v)

  -- so with a member: that of its name, and those in its value
  abbrev HeldMember : Member → Type 0
  HeldMember m = P m.0.place × Held m.1

  -- what is found, if it is found
  HeldIn : Option Json → Type 0
  HeldIn option.none = Unit {0}
  HeldIn (some v) = Held v

  held_at : (v : Json) → Held v → P (place_of v)
  unfolding parts part_place
  held_at (tree.null p e) h = h.0
  held_at (tree.bool p e b) h = h.0
  held_at (tree.num p e raw) h = h.0
  held_at (tree.str p e raw) h = h.0
  held_at (tree.arr p e vs) h = h.0
  held_at (tree.obj p e ms) h = h.0

  items-held : (vs : Items) → All (λ s. P (part_place s)) (parts_in vs) → All Held (listed vs)
  unfolding parts_in listed
  items-held tree.no_items h = tt
  items-held (v ▸ vs) h = let (a, b) = all-parts (λ s. P (part_place s)) (parts v) (parts_in vs) h in (a, items-held vs b)

  pairs-held : (ms : Members) → All (λ s. P (part_place s)) (parts_of ms) → All HeldMember (pairs ms)
  unfolding parts_of pairs part_place
  pairs-held tree.empty h = tt
  pairs-held (member k v ms) h = let (a, b) = all-parts (λ s. P (part_place s)) (parts v) (parts_of ms) h.1 in ((h.0, a), pairs-held ms b)

  elements-held : (v : Json) → Held v → All Held (elements v)
  unfolding parts elements
  elements-held (tree.null p e) h = tt
  elements-held (tree.bool p e b) h = tt
  elements-held (tree.num p e raw) h = tt
  elements-held (tree.str p e raw) h = tt
  elements-held (tree.arr p e vs) h = items-held vs h.1
  elements-held (tree.obj p e ms) h = tt

  members-held : (v : Json) → Held v → All HeldMember (members v)
  unfolding parts members
  members-held (tree.null p e) h = tt
  members-held (tree.bool p e b) h = tt
  members-held (tree.num p e raw) h = tt
  members-held (tree.str p e raw) h = tt
  members-held (tree.arr p e vs) h = tt
  members-held (tree.obj p e ms) h = pairs-held ms h.1

  held-cond : (b : Bool) (v : Json) (o : Option Json) → Held v → HeldIn o → HeldIn (cond b (some v) o)
  unfolding HeldIn
  held-cond true v o p q = p
  held-cond false v o p q = q

  named-held : (k : List ℕ) (ms : List Member) → All HeldMember ms → HeldIn (first_named k ms)
  unfolding first_named HeldIn
  named-held k [] a = tt
  named-held k (m ∷ ms) a = held-cond (same k (name_of m)) m.1 (first_named k ms) a.0.1 (named-held k ms a.1)

  find-held : (k : String) (v : Json) → Held v → HeldIn (find k v)
  unfolding find
  find-held k v p = named-held (ascii k) (members v) (members-held v p)

  -- ---- checks that find faults of some rules only, at such places

  -- a fault of a rule from lo to before hi, at a place that has the property
  abbrev At : ℕ → ℕ → ℕ → Type 0
  At lo hi f = Among lo hi f × P (place_in f)

  abbrev Safe : ℕ → ℕ → Check → Type 0
  Safe lo hi c = (v : Json) → Held v → All (At lo hi) (c v)

  both-T : (a b : Bool) → T (a && b) → T a × T b
  both-T true b t = (tt, t)
  both-T false b t = absurd t

  fault-at : (lo hi : ℕ) (r p : ℕ) → Rule lo hi r → P p → At lo hi (fault r p)
  unfolding fault place_in
  fault-at lo hi r p h k =
      let (a, b) = both-T (leb lo r) (ltb r hi) h in
      let least = leb→le lo r a in
      let most = ltb→lt r hi b in
      let place : p ≡ (r * 65536 + p) % 65536 = omega (arith, low p k) in
      ((omega (arith, low p k), omega (arith, low p k)), subst P place k)

  unless-safe : (lo hi : ℕ) (b : Bool) (r : ℕ) → Rule lo hi r → Safe lo hi (unless b r)
  unfolding unless
  unless-safe lo hi true r h v p = tt
  unless-safe lo hi false r h v p = (fault-at lo hi r (place_of v) h (held_at v p), tt)

  on-safe : (lo hi : ℕ) (c : Check) → Safe lo hi c → (o : Option Json) → HeldIn o → All (At lo hi) (on c o)
  unfolding on HeldIn
  on-safe lo hi c s option.none p = tt
  on-safe lo hi c s (some v) p = s v p

  at-safe : (lo hi : ℕ) (k : String) (c : Check) → Safe lo hi c → Safe lo hi (at k c)
  unfolding at
  at-safe lo hi k c s v p = on-safe lo hi c s (find k v) (find-held k v p)

  abbrev SafeAll : ℕ → ℕ → List Check → Type 0
  SafeAll lo hi [] = Unit {0}
  SafeAll lo hi (c ∷ cs) = Safe lo hi c × SafeAll lo hi cs

  all-safe : (lo hi : ℕ) (cs : List Check) → SafeAll lo hi cs → Safe lo hi (all cs)
  unfolding all
  all-safe lo hi [] s v p = tt
  all-safe lo hi (c ∷ cs) s v p = all_append (At lo hi) (c v) (all cs v) (s.0 v p) (all-safe lo hi cs s.1 v p)

  for-safe : (lo hi : ℕ) (c : Check) → Safe lo hi c → (vs : List Json) → All Held vs → All (At lo hi) (for_each c vs)
  unfolding for_each
  for-safe lo hi c s [] a = tt
  for-safe lo hi c s (v ∷ vs) a = all_append (At lo hi) (c v) (for_each c vs) (s v a.0) (for-safe lo hi c s vs a.1)

  each-safe : (lo hi : ℕ) (c : Check) → Safe lo hi c → Safe lo hi (each_element c)
  unfolding each_element
  each-safe lo hi c s v p = for-safe lo hi c s (elements v) (elements-held v p)

  values-held : (ms : List Member) → All (HeldMember) ms → All Held (values ms)
  unfolding values
  values-held [] a = tt
  values-held (m ∷ ms) a = (a.0.1, values-held ms a.1)

  each-member-safe : (lo hi : ℕ) (c : Check) → Safe lo hi c → Safe lo hi (each_member c)
  unfolding each_member
  each-member-safe lo hi c s v p = for-safe lo hi c s (values (members v)) (values-held (members v) (members-held v p))

  needs-safe : (lo hi : ℕ) → Rule lo hi 8 → (ns : List String) → Safe lo hi (needs ns)
  unfolding needs
  needs-safe lo hi h [] v p = tt
  needs-safe lo hi h (n ∷ ns) v p =
      let kept = not (is_object_value v) || is_some (find n v) in
      all_append (At lo hi) (unless kept 8 v) (needs ns v) (unless-safe lo hi kept 8 h v p) (needs-safe lo hi h ns v p)

  text-safe : (lo hi : ℕ) (r : ℕ) (ok : List ℕ → Bool) → Rule lo hi r → Safe lo hi (text r ok)
  unfolding text
  text-safe lo hi r ok h v p = unless-safe lo hi (not (is_string_value v) || ok (text_of v)) r h v p

  numeral-safe : (lo hi : ℕ) (r : ℕ) (ok : List ℕ → Bool) → Rule lo hi r → Safe lo hi (numeral r ok)
  unfolding numeral
  numeral-safe lo hi r ok h v p = unless-safe lo hi (not (is_number_value v) || ok (numeral_of v)) r h v p

  object-safe : Safe 7 15 object_kind
  unfolding object_kind
  object-safe v p = unless-safe 7 15 (is_object_value v) 7 tt v p

  string-safe : Safe 7 15 string_kind
  unfolding string_kind
  string-safe v p = unless-safe 7 15 (is_string_value v) 7 tt v p

  number-safe : Safe 7 15 number_kind
  unfolding number_kind
  number-safe v p = unless-safe 7 15 (is_number_value v) 7 tt v p

  array-safe : Safe 7 15 array_kind
  unfolding array_kind
  array-safe v p = unless-safe 7 15 (is_array_value v) 7 tt v p

  cond-safe : (lo hi : ℕ) (b : Bool) (xs ys : List ℕ) → All (At lo hi) xs → All (At lo hi) ys → All (At lo hi) (cond b xs ys)
  cond-safe lo hi true xs ys a b = a
  cond-safe lo hi false xs ys a b = b

  -- ---- rules 12 and 13

  three-safe : Safe 7 15 three_entries
  unfolding three_entries
  three-safe v p = unless-safe 7 15 (not (is_array_value v) || eqb (length (elements v)) 3) 12 tt v p

  pair-safe : Safe 7 15 pair_range
  unfolding pair_range
  pair-safe = numeral-safe 7 15 13 (λ raw. is_some (pair_of raw)) tt

  coordinate-safe : Safe 7 15 coordinate
  unfolding coordinate
  coordinate-safe = numeral-safe 7 15 13 (λ raw. fits32 (integer raw)) tt

  vertex-safe : Safe 7 15 vertex
  unfolding vertex
  vertex-safe v p =
      cond-safe 7 15 (is_triple v) (each_element coordinate v) (unless false 12 v) (each-safe 7 15 coordinate coordinate-safe v p)
      (unless-safe 7 15 false 12 tt v p)

  shaped-safe : (d : ℕ) → Safe 7 15 (shaped d)
  unfolding shaped
  shaped-safe zero v p = unless-safe 7 15 (is_integer_value v) 12 tt v p
  shaped-safe (suc d) v p =
      all_append (At 7 15) (unless (is_array_value v) 12 v) (for_each (shaped d) (elements v)) (unless-safe 7 15 (is_array_value v) 12 tt v p)
      (for-safe 7 15 (shaped d) (shaped-safe d) (elements v) (elements-held v p))

  ranged-safe : (n d : ℕ) → Safe 7 15 (ranged n d)
  unfolding ranged
  ranged-safe n zero v p = numeral-safe 7 15 13 (λ raw. is_below n (integer raw)) tt v p
  ranged-safe n (suc d) v p = for-safe 7 15 (ranged n d) (ranged-safe n d) (elements v) (elements-held v p)

  two-safe : (c : Json → Check) → ((b : Json) → Safe 7 15 (c b)) → (bs vs : List Json) → All Held vs → All (At 7 15) (for_both c bs vs)
  unfolding for_both
  two-safe c s [] vs a = tt
  two-safe c s (b ∷ bs) [] a = tt
  two-safe c s (b ∷ bs) (v ∷ vs) a = all_append (At 7 15) (c b v) (for_both c bs vs) (s b v a.0) (two-safe c s bs vs a.1)

  matches-safe : (d : ℕ) (b : Json) → Safe 7 15 (matches d b)
  unfolding matches
  matches-safe zero b v p = unless-safe 7 15 (is_integer_value v || is_null_value v) 12 tt v p
  matches-safe (suc d) b v p =
      let alike = is_array_value v && eqb (length (elements b)) (length (elements v)) in
      all_append (At 7 15) (unless alike 12 v) (cond alike (for_both (matches d) (elements b) (elements v)) []) (unless-safe 7 15 alike 12 tt v p)
      (cond-safe 7 15 alike (for_both (matches d) (elements b) (elements v)) []
      (two-safe (matches d) (matches-safe d) (elements b) (elements v) (elements-held v p)) tt)

  -- ---- rules 7 to 14

  word-safe : (w : List ℕ) → Safe 7 15 (one_word w)
  unfolding one_word
  word-safe w = all-safe 7 15 (string_kind ∷ text 10 (same w) ∷ []) (string-safe, (text-safe 7 15 10 (same w) tt, tt))

  object-type-safe : Safe 7 15 object_type
  unfolding object_type
  object-type-safe =
      all-safe 7 15 (string_kind ∷ text 10 is_object_type ∷ text 11 (λ w. not (is_added w)) ∷ [])
      (string-safe, (text-safe 7 15 10 is_object_type tt, (text-safe 7 15 11 (λ w. not (is_added w)) tt, tt)))

  geometry-type-safe : (object code : ℕ) → Safe 7 15 (geometry_type object code)
  unfolding geometry_type
  geometry-type-safe object code =
      all-safe 7 15
      (string_kind ∷ text 10 is_geometry_type ∷ text 11 (λ w. not (is "GeometryInstance" w)) ∷ text 14 (λ w. eqb code 0 || is_permitted object code) ∷ []) (
        string-safe,
        (
          text-safe 7 15 10 is_geometry_type tt,
          (text-safe 7 15 11 (λ w. not (is "GeometryInstance" w)) tt, (text-safe 7 15 14 (λ w. eqb code 0 || is_permitted object code) tt, tt)),
        ),
      )

  lod-safe : Safe 7 15 lod
  unfolding lod
  lod-safe = all-safe 7 15 (string_kind ∷ text 10 is_lod ∷ []) (string-safe, (text-safe 7 15 10 is_lod tt, tt))

  surface-type-safe : Safe 7 15 surface_type
  unfolding surface_type
  surface-type-safe = all-safe 7 15 (string_kind ∷ text 10 is_surface_type ∷ []) (string-safe, (text-safe 7 15 10 is_surface_type tt, tt))

  boundary-safe : (n code : ℕ) → Safe 7 15 (boundary n code)
  unfolding boundary
  boundary-safe n code v p =
      cond-safe 7 15 (eqb code 0) [] (shaped (depth code) v ++ ranged n (depth code) v) tt
      (all_append (At 7 15) (shaped (depth code) v) (ranged n (depth code) v) (shaped-safe (depth code) v p) (ranged-safe n (depth code) v p))

  boundaries-safe : (n code : ℕ) → Safe 7 15 (boundaries n code)
  unfolding boundaries
  boundaries-safe n code = all-safe 7 15 (array_kind ∷ boundary n code ∷ []) (array-safe, (boundary-safe n code, tt))

  surface-safe : Safe 7 15 surface
  unfolding surface
  surface-safe =
      all-safe 7 15 (object_kind ∷ needs ("type" ∷ []) ∷ at "type" surface_type ∷ [])
      (object-safe, (needs-safe 7 15 tt ("type" ∷ []), (at-safe 7 15 "type" surface_type surface-type-safe, tt)))

  surfaces-safe : Safe 7 15 surfaces
  unfolding surfaces
  surfaces-safe = all-safe 7 15 (array_kind ∷ each_element surface ∷ []) (array-safe, (each-safe 7 15 surface surface-safe, tt))

  over-safe : (count code : ℕ) (b : Option Json) → Safe 7 15 (over_boundary count code b)
  unfolding over_boundary
  over-safe count code option.none v p = tt
  over-safe count code (some b) v p =
      let first = cond (is_empty (shaped (depth code) b)) (matches (values_depth code) b v) [] in
      let second = ranged count (values_depth code) v in
      cond-safe 7 15 (eqb code 0) [] (first ++ second) tt
      (all_append (At 7 15) first second
      (cond-safe 7 15 (is_empty (shaped (depth code) b)) (matches (values_depth code) b v) [] (matches-safe (values_depth code) b v p) tt)
      (ranged-safe count (values_depth code) v p))

  values-safe : (count code : ℕ) (b : Option Json) → Safe 7 15 (schema.values count code b)
  unfolding schema.values
  values-safe count code b = all-safe 7 15 (array_kind ∷ over_boundary count code b ∷ []) (array-safe, (over-safe count code b, tt))

  semantics-safe : (code : ℕ) (b : Option Json) → Safe 7 15 (semantics code b)
  unfolding semantics
  semantics-safe code b v =
      let n = count_in (find "surfaces" v) in
      all-safe 7 15 (object_kind ∷ needs ("surfaces" ∷ "values" ∷ []) ∷ at "surfaces" surfaces ∷ at "values" (schema.values n code b) ∷ []) (
        object-safe,
        (
          needs-safe 7 15 tt ("surfaces" ∷ "values" ∷ []),
          (at-safe 7 15 "surfaces" surfaces surfaces-safe, (at-safe 7 15 "values" (schema.values n code b) (values-safe n code b), tt)),
        ),
      ) v

  needs-lod-safe : Safe 7 15 needs_lod
  unfolding needs_lod
  needs-lod-safe v p = cond-safe 7 15 (is "GeometryInstance" (type_text v)) [] (needs ("lod" ∷ []) v) tt (needs-safe 7 15 tt ("lod" ∷ []) v p)

  geometry-safe : (n object : ℕ) → Safe 7 15 (geometry n object)
  unfolding geometry
  geometry-safe n object v =
      let code = code_of geometry_words (type_text v) in
      let b = find "boundaries" v in
      all-safe 7 15
      (object_kind ∷ needs ("type" ∷ "boundaries" ∷ []) ∷ needs_lod ∷ at "type" (geometry_type object code) ∷ at "lod" lod ∷ at "boundaries" (boundaries n code)
      ∷ at "semantics" (semantics code b) ∷ []) (
        object-safe,
        (
          needs-safe 7 15 tt ("type" ∷ "boundaries" ∷ []),
          (
            needs-lod-safe,
            (
              at-safe 7 15 "type" (geometry_type object code) (geometry-type-safe object code),
              (
                at-safe 7 15 "lod" lod lod-safe,
                (
                  at-safe 7 15 "boundaries" (boundaries n code) (boundaries-safe n code),
                  (at-safe 7 15 "semantics" (semantics code b) (semantics-safe code b), tt),
                ),
              ),
            ),
          ),
        ),
      ) v

  geometries-safe : (n object : ℕ) → Safe 7 15 (geometries n object)
  unfolding geometries
  geometries-safe n object =
      all-safe 7 15 (array_kind ∷ each_element (geometry n object) ∷ []) (array-safe, (each-safe 7 15 (geometry n object) (geometry-safe n object), tt))

  ids-safe : Safe 7 15 schema.links
  unfolding schema.links
  ids-safe = all-safe 7 15 (array_kind ∷ each_element string_kind ∷ []) (array-safe, (each-safe 7 15 string_kind string-safe, tt))

  city-object-safe : (n : ℕ) → Safe 7 15 (city_object n)
  unfolding city_object
  city-object-safe n v =
      let code = code_of object_words (type_text v) in
      all-safe 7 15
      (object_kind ∷ needs ("type" ∷ []) ∷ at "type" object_type ∷ at "attributes" object_kind ∷ at "children" schema.links ∷ at "parents" schema.links
      ∷ at "geometry" (geometries n code) ∷ []) (
        object-safe,
        (
          needs-safe 7 15 tt ("type" ∷ []),
          (
            at-safe 7 15 "type" object_type object-type-safe,
            (
              at-safe 7 15 "attributes" object_kind object-safe,
              (
                at-safe 7 15 "children" schema.links ids-safe,
                (at-safe 7 15 "parents" schema.links ids-safe, (at-safe 7 15 "geometry" (geometries n code) (geometries-safe n code), tt)),
              ),
            ),
          ),
        ),
      ) v

  drop-held : (k : ℕ) (ms : List Member) → All HeldMember ms → All HeldMember (drop k ms)
  drop-held zero ms a = a
  drop-held (suc k) [] a = tt
  drop-held (suc k) (m ∷ ms) a = drop-held k ms a.1

  name-fault-at : (ms : List Member) → All HeldMember ms → All (At 7 15) (name_fault ms)
  unfolding name_fault
  name-fault-at [] a = tt
  name-fault-at (m ∷ ms) a = (fault-at 7 15 9 m.0.place tt a.0.0, tt)

  few-safe : Safe 7 15 object_limit
  unfolding object_limit
  few-safe v p = name-fault-at (drop 1024 (members v)) (drop-held 1024 (members v) (members-held v p))

  city-objects-safe : (n : ℕ) → Safe 7 15 (city_objects n)
  unfolding city_objects
  city-objects-safe n =
      all-safe 7 15 (object_kind ∷ object_limit ∷ each_member (city_object n) ∷ [])
      (object-safe, (few-safe, (each-member-safe 7 15 (city_object n) (city-object-safe n), tt)))

  three-pairs-safe : Safe 7 15 three_pairs
  unfolding three_pairs
  three-pairs-safe =
      all-safe 7 15 (array_kind ∷ each_element number_kind ∷ three_entries ∷ each_element pair_range ∷ [])
      (array-safe, (each-safe 7 15 number_kind number-safe, (three-safe, (each-safe 7 15 pair_range pair-safe, tt))))

  transform-safe : Safe 7 15 transform
  unfolding transform
  transform-safe =
      all-safe 7 15 (object_kind ∷ needs ("scale" ∷ "translate" ∷ []) ∷ at "scale" three_pairs ∷ at "translate" three_pairs ∷ []) (
        object-safe,
        (
          needs-safe 7 15 tt ("scale" ∷ "translate" ∷ []),
          (at-safe 7 15 "scale" three_pairs three-pairs-safe, (at-safe 7 15 "translate" three_pairs three-pairs-safe, tt)),
        ),
      )

  vertices-safe : Safe 7 15 vertices
  unfolding vertices
  vertices-safe = all-safe 7 15 (array_kind ∷ each_element vertex ∷ []) (array-safe, (each-safe 7 15 vertex vertex-safe, tt))

  root-safe : Safe 7 15 city_json
  unfolding city_json word
  root-safe v =
      let n = count_in (find "vertices" v) in
      let names : List String = "type" ∷ "version" ∷ "transform" ∷ "CityObjects" ∷ "vertices" ∷ [] in
      all-safe 7 15
      (object_kind ∷ needs names ∷ at "type" (word "CityJSON") ∷ at "version" (word "2.0") ∷ at "transform" transform ∷ at "CityObjects" (city_objects n)
      ∷ at "vertices" vertices ∷ []) (
        object-safe,
        (
          needs-safe 7 15 tt names,
          (
            at-safe 7 15 "type" (word "CityJSON") (word-safe (ascii "CityJSON")),
            (
              at-safe 7 15 "version" (word "2.0") (word-safe (ascii "2.0")),
              (
                at-safe 7 15 "transform" transform transform-safe,
                (at-safe 7 15 "CityObjects" (city_objects n) (city-objects-safe n), (at-safe 7 15 "vertices" vertices vertices-safe, tt)),
              ),
            ),
          ),
        ),
      ) v

  -- ---- rules 15 to 17

  link-safe : (objects : List Member) (back : String) (id : List ℕ) (excused : Bool) (earlier : List (List ℕ))
      → Safe 15 18 (link objects back id excused earlier)
  unfolding link
  link-safe objects back id excused earlier s p =
      let other = first_named (text_of s) objects in
      let known = is_some other && not (among earlier (text_of s)) in
      let answered = excused || among (ids_in back other) id in
      all_append (At 15 18) (unless known 15 s) (unless answered 17 s) (unless-safe 15 18 known 15 tt s p) (unless-safe 15 18 answered 17 tt s p)

  links-small : (objects : List Member) (back : String) (id : List ℕ) (excused : Bool) (earlier : List (List ℕ)) (ss : List Json) → All Held ss
      → All (At 15 18) (links_from objects back id excused earlier ss)
  unfolding links_from
  links-small objects back id excused earlier [] a = tt
  links-small objects back id excused earlier (s ∷ ss) a =
      let later = ids_among (s ∷ []) ++ earlier in
      all_append (At 15 18) (cond (is_string_value s) (link objects back id excused earlier s) []) (links_from objects back id excused later ss)
      (cond-safe 15 18 (is_string_value s) (link objects back id excused earlier s) [] (link-safe objects back id excused earlier s a.0) tt)
      (links-small objects back id excused later ss a.1)

  listed-held : (k : String) (v : Json) → Held v → All Held (listed_in k v)
  unfolding listed_in elements_in HeldIn
  listed-held k v p = of (find k v) (find-held k v p)
    where
      of : (o : Option Json) → HeldIn o → All Held (elements_in o)
      of option.none q = tt
      of (some w) q = elements-held w q

  parent-safe : Safe 15 18 parent_link
  unfolding parent_link
  parent-safe v p = unless-safe 15 18 (not (is_second_level (code_of object_words (type_text v)) && is_empty (listed_in "parents" v))) 16 tt v p

  object-links-small : (objects : List Member) (m : Member) → HeldMember m → All (At 15 18) (links_of objects m)
  unfolding links_of
  object-links-small objects m p =
      let group = is "CityObjectGroup" (type_text m.1) in
      let a = links_from objects "parents" (name_of m) group [] (listed_in "children" m.1) in
      let b = links_from objects "children" (name_of m) false [] (listed_in "parents" m.1) in
      all_append (At 15 18) (a ++ b) (parent_link m.1)
      (all_append (At 15 18) a b
      (links-small objects "parents" (name_of m) group [] (listed_in "children" m.1) (listed-held "children" m.1 p.1))
      (links-small objects "children" (name_of m) false [] (listed_in "parents" m.1) (listed-held "parents" m.1 p.1)))
      (parent-safe m.1 p.1)

  all-links-small : (objects ms : List Member) → All HeldMember ms → All (At 15 18) (links_of_each objects ms)
  unfolding links_of_each
  all-links-small objects [] a = tt
  all-links-small objects (m ∷ ms) a =
      all_append (At 15 18) (links_of objects m) (links_of_each objects ms) (object-links-small objects m a.0) (all-links-small objects ms a.1)

  linked-safe : Safe 15 18 link_faults
  unfolding link_faults objects_of members_in HeldIn
  linked-safe v p = all-links-small (objects_of v) (objects_of v) (of (find "CityObjects" v) (find-held "CityObjects" v p))
    where
      of : (o : Option Json) → HeldIn o → All HeldMember (members_in o)
      of option.none q = tt
      of (some w) q = members-held w q

  -- ---- rule 6

  cond-held : (b : Bool) (p : ℕ) → P p → All P (cond b (p ∷ []) [])
  cond-held true p h = (h, tt)
  cond-held false p h = tt

  repeated-held : (earlier : List (List ℕ)) (ms : Members) → All (λ s. P (part_place s)) (parts_of ms) → All P (repeated earlier ms)
  unfolding parts_of repeated part_place
  repeated-held earlier tree.empty h = tt
  repeated-held earlier (member n v ms) h =
      all_append P (cond (among earlier (decode n.raw)) (n.place ∷ []) []) (repeated (decode n.raw ∷ earlier) ms)
      (cond-held (among earlier (decode n.raw)) n.place h.0)
      (repeated-held (decode n.raw ∷ earlier) ms (all-parts (λ s. P (part_place s)) (parts v) (parts_of ms) h.1).1)

  mutual
    unfolding parts rule6

    rule6-held : (v : Json) → Held v → All P (rule6 v)
    rule6-held (tree.null p e) h = tt
    rule6-held (tree.bool p e b) h = tt
    rule6-held (tree.num p e raw) h = tt
    rule6-held (tree.str p e raw) h = tt
    rule6-held (tree.arr p e vs) h = rule6-items vs h.1
    rule6-held (tree.obj p e ms) h = all_append P (repeated [] ms) (rule6_of ms) (repeated-held [] ms h.1) (rule6-members ms h.1)

    rule6-items : (vs : Items) → All (λ s. P (part_place s)) (parts_in vs) → All P (rule6_in vs)
    rule6-items tree.no_items h = tt
    rule6-items (v ▸ vs) h =
        let (a, b) = all-parts (λ s. P (part_place s)) (parts v) (parts_in vs) h in
        all_append P (rule6 v) (rule6_in vs) (rule6-held v a) (rule6-items vs b)

    rule6-members : (ms : Members) → All (λ s. P (part_place s)) (parts_of ms) → All P (rule6_of ms)
    rule6-members tree.empty h = tt
    rule6-members (member k v ms) h =
        let (a, b) = all-parts (λ s. P (part_place s)) (parts v) (parts_of ms) h.1 in
        all_append P (rule6 v) (rule6_of ms) (rule6-held v a) (rule6-members ms b)

  -- the faults of one rule at such places
  rule-at : (lo hi r : ℕ) → Rule lo hi r → (ps : List ℕ) → All P ps → All (At lo hi) (map (fault r) ps)
  rule-at lo hi r h [] a = tt
  rule-at lo hi r h (p ∷ ps) a = (fault-at lo hi r p h a.0, rule-at lo hi r h ps a.1)

-- ---- rule 5, in the first `to` bytes

module _ (to : ℕ) where
  abbrev Before : ℕ → Type 0
  Before p = p < to

  -- a string or a name with its bytes stands there
  abbrev NameBefore : Name → Type 0
  NameBefore k = k.place + (2 + length k.raw) ≤ to

  mutual
    unfolding strings

    strings-before : {v : Json} {p e : ℕ} → Spans v p e → e ≤ to → All NameBefore (strings v)
    strings-before (order.null h) k = tt
    strings-before (order.bool h) k = tt
    strings-before (order.num h) k = tt
    strings-before (order.str h) k = (omega arith, tt)
    strings-before (order.arr r h) k = strings-row r (omega arith)
    strings-before (order.obj r h) k = strings-rows r (omega arith)

    strings-row : {vs : Items} {a b : ℕ} → Row vs a b → b ≤ to → All NameBefore (strings_in vs)
    strings-row (order.end h) k = tt
    strings-row (order.next {v = v} {vs = vs} h s r) k =
        all_append NameBefore (strings v) (strings_in vs) (strings-before s (omega (arith, row-le r))) (strings-row r k)

    strings-rows : {ms : Members} {a b : ℕ} → Rows ms a b → b ≤ to → All NameBefore (strings_of ms)
    strings-rows (order.last h) k = tt
    strings-rows (order.field {v = v} {ms = ms} h i l s r) k =
        let q = rows-le r in
        let j = spans-lt s in
        (omega arith, all_append NameBefore (strings v) (strings_of ms) (strings-before s (omega arith)) (strings-rows r k))

  unpaired-before : (ss : List Name) → All NameBefore ss → All Before (unpaired_in ss)
  unfolding unpaired_in
  unpaired-before [] a = tt
  unpaired-before (s ∷ ss) a =
      all_append Before (unpaired_from (s.place + 1) s.raw) (unpaired_in ss)
      (all_of Before (unpaired_from (s.place + 1) s.raw) (λ q m. omega (arith, (unpaired-within (s.place + 1) s.raw q m).1, a.0)))
      (unpaired-before ss a.1)

  rule5-before : (v : Json) {p e : ℕ} → Spans v p e → e ≤ to → All Before (rule5 v)
  unfolding rule5
  rule5-before v h k = unpaired-before (strings v) (strings-before h k)

-- ---- all rules

-- the place p is low, and exactly one value or name of the tree v begins there
pub record Single (v : Json) (p : ℕ) : Type 0 where
  pub low : p < 65536
  pub end : ℕ
  pub alone : Alone p (parts v) end

-- where a fault f of a tree v stands that ends at `to`: by rule 5 before that end, by the others at a value or a name
pub data FaultPlace (v : Json) (to f : ℕ) : Type 0 where
  within : f < 6 * 65536 → place_in f < to → FaultPlace v to f
  single : 6 * 65536 ≤ f → Single v (place_in f) → FaultPlace v to f

-- the faults of the rules 5 to 14
abbrev pub early : Json → List ℕ
early v = map (fault 5) (rule5 v) ++ map (fault 6) (rule6 v) ++ city_json v

-- a fault of a rule from 5 to 17
abbrev pub Small : ℕ → Type 0
Small f = Among 5 18 f

module _ (v : Json) (d : Placed v) where
  -- each place of a value or a name is such
  held : Held (Single v) (λ p s. s.low) v
  held = all_of (λ s. Single v (part_place s)) (parts v) (λ s m.
      let (e, z) = alone_at d.spans m in
      let (_, more, to) = alone-within d.spans (part_place s) e z in
      record { low = omega (arith, d.before); end = e; alone = z })

  by-rule-5 : All (λ f. Among 5 6 f × (place_in f < d.to)) (map (fault 5) (rule5 v))
  by-rule-5 = rule-at (λ p. p < d.to) (λ p h. omega (arith, d.before)) 5 6 5 tt (rule5 v) (rule5-before d.to v d.spans (omega arith))

  by-rule-6 : All (λ f. Among 6 7 f × Single v (place_in f)) (map (fault 6) (rule6 v))
  by-rule-6 = rule-at (Single v) (λ p s. s.low) 6 7 6 tt (rule6 v) (rule6-held (Single v) (λ p s. s.low) v held)

  by-schema : All (λ f. Among 7 15 f × Single v (place_in f)) (city_json v)
  by-schema = root-safe (Single v) (λ p s. s.low) v held

  by-links : All (λ f. Among 15 18 f × Single v (place_in f)) (link_faults v)
  by-links = linked-safe (Single v) (λ p s. s.low) v held

  -- what holds of the faults of the rules 5, 6 and 7 to 14
  all-early : (P : ℕ → Type 0) → All P (map (fault 5) (rule5 v)) → All P (map (fault 6) (rule6 v)) → All P (city_json v) → All P (early v)
  all-early P a b c =
      let five = map (fault 5) (rule5 v) in
      let six = map (fault 6) (rule6 v) in
      all_append P (five ++ six) (city_json v) (all_append P five six a b) c

  pub early-among : All (Among 5 15) (early v)
  early-among =
      all-early (Among 5 15)
      (all_map (λ f ((l, u), _). (omega arith, omega arith)) (map (fault 5) (rule5 v)) by-rule-5)
      (all_map (λ f ((l, u), _). (omega arith, omega arith)) (map (fault 6) (rule6 v)) by-rule-6)
      (all_map (λ f ((l, u), _). (omega arith, omega arith)) (city_json v) by-schema)

  pub links-among : All (Among 15 18) (link_faults v)
  links-among = all_map (λ f (r, _). r) (link_faults v) by-links

  pub faults-small : All Small (faults v)
  unfolding faults
  faults-small =
      all_append Small (early v) (link_faults v) (all_map (λ f (l, u). (omega arith, omega arith)) (early v) early-among)
      (all_map (λ f (l, u). (omega arith, omega arith)) (link_faults v) links-among)

  pub faults-stand : All (FaultPlace v d.to) (faults v)
  unfolding faults
  faults-stand =
      all_append (FaultPlace v d.to) (early v) (link_faults v)
      (all-early (FaultPlace v d.to)
      (all_map (λ f ((l, u), q). within (omega arith) q) (map (fault 5) (rule5 v)) by-rule-5)
      (all_map (λ f ((l, u), q). single (omega arith) q) (map (fault 6) (rule6 v)) by-rule-6)
      (all_map (λ f ((l, u), q). single (omega arith) q) (city_json v) by-schema))
      (all_map (λ f ((l, u), q). single (omega arith) q) (link_faults v) by-links)
