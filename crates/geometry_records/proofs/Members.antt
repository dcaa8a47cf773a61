-- Members of a value at a node.
use Prim.Native.Nat.{ℕ}
use Prim.Native.String.{String}
use mathlib.Core.Path.{◌≡◌, refl, sym, ap, ◌∙◌, subst}
use mathlib.Core.Bool.{true}
use mathlib.Core.List.{List}
use mathlib.Core.Option.{Option, none, some}
use Rattle.utf8.specs.Ascii.{ascii}
use Rattle.utf8.specs.Bytes.{le}
use Rattle.utf8.specs.Laws.{clash}
use Rattle.strings.specs.Spans.{decode_at}
use Rattle.json_text.specs.Tree.{Json}
use Rattle.json_text.specs.Table.{Sub}
use Rattle.nodes.specs.Access.{members, first_named, find}
use Rattle.nodes.specs.Says.{Finds, Seeks, Gives, GivesFound}
use Rattle.nodes.specs.Says.{Found}
use Rattle.std.specs.Prelude.{Some, None, IsSome}
use Rattle.shapes.specs.Laws.{seeks-find}
use Rattle.fields.specs.Fields.{text_in, type_text}
use Rattle.words.specs.Words.{geometry_words, code_of, is_lod, depth, values_depth}
use Rattle.model.specs.Model.{lod_code, lay_nest, lay_values, lay_surface}
use Rattle.model.specs.Read.{get, or_null, index_of, value_of, nest_of, lod_of, surface_named}
use Rattle.writer.specs.Writes.{Writes}
use Rattle.arrays.specs.Fits.{Index, Value, Elements, Leaves}
use Rattle.arrays.specs.Says.{Holds, Wrote, WroteFound}
use Rattle.arrays.specs.Laws.{holds_at, holds_as, wrote_none, wrote-some}
use Rattle.geometry_records.specs.Fits.{Has, Perhaps, geometry_code, SemanticsFit, ShapeFits, GeometryFits}
use Rattle.geometry_records.specs.Bytes.{surface_bytes, semantics_bytes, semantics_in, geometry_bytes}
use Rattle.geometry_records.specs.Says.{Quotes}
use Rattle.geometry_records.specs.Members.{There, Named, Leads, QuotesIn, LodFits, each}
use Rattle.geometry_records.specs.Members.{lod_member, boundary_member, surfaces_member, semantics_member, geometries_member, surface_payload, values_payload}
use Rattle.geometry_records.specs.declared.Quote.{Quote}
use Rattle.geometry_records.proofs.Nodes.{each_none, each-some}

-- ---- members

the : {a b : Json} → some a ≡ some b → a ≡ b
unfolding or_null
the z = ap or_null z

module _ {x t : List ℕ} {i : ℕ} (name : String) {found : Found} (k : Seeks (λ v. find name v) x t i found) where
  -- the value that was found is the member
  member-at : {j : ℕ} → found ≡ Some j → (v : Json) → Sub x t i v → (w : Json) × (find name v ≡ some w) × Sub x t j w
  unfolding Finds
  member-at {j} e v s = subst (Finds x t (find name v)) e (k.finds v s)

  -- a member that may be there
  pub perhaps-at : {P : Json → Type 0} {j : ℕ} → Holds (Perhaps P name) x t i → found ≡ Some j → Holds P x t j
  perhaps-at h e =
      let d = h.node in
      let (w, q, s) = member-at e d.value d.stands in
      holds_at w s d.short ((h.holds d.value d.stands).holds w q)

  -- what f gives for the member was written
  pub wrote-member : {f : Option Json → List ℕ} {d₀ d : List ℕ} {to r : ℕ} → WroteFound f x t found d₀ d to r → Wrote (λ v. f (find name v)) x t i d₀ d to r
  wrote-member w = record { is = λ v s. w.is (find name v) (k.finds v s) }

  -- what is told of what was found is told of the member
  pub told-member : {A : Type 0} {f : Option Json → A} {a : A} → GivesFound f x t found a → (v : Json) → Sub x t i v → a ≡ f (find name v)
  told-member g v s = g.is (find name v) (k.finds v s)

-- ---- a member by the bytes of its name

module _ {name x t : List ℕ} {i : ℕ} where
  -- it is found if it is there
  module _ {found : Found} (f : Seeks (λ v. first_named name (members v)) x t i found) where
    pub there-at : {k : ℕ} → found ≡ Some k → Leads name x t i k
    unfolding Finds
    there-at e = record { is = λ v s. subst (Finds x t (first_named name (members v))) e (f.finds v s) }

    pub there-is : Holds (There name) x t i → IsSome found
    unfolding Finds
    there-is h = let d = h.node in go found (f.finds d.value d.stands) (h.holds d.value d.stands).found
      where
        go : {o : Option Json} {v : Json} (k : Found) → Finds x t o k → o ≡ some v → IsSome k
        go (Some k) q e = refl
        go None q e = let z : ◌≡◌ {A = Option Json} none (some _) = sym q ∙ e in absurd (clash cc)

  -- what is known of it, and what was written for it
  module _ {k : ℕ} (l : Leads name x t i k) where
    pub led : {P : Json → Type 0} → Holds (Named P name) x t i → Holds P x t k
    led {P} h =
        let d = h.node in
        let (w, q, s) = l.is d.value d.stands in
        let p = h.holds d.value d.stands in
        holds_at w s d.short (subst P (the (sym p.there.found ∙ q)) p.holds)

    -- at the depth that was told
    pub leaves-led : (P : Json → Type 0) (m : ℕ) {n : ℕ} → Holds (Named (Leaves P m) name) x t i → n ≡ m → Holds (Leaves P n) x t k
    leaves-led P m h e = rw e (led h)

    pub wrote-led : {f : Json → List ℕ} {d₀ d : List ℕ} {to r : ℕ} → Wrote f x t k d₀ d to r → Wrote (λ v. f (or_null (first_named name (members v)))) x t i d₀ d to r
    unfolding or_null
    wrote-led w = record { is = λ v s. let (u, q, z) = l.is v s in rw q (w.is u z) }

  pub named-there : {P : Json → Type 0} → Holds (Named P name) x t i → Holds (There name) x t i
  named-there h = holds_as (λ v n. n.there) h

  -- a string
  pub quotes-in : {found : Found} {q : Quote} → Seeks (λ v. first_named name (members v)) x t i found → Quotes x t found q → QuotesIn name x t i q
  quotes-in f q = record { span = q.span; text = λ v s. q.text (first_named name (members v)) (f.finds v s) }

pub has_named : {P : Json → Type 0} (name : String) {v : Json} → Has P name v → Named P (ascii name) v
unfolding find
has_named name h = record { there = record { value = h.value; found = h.found }; holds = h.holds }

-- ---- the members of semantics and of a geometry

module _ {x t : List ℕ} {i : ℕ} where
  -- the surfaces, and the values
  module _ {found : Found} (f : Seeks (λ v. first_named (ascii "surfaces") (members v)) x t i found) where
    pub surfaces-none : {d : List ℕ} {to : ℕ} → found ≡ None → Wrote surfaces_member x t i d d to to
    unfolding surfaces_member
    surfaces-none e = wrote-member "surfaces" (seeks-find "surfaces" refl f) (each_none surface_bytes e)

    pub surfaces-some : {k : ℕ} {d₀ d : List ℕ} {to r : ℕ} → found ≡ Some k → Wrote (each surface_bytes) x t k d₀ d to r → Wrote surfaces_member x t i d₀ d to r
    unfolding surfaces_member
    surfaces-some e w = wrote-member "surfaces" (seeks-find "surfaces" refl f) (each-some surface_bytes e w)

  pub values-named : (code : ℕ) → Holds (SemanticsFit code) x t i → Holds (Named (Leaves Value (values_depth code)) (ascii "values")) x t i
  values-named code h = holds_as (λ v f. has_named "values" f.values) h

  pub values-led : (code : ℕ) {k n : ℕ} {d₀ d : List ℕ} {to r : ℕ} → Leads (ascii "values") x t i k → n ≡ values_depth code → Wrote (λ v. lay_values n (nest_of value_of n v)) x t k d₀ d to r
      → Wrote (values_payload code) x t i d₀ d to r
  unfolding values_payload get find
  values-led code l e w = wrote-led l (rw e at w)

  -- the lod, and the boundary
  pub shape-lod : {code : ℕ} → Holds (ShapeFits code) x t i → Holds LodFits x t i
  unfolding LodFits
  shape-lod h = holds_as (λ v f. f.lod) h

  pub lod-quoted : {q : Quote} → Holds LodFits x t i → QuotesIn (ascii "lod") x t i q → is_lod (decode_at x q.from q.to) ≡ true
  unfolding LodFits find
  lod-quoted h q = let d = h.node in rw (q.text d.value d.stands) (h.holds d.value d.stands)

  pub lod-wrote : {q : Quote} {n : ℕ} {d₀ d : List ℕ} {to r : ℕ} → QuotesIn (ascii "lod") x t i q → n ≡ lod_code (lod_of (decode_at x q.from q.to)) → Writes (le 2 n) d₀ d to r
      → Wrote lod_member x t i d₀ d to r
  unfolding lod_member find
  lod-wrote q e w = record { is = λ v s. rw (← q.text v s, ← e) w }

  pub boundary-named : (code : ℕ) → Holds (ShapeFits code) x t i → Holds (Named (Leaves Index (depth code)) (ascii "boundaries")) x t i
  boundary-named code h = holds_as (λ v f. has_named "boundaries" f.boundary) h

  pub boundary-led : (code : ℕ) {k n : ℕ} {d₀ d : List ℕ} {to r : ℕ} → Leads (ascii "boundaries") x t i k → n ≡ depth code → Wrote (λ v. lay_nest n (nest_of index_of n v)) x t k d₀ d to r
      → Wrote (boundary_member code) x t i d₀ d to r
  unfolding boundary_member get find
  boundary-led code l e w = wrote-led l (rw e at w)

  -- the type
  pub typed : (words : List String) {code : ℕ} {found : Found} → Seeks (λ v. first_named (ascii "type") (members v)) x t i found → GivesFound (λ o. code_of words (text_in o)) x t found code
      → Gives (λ v. code_of words (type_text v)) x t i code
  unfolding type_text
  typed words f g = record { is = told-member "type" (seeks-find "type" refl f) g }

  pub geometry-typed : {code : ℕ} {found : Found} → Seeks (λ v. first_named (ascii "type") (members v)) x t i found → GivesFound (λ o. code_of geometry_words (text_in o)) x t found code
      → Gives geometry_code x t i code
  unfolding geometry_code
  geometry-typed f g = typed geometry_words f g

  pub surface-typed : {q : Quote} {d₀ d : List ℕ} {to r : ℕ} → QuotesIn (ascii "type") x t i q → Writes (lay_surface (surface_named (decode_at x q.from q.to))) d₀ d to r
      → Wrote surface_payload x t i d₀ d to r
  unfolding surface_payload find
  surface-typed q w = record { is = λ v s. rw (← q.text v s) w }

  -- the semantics, which may be absent
  module _ (code : ℕ) {found : Found} (f : Seeks (λ v. first_named (ascii "semantics") (members v)) x t i found) where
    pub semantics-none : {d : List ℕ} {to : ℕ} → found ≡ None → Wrote (semantics_member code) x t i d d to to
    unfolding semantics_member semantics_in
    semantics-none e = wrote-member "semantics" (seeks-find "semantics" refl f) (wrote_none {f = semantics_in code} e refl)

    pub semantics-some : {k : ℕ} {d₀ d : List ℕ} {to r : ℕ} → found ≡ Some k → Wrote (semantics_bytes code) x t k d₀ d to r → Wrote (semantics_member code) x t i d₀ d to r
    unfolding semantics_member semantics_in
    semantics-some e w = wrote-member "semantics" (seeks-find "semantics" refl f) (wrote-some {f = semantics_in code} e w)

    pub semantics-there : {k : ℕ} → Holds (Perhaps (SemanticsFit code) "semantics") x t i → found ≡ Some k → Holds (SemanticsFit code) x t k
    semantics-there h e = perhaps-at "semantics" (seeks-find "semantics" refl f) h e

  -- what is asked of a geometry, by the code of its type
  module _ {code : ℕ} (h : Holds GeometryFits x t i) (g : Gives geometry_code x t i code) where
    pub geometry-shape : Holds (ShapeFits code) x t i
    geometry-shape = record { node = h.node; holds = λ v s. subst (λ c. ShapeFits c v) (sym (g.is v s)) (h.holds v s).shape }

    pub geometry-semantics : Holds (Perhaps (SemanticsFit code) "semantics") x t i
    geometry-semantics = record { node = h.node; holds = λ v s. subst (λ c. Perhaps (SemanticsFit c) "semantics" v) (sym (g.is v s)) (h.holds v s).semantics }

  -- the geometries of an object, which may be absent
  module _ {found : Found} (f : Seeks (λ v. first_named (ascii "geometry") (members v)) x t i found) where
    pub geometries-none : {d : List ℕ} {to : ℕ} → found ≡ None → Wrote geometries_member x t i d d to to
    unfolding geometries_member
    geometries-none e = wrote-member "geometry" (seeks-find "geometry" refl f) (each_none geometry_bytes e)

    pub geometries-some : {k : ℕ} {d₀ d : List ℕ} {to r : ℕ} → found ≡ Some k → Wrote (each geometry_bytes) x t k d₀ d to r → Wrote geometries_member x t i d₀ d to r
    unfolding geometries_member
    geometries-some e w = wrote-member "geometry" (seeks-find "geometry" refl f) (each-some geometry_bytes e w)

    pub geometries-there : {k : ℕ} → Holds (Perhaps (Elements GeometryFits) "geometry") x t i → found ≡ Some k → Holds (Elements GeometryFits) x t k
    geometries-there h e = perhaps-at "geometry" (seeks-find "geometry" refl f) h e
