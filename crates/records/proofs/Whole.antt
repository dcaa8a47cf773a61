-- City objects and the whole sheet.
use Prim.Native.Nat.{ℕ, zero, suc, ◌+◌, ◌<◌, ◌≤◌}
use native.Mathlib.Omega.{arith}
use native.Mathlib.Numerals.{add-one}
use mathlib.Core.Path.{◌≡◌, refl, sym, ap, ◌∙◌}
use mathlib.Core.List.{List, [], ◌∷◌, ◌++◌, append_assoc, append-nil}
use lib.ListN.{length, get_or, drop, drop_of_length-le}
use lib.Seq.{drop-cons}
use Rattle.utf8.specs.Ascii.{ascii}
use Rattle.nodes.specs.Access.{Member, find}
use Rattle.fields.specs.Fields.{objects_of}
use Rattle.ids.specs.Says.{Offsets, MemberNode, names_of}
use Rattle.ids.proofs.Rules.{nobody}
use Rattle.marks.specs.Marks.{row_of}
use Rattle.marks.specs.Says.{RowAt}
use Rattle.model.specs.Code.{concat_map, All}
use Rattle.model.specs.Model.{rec, lay_rec}
use Rattle.model.specs.Read.{get}
use Rattle.writer.specs.Writes.{Writes}
use Rattle.writer.specs.Laws.{nothing, then, as_bytes}
use Rattle.arrays.specs.Fits.{Elements, Triple, Coordinate}
use Rattle.arrays.specs.Says.{Holds, Wrote}
use Rattle.arrays.specs.Laws.{holds_at, holds_as}
use Rattle.geometry_records.specs.Fits.{Perhaps, GeometryFits}
use Rattle.geometry_records.specs.Members.{Named, Leads, geometries_member}
use Rattle.geometry_records.proofs.Members.{has_named, wrote-led}
use Rattle.records.specs.Fits.{ObjectFits, TransformFits, RootFits}
use Rattle.records.specs.Bytes.{identity_bytes, object_bytes, transform_bytes, vertices_bytes}
use Rattle.records.specs.Parts.{object-parts, sheet-parts}
use Rattle.records.specs.Members.{transform_member, vertices_member, frame_bytes}
use Rattle.records.specs.Says.{link_bytes, LinksWrote, IdentityWrote, ObjectWrote, Placed, ObjectsWrote, Ready, SheetWrote}
use Rattle.records.proofs.LinkRows.{row-bytes}

-- ---- one object

pub object-geometries : {x t : List ℕ} {i : ℕ} → Holds ObjectFits x t i → Holds (Perhaps (Elements GeometryFits) "geometry") x t i
object-geometries h = holds_as (λ v f. f.geometries) h

pub object-wrote : {x t : List ℕ} {own : ℕ} {children parents d₀ d₁ d₂ d₃ : List ℕ} {at a b r : ℕ}
    → Holds ObjectFits x t (own + 3) → IdentityWrote x t own d₀ d₁ at a → LinksWrote children parents d₁ d₂ a b → Wrote geometries_member x t (own + 3) d₂ d₃ b r
    → ObjectWrote x t own children parents d₀ d₃ at r
unfolding geometries_member
object-wrote h u w z = record {
  is = λ names m d e f.
      let v = m.1 in
      let s = d.value in
      let fit = h.holds v s in
      let c = row-bytes 4 names "children" v fit.children in
      let p = row-bytes 5 names "parents" v fit.parents in
      let links = as_bytes (λ i. link_bytes 4 (e i) ++ link_bytes 5 (f i)) w.is in
      as_bytes (sym (object-parts names m ∙ ap (λ (l : List ℕ). l ++ geometries_member v) (append_assoc (identity_bytes m) _ _)))
      (then (then (u.is m d) (as_bytes (λ i. c i ++ p i) links)) (z.is v s));
}

-- ---- all objects

-- Of all objects, the first k were to be written from `to` on, and the cursor is `at`.
pub record Objecting (x t offsets children parents : List ℕ) (k : ℕ) (d₀ d : List ℕ) (to at : ℕ) : Type 0 where
  pub placed : Placed x t offsets children parents
  pub room : length d ≡ length d₀
  done : (ms : List Member) → Offsets x t ms offsets → List ℕ
  all-is : (ms : List Member) (o : Offsets x t ms offsets) → concat_map (object_bytes (names_of ms)) ms ≡ done ms o ++ concat_map (object_bytes (names_of ms)) (drop k ms)
  wrote : (ms : List Member) (o : Offsets x t ms offsets) → Writes (done ms o) d₀ d to at

module _ {x t offsets children parents : List ℕ} where
  pub objecting-start : {d : List ℕ} {to : ℕ} → Placed x t offsets children parents → Objecting x t offsets children parents 0 d d to to
  objecting-start {d} {to} p = record { placed = p; room = refl; done = λ ms o. []; all-is = λ ms o. refl; wrote = λ ms o. nothing d to }

  module _ {k : ℕ} {d₀ d : List ℕ} {to at : ℕ} (p : Objecting x t offsets children parents k d₀ d to at) (l : k < length offsets) where
    pub objecting-member : {own : ℕ} → own ≡ get_or offsets k 0 → MemberNode x t own
    objecting-member e = let o = p.placed.objects in record { it = get_or o.members k nobody; stands = rw e (o.stand.each k nobody l) }

    pub objecting-fits : {own : ℕ} → own ≡ get_or offsets k 0 → Holds ObjectFits x t (own + 3)
    objecting-fits e = rw e (p.placed.fits k l)

    pub objecting-below : RowAt children k
    objecting-below = p.placed.below.table.row k l

    pub objecting-above : RowAt parents k
    objecting-above = p.placed.above.table.row k l

    pub objecting-turn : {own : ℕ} {d' : List ℕ} {r : ℕ} → own ≡ get_or offsets k 0 → ObjectWrote x t own (row_of children k) (row_of parents k) d d' at r
        → Objecting x t offsets children parents (k + 1) d₀ d' to r
    unfolding concat_map
    objecting-turn {own} {d'} {r} e w = record {
      placed = p.placed;
      room = (let o = p.placed.objects in (writes o.members o.stand).room) ∙ p.room;
      done = λ ms o. p.done ms o ++ object_bytes (names_of ms) (get_or ms k nobody);
      all-is = λ ms o.
          let f = object_bytes (names_of ms) in
          let c : drop k ms ≡ get_or ms k nobody ∷ drop (k + 1) ms = rw (drop-cons ms k nobody (omega (arith, o.all)), add-one k) in
          p.all-is ms o ∙ ap (λ l. p.done ms o ++ concat_map f l) c ∙ sym (append_assoc (p.done ms o) (f (get_or ms k nobody)) (concat_map f (drop (k + 1) ms)));
      wrote = λ ms o. then (p.wrote ms o) (writes ms o);
    }
      where
        writes : (ms : List Member) → Offsets x t ms offsets → Writes (object_bytes (names_of ms) (get_or ms k nobody)) d d' at r
        writes ms o =
            w.is (names_of ms) (get_or ms k nobody) (rw e (o.each k nobody l)) (p.placed.below.is ms o k nobody l) (p.placed.above.is ms o k nobody l)

  pub objecting-done : {k : ℕ} {d₀ d : List ℕ} {to at : ℕ} → Objecting x t offsets children parents k d₀ d to at → length offsets ≤ k → ObjectsWrote x t offsets d₀ d to at
  unfolding concat_map
  objecting-done {k} p h = record {
    is = λ ms o.
        let c : drop k ms ≡ [] = drop_of_length-le ms {i = k} (omega (arith, o.all)) in
        as_bytes (sym (p.all-is ms o ∙ ap (λ l. p.done ms o ++ concat_map (object_bytes (names_of ms)) l) c ∙ append-nil (p.done ms o))) (p.wrote ms o);
  }

-- ---- the whole sheet

-- an element of a list of which P holds throughout
all-at : {A : Type 0} (P : A → Type 0) (l : List A) (k : ℕ) (d : A) → All P l → k < length l → P (get_or l k d)
all-at P [] k d a h = absurd (omega arith)
all-at P (b ∷ l) zero d a h = a.0
all-at P (b ∷ l) (suc k) d a h = all-at P l k d a.1 (omega arith)

module _ {x t : List ℕ} (h : Holds RootFits x t 0) where
  pub root-transform : Holds (Named TransformFits (ascii "transform")) x t 0
  root-transform = holds_as (λ v f. has_named "transform" f.transform) h

  pub root-vertices : Holds (Named (Elements (Triple Coordinate)) (ascii "vertices")) x t 0
  root-vertices = holds_as (λ v f. has_named "vertices" f.vertices) h

module _ {x t : List ℕ} {i k : ℕ} {d₀ d : List ℕ} {to r : ℕ} where
  pub transform-led : Leads (ascii "transform") x t i k → Wrote transform_bytes x t k d₀ d to r → Wrote transform_member x t i d₀ d to r
  unfolding transform_member
  transform-led l w = wrote-led l w

  pub vertices-led : Leads (ascii "vertices") x t i k → Wrote vertices_bytes x t k d₀ d to r → Wrote vertices_member x t i d₀ d to r
  unfolding vertices_member
  vertices-led l w = wrote-led l w

pub frame-wrote : {x t : List ℕ} {i : ℕ} {d₀ d₁ d₂ : List ℕ} {to m r : ℕ} → Wrote transform_member x t i d₀ d₁ to m → Wrote vertices_member x t i d₁ d₂ m r → Wrote frame_bytes x t i d₀ d₂ to r
unfolding frame_bytes
frame-wrote u w = record { is = λ v s. then (u.is v s) (w.is v s) }

module _ {x t offsets children parents : List ℕ} (r : Ready x t offsets children parents) where
  pub ready-root : Holds RootFits x t 0
  ready-root = r.root

  pub ready-placed : Placed x t offsets children parents
  ready-placed =
      let n = r.root.node in
      let o = r.indexed n.value n.stands in
      let ms = objects_of n.value in
      record {
        objects = record { members = ms; stand = o; short = n.short };
        fits = λ k l.
            let fit = (r.root.holds n.value n.stands).objects in
            holds_at (get_or ms k nobody).1 (o.each k nobody l).value n.short (all-at (λ m. ObjectFits m.1) ms k nobody fit (omega (arith, o.all)));
        below = r.below;
        above = r.above;
      }

  pub sheet-wrote : {d₀ d₁ d₂ d₃ : List ℕ} {a b end : ℕ} → Wrote frame_bytes x t 0 d₀ d₁ 0 a → ObjectsWrote x t offsets d₁ d₂ a b → Writes (lay_rec (rec 9 [])) d₂ d₃ b end → SheetWrote x t d₀ d₃ end
  unfolding frame_bytes transform_member vertices_member get find
  sheet-wrote u o z = record { is = λ v s. as_bytes (sym (sheet-parts v)) (then (then (u.is v s) (o.is (objects_of v) (r.indexed v s))) z) }
