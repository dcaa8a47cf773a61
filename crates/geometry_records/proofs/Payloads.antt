-- Records: a header around a payload, and what comes together in one.
use Prim.Native.Nat.{ℕ}
use mathlib.Core.Path.{◌≡◌, refl, sym, ap, ◌∙◌}
use mathlib.Core.List.{List, append-nil}
use Rattle.utf8.specs.Bytes.{le}
use Rattle.json_text.specs.Tree.{Json}
use Rattle.nodes.specs.Says.{Gives}
use Rattle.fields.specs.Fields.{type_text}
use Rattle.model.specs.Code.{concat_map}
use Rattle.model.specs.Model.{rec, lay_rec, lay_surface, surface_recs}
use Rattle.model.specs.Read.{surface_named, surface_of}
use Rattle.sheets.specs.Clear.{type-text}
use Rattle.std.specs.Borrow.{MutBor}
use Rattle.std.specs.Fn.{Once}
use Rattle.writer.specs.Writes.{Writes, Recorded}
use Rattle.writer.specs.Laws.{then, recorded_writes}
use Rattle.arrays.specs.Says.{Wrote}
use Rattle.arrays.specs.Laws.{wrote_as, wrote_then}
use Rattle.geometry_records.specs.Fits.{geometry_code}
use Rattle.geometry_records.specs.Bytes.{surface_bytes, values_bytes, semantics_bytes, shape_bytes, geometry_bytes}
use Rattle.geometry_records.specs.Parts.{semantics-parts, geometry-parts}
use Rattle.geometry_records.specs.Members.{lod_member, boundary_member, surfaces_member, values_member, semantics_member}
use Rattle.geometry_records.specs.Members.{surface_payload, values_payload, shape_payload}

-- ---- a header around a payload

-- g gives a record of that kind, whose payload f gives
pub record IsRecord (kind : ℕ) (f g : Json → List ℕ) : Type 0 where
  pub is : (v : Json) → lay_rec (rec kind (f v)) ≡ g v

pub recorded : {F : Type 0} {o : Once F (MutBor (List ℕ) × (ℕ × Unit {0})) (ℕ × (MutBor (List ℕ) × Unit {0}))} {h : F} {kind : ℕ} {f g : Json → List ℕ}
    {x t : List ℕ} {i : ℕ} {d₀ d : List ℕ} {at r : ℕ} → IsRecord kind f g → Recorded o h kind d₀ d at r
    → ((p q : MutBor (List ℕ)) (body end : ℕ) → o.post h (p, (body, tt)) (end, (q, tt)) → Wrote f x t i p.now q.now body end) → Wrote g x t i d₀ d at r
recorded e c w = record { is = λ v s. rw (e.is v) at (recorded_writes c (λ p q body end m. (w p q body end m).is v s)) }

pub shape-record : (code : ℕ) → IsRecord 6 (shape_payload code) (shape_bytes code)
unfolding shape_payload shape_bytes lod_member boundary_member
shape-record code = record { is = λ v. refl }

pub surface-record : IsRecord 7 surface_payload surface_bytes
unfolding surface_payload surface_bytes surface_of surface_recs concat_map type_text
surface-record = record { is = λ v. ap (λ w. lay_rec (rec 7 (lay_surface (surface_named w)))) (type-text v) ∙ sym (append-nil _) }

pub values-record : (code : ℕ) → IsRecord 8 (values_payload code) (values_member code)
unfolding values_payload values_member values_bytes
values-record code = record { is = λ v. refl }

-- ---- one after the other

module _ {x t : List ℕ} {i : ℕ} {d₀ d₁ d₂ : List ℕ} {to q r : ℕ} where
  pub semantics-wrote : (code : ℕ) → Wrote surfaces_member x t i d₀ d₁ to q → Wrote (values_member code) x t i d₁ d₂ q r → Wrote (semantics_bytes code) x t i d₀ d₂ to r
  unfolding surfaces_member values_member
  semantics-wrote code u w = wrote_as (λ v s. sym (semantics-parts code v)) (wrote_then u w)

  pub geometry-wrote : {code : ℕ} → Gives geometry_code x t i code → Wrote (shape_bytes code) x t i d₀ d₁ to q → Wrote (semantics_member code) x t i d₁ d₂ q r → Wrote geometry_bytes x t i d₀ d₂ to r
  unfolding semantics_member
  geometry-wrote g u w = record { is = λ v s. rw (geometry-parts v, ← g.is v s) (then (u.is v s) (w.is v s)) }

pub shape-parts : (code : ℕ) {x t : List ℕ} {i : ℕ} {d₀ d₁ d₂ d₃ : List ℕ} {to p q r : ℕ}
    → Writes (le 2 code) d₀ d₁ to p → Wrote lod_member x t i d₁ d₂ p q → Wrote (boundary_member code) x t i d₂ d₃ q r → Wrote (shape_payload code) x t i d₀ d₃ to r
unfolding shape_payload
shape-parts code u w y = record { is = λ v s. then (then u (w.is v s)) (y.is v s) }
