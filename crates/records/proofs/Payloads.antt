-- Records: a header around a payload, and what comes together in one.
use Prim.Native.Nat.{ℕ, ◌+◌, ◌-◌, ◌≤◌}
use mathlib.Core.Path.{◌≡◌, refl}
use mathlib.Core.List.{List}
use lib.ListN.{get_or}
use Rattle.utf8.specs.Ascii.{ascii}
use Rattle.utf8.specs.Bytes.{le}
use Rattle.strings.specs.Spans.{decode_at}
use Rattle.nodes.specs.Access.{elements, name_of, find, Member}
use Rattle.nodes.specs.Says.{Gives}
use Rattle.everywhere.specs.Says.{text_at}
use Rattle.words.specs.Words.{object_words, code_of}
use Rattle.fields.specs.Fields.{type_text}
use Rattle.ids.specs.Says.{MemberNode}
use Rattle.ids.proofs.Rules.{name-text}
use Rattle.model.specs.Code.{signed, concat_map}
use Rattle.model.specs.Model.{lay_three}
use Rattle.model.specs.Read.{get, integer_of, three_of}
use Rattle.std.specs.Borrow.{MutBor}
use Rattle.std.specs.Fn.{Once}
use Rattle.writer.specs.Writes.{Writes, Recorded}
use Rattle.writer.specs.Laws.{then, recorded_writes}
use Rattle.arrays.specs.Says.{Wrote}
use Rattle.arrays.specs.Laws.{wrote_then}
use Rattle.geometry_records.proofs.Payloads.{IsRecord}
use Rattle.records.specs.Bytes.{identity_bytes, transform_bytes, vertices_bytes}
use Rattle.records.specs.Says.{IdentityWrote}
use Rattle.records.specs.Members.{MemberWrote, pairs_member, identity_payload, transform_payload}

-- ---- a header around a payload

pub transform-record : IsRecord 1 transform_payload transform_bytes
unfolding transform_payload transform_bytes
transform-record = record { is = λ v. refl }

pub vertices-record : IsRecord 2 (λ v. concat_map (λ w. lay_three (signed 4) (three_of integer_of w)) (elements v)) vertices_bytes
unfolding vertices_bytes
vertices-record = record { is = λ v. refl }

-- ---- an object's type and ID

module _ {x t : List ℕ} {own : ℕ} where
  pub id-wrote : {p e : ℕ} {d₀ d : List ℕ} {to r : ℕ} → p ≡ get_or t own 0 → e ≡ get_or t (own + 1) 0 → Writes (decode_at x (p + 1) (e - 1)) d₀ d to r → MemberWrote name_of x t own d₀ d to r
  unfolding text_at
  id-wrote y z w = record { is = λ m a. rw (name-text a, ← y, ← z) w }

  pub identity-parts : {code : ℕ} {d₀ d₁ d₂ : List ℕ} {to q r : ℕ}
      → Gives (λ v. code_of object_words (type_text v)) x t (own + 3) code → Writes (le 2 code) d₀ d₁ to q → MemberWrote name_of x t own d₁ d₂ q r → MemberWrote identity_payload x t own d₀ d₂ to r
  unfolding identity_payload
  identity-parts g u w = record { is = λ m a. rw (← g.is m.1 a.value) (then u (w.is m a)) }

  pub identity-recorded : {F : Type 0} {g : Once F (MutBor (List ℕ) × (ℕ × Unit {0})) (ℕ × (MutBor (List ℕ) × Unit {0}))} {h : F}
      {d₀ d : List ℕ} {at r : ℕ} → Recorded g h 3 d₀ d at r
      → ((p q : MutBor (List ℕ)) (body end : ℕ) → g.post h (p, (body, tt)) (end, (q, tt)) → MemberWrote identity_payload x t own p.now q.now body end)
      → IdentityWrote x t own d₀ d at r
  unfolding identity_payload identity_bytes
  identity-recorded c w = record { is = λ m a. recorded_writes c (λ p q body end e. (w p q body end e).is m a) }

  pub member-wrote-onward : {f : Member → List ℕ} {d₀ d : List ℕ} {to r : ℕ} → MemberNode x t own → MemberWrote f x t own d₀ d to r → to ≤ r
  member-wrote-onward n w = (w.is n.it n.stands).onward

-- ---- one after the other

module _ {x t : List ℕ} {i : ℕ} {d₀ d₁ d₂ : List ℕ} {to q r : ℕ} where
  pub transform-parts : Wrote (pairs_member (ascii "scale")) x t i d₀ d₁ to q → Wrote (pairs_member (ascii "translate")) x t i d₁ d₂ q r → Wrote transform_payload x t i d₀ d₂ to r
  unfolding transform_payload pairs_member get find
  transform-parts u w = wrote_then u w
