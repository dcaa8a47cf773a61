-- Laws of what was found, for code that goes on with it.
use Rattle.std.specs.Prelude.{ℕ, ◌+◌, ◌*◌, ◌-◌, ◌^◌, ◌≤◌, ◌<◌, ◌≡◌, refl, Bool, true, false, not, List, [], length, get_or}
use Rattle.std.proofs.Common.{arith, sym, ◌∙◌, Fits}
use Rattle.std.proofs.Math.Path.{ap, subst}
use Rattle.std.proofs.Math.Option.{Option, none, some}
use Rattle.std.specs.Int.{w64}
use Rattle.std.proofs.lemmas.Bool.{not-true, not-false}
use Rattle.utf8.specs.Laws.{clash}
use Rattle.strings.specs.Spans.{Span, decode_at}
use Rattle.json_text.specs.Tree.{Json}
use Rattle.nodes.specs.Access.{is_string_value, text_of}
use Rattle.nodes.specs.Says.{Node, Sought, Seeks, Finds, Gives, GivesFound}
use Rattle.nodes.specs.Reads.{node-room, node-onward}
use Rattle.nodes.specs.Laws.{StringAt, raw_of, string-at, text-at}
use Rattle.nodes.specs.Says.{Found}
use Rattle.std.specs.Prelude.{Some, None}
use Rattle.fields.specs.Says.{StringNode}

module _ {x t : List ℕ} {found : Found} where
  -- what was found at a node stands there
  pub at-node : {k : ℕ} → Sought x t found → found ≡ Some k → Node x t k
  unfolding Finds
  at-node s e = let (v, p, q) : Finds x t s.answer (Some _) = subst (Finds x t s.answer) e s.finds in record { value = v; stands = q; short = s.short }

  pub at_room : {k : ℕ} → Sought x t found → found ≡ Some k → k + 2 < length t
  at_room s e = node-room (at-node s e)

  pub at_onward : {k : ℕ} → Sought x t found → found ≡ Some k → length t * 4 < 2 ^ 63 → Fits w64 (k + 3)
  at_onward s e h = node-onward (at-node s e) h

  -- what a search in a value found is sought
  pub sought-in : {i : ℕ} {f : Json → Option Json} → Seeks f x t i found → Node x t i → Sought x t found
  sought-in {f = f} s d = record { answer = f d.value; finds = s.finds d.value d.stands; short = d.short }

  -- an answer for nothing
  pub of_none : {A : Type 0} {r : A} (f : Option Json → A) → found ≡ None → r ≡ f none → GivesFound f x t found r
  unfolding Finds
  of_none f e q = record { is = λ o h. let z : o ≡ none = subst (Finds x t o) e h in q ∙ ap f (sym z) }

  -- an answer for the value at a node
  pub of_some : {A : Type 0} {r : A} {k : ℕ} (f : Option Json → A) → found ≡ Some k → Gives (λ v. f (some v)) x t k r → GivesFound f x t found r
  unfolding Finds
  of_some f e g = record { is = λ o h. let (v, p, q) : Finds x t o (Some _) = subst (Finds x t o) e h in g.is v q ∙ ap f (sym p) }

-- a string at a node, where the test said so
pub string-node : {x t : List ℕ} {i : ℕ} {b : Bool} → Node x t i → Gives is_string_value x t i b → not b ≡ false → StringNode x t i
string-node {b = b} d g h = record { node = d; is = λ v s. sym (g.is v s) ∙ not-false b h }

module _ {x t : List ℕ} {i : ℕ} (d : StringNode x t i) where
  at-string : StringAt x t i (raw_of d.node.value)
  at-string = string-at d.node.stands (d.is _ d.node.stands)

  pub string-first : i < length t
  string-first = omega (arith, at-string.room)

  pub string-second : i + 1 < length t
  string-second = omega (arith, at-string.room)

  pub string-fits : get_or t i 0 + 1 ≤ length x
  string-fits = at-string.fits

  pub string-some : 1 ≤ get_or t (i + 1) 0
  string-some = at-string.some

  pub string-span : {p e : ℕ} → p ≡ get_or t i 0 + 1 → e ≡ get_or t (i + 1) 0 - 1 → Span x p e
  string-span q r = rw (q, r) at-string.span

  -- what is told of its text
  pub string-text : {A : Type 0} {p e : ℕ} {r : A} (f : List ℕ → A) → p ≡ get_or t i 0 + 1 → e ≡ get_or t (i + 1) 0 - 1 → r ≡ f (decode_at x p e)
      → Gives (λ v. f (text_of v)) x t i r
  string-text f q r s = record { is = λ v u. rw (text-at u (d.is v u), ← q, ← r) s }

-- a value that is no string has no text
no_text : (v : Json) → is_string_value v ≡ false → text_of v ≡ []
unfolding is_string_value text_of
no_text (Rattle.json_text.specs.Tree.null p e) h = refl
no_text (Rattle.json_text.specs.Tree.bool p e b) h = refl
no_text (Rattle.json_text.specs.Tree.num p e raw) h = refl
no_text (Rattle.json_text.specs.Tree.str p e raw) h = clash cc
no_text (Rattle.json_text.specs.Tree.arr p e vs) h = refl
no_text (Rattle.json_text.specs.Tree.obj p e ms) h = refl

pub other_text : {A : Type 0} {x t : List ℕ} {i : ℕ} {b : Bool} {r : A} (f : List ℕ → A) → Gives is_string_value x t i b → not b ≡ true → r ≡ f []
    → Gives (λ v. f (text_of v)) x t i r
other_text {b = b} f g h q = record { is = λ v s. q ∙ ap f (sym (no_text v (sym (g.is v s) ∙ not-true b h))) }
