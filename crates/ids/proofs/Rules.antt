-- Texts and city objects in the node table.
use Prim.Native.Nat.{ℕ, ◌+◌, ◌-◌, ◌*◌, ◌^◌, ◌≤◌, ◌<◌}
use native.Mathlib.Omega.{arith}
use mathlib.Core.Path.{◌≡◌, sym, ◌∙◌}
use mathlib.Core.Bool.{Bool, true, false, not}
use mathlib.Core.List.{List, []}
use lib.ListN.{length, get_or}
use borrow.Author.Tests.{not-false}
use borrow.Author.Rules.{rules}
use mir.Val.{Fits}
use mir.Syntax.{w64}
use Rattle.utf8.specs.Utf8.{same}
use Rattle.strings.specs.Spans.{Span, decode_at}
use Rattle.json_text.specs.Tree.{Json}
use Rattle.json_text.specs.Tree as tree
use Rattle.json_text.specs.Table.{Sub}
use Rattle.json_text.specs.Laws.{words}
use Rattle.nodes.specs.Access.{is_string_value, text_of, name_of, Member}
use Rattle.nodes.specs.Laws.{raw_of, string-at, text-at, quoted-at}
use Rattle.everywhere.specs.Says.{text_at}
use Rattle.nodes.specs.Says.{Node, Gives}
use Rattle.fields.specs.Says.{MemberAt}
use Rattle.ids.specs.Says.{TextNode, Objects, MemberNode}

-- ---- texts

module _ {x t : List ℕ} {i : ℕ} (d : TextNode x t i) where
  pub text-first : i < length t
  text-first = omega (arith, d.string.room)

  pub text-second : i + 1 < length t
  text-second = omega (arith, d.string.room)

  pub text-some : {e : ℕ} → e ≡ get_or t (i + 1) 0 → 1 ≤ e
  text-some q = rw q d.string.some

  pub text-fits : {p : ℕ} → p ≡ get_or t i 0 → p + 1 ≤ length x
  text-fits q = rw q d.string.fits

  pub text-onward : {p : ℕ} → p ≡ get_or t i 0 → length x * 1 < 2 ^ 63 → Fits w64 (p + 1)
  text-onward q h = record { fits = omega (arith, text-fits q) }

  pub text-span : {p e : ℕ} → p ≡ get_or t i 0 → e ≡ get_or t (i + 1) 0 → Span x (p + 1) (e - 1)
  text-span q r = rw (q, r) d.string.span

-- a string, and a member's name
pub of-string : {x t : List ℕ} {i : ℕ} {b : Bool} → Node x t i → Gives is_string_value x t i b → not b ≡ false → TextNode x t i
of-string {b = b} d g h = record { raw = raw_of d.value; string = string-at d.stands (sym (g.is _ d.stands) ∙ not-false b h) }

pub of-member : {x t : List ℕ} {i : ℕ} {m : Member} → MemberAt x t i m → TextNode x t i
of-member {m = m} d = record { raw = m.0.raw; string = quoted-at d.name }

-- its text
pub string-text : {x t : List ℕ} {i : ℕ} {v : Json} → Sub x t i v → is_string_value v ≡ true → text_of v ≡ text_at x t i
unfolding text_at
string-text s h = text-at s h

pub name-text : {x t : List ℕ} {i : ℕ} {m : Member} → MemberAt x t i m → name_of m ≡ text_at x t i
unfolding name_of text_at
name-text d = (quoted-at d.name).text

module _ {x t : List ℕ} {i j p e p' e' : ℕ} {r : Bool} (a : TextNode x t i) (b : TextNode x t j) where
  pub same-told : p ≡ get_or t i 0 → e ≡ get_or t (i + 1) 0 → p' ≡ get_or t j 0 → e' ≡ get_or t (j + 1) 0
      → r ≡ same (decode_at x (p + 1) (e - 1)) (decode_at x (p' + 1) (e' - 1)) → r ≡ same (text_at x t i) (text_at x t j)
  unfolding text_at
  same-told q r q' r' s = rw (← q, ← r, ← q', ← r') s

-- ---- the objects

-- a member for the places past the end of a list
pub nobody : Member
nobody = (record { place = 0; end = 0; raw = [] }, tree.null 0 0)

module _ {x t offsets : List ℕ} where
  pub object-node : {k : ℕ} → Objects x t offsets → k < length offsets → MemberNode x t (get_or offsets k 0)
  object-node {k} s l = record { it = get_or s.members k nobody; stands = s.stand.each k nobody l }

  pub object-text : {k : ℕ} → Objects x t offsets → k < length offsets → TextNode x t (get_or offsets k 0)
  object-text s l = of-member (object-node s l).stands

  pub object-few : {k : ℕ} → Objects x t offsets → k < length offsets → k < 1024
  object-few s l = omega (arith, s.stand.few)

-- ---- one object

pub object-value : {x t offsets : List ℕ} {i : ℕ} → Objects x t offsets → MemberNode x t i → Node x t (i + 3)
object-value o d = record { value = d.it.1; stands = d.stands.value; short = o.short }

pub member-text : {x t : List ℕ} {i : ℕ} → MemberNode x t i → TextNode x t i
member-text d = of-member d.stands

pub member-onward : {x t : List ℕ} {i : ℕ} → MemberNode x t i → length t * 4 < 2 ^ 63 → Fits w64 (i + 3)
member-onward d h = let w = words d.stands.value in record { fits = omega (arith, w.room) }

pub ruleset ids = (
  rules,
  text-first,
  text-second,
  text-some,
  text-fits,
  text-onward,
  text-span,
  of-string,
  of-member,
  same-told,
  object-node,
  object-text,
  object-few,
  object-value,
  member-text,
  member-onward,
)
