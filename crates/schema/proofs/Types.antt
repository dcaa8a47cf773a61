-- The type of a city object, and what functions of `shapes` check.
use Prim.Native.Nat.{ℕ}
use Prim.Native.String.{String}
use mathlib.Core.Path.{◌≡◌, refl, sym, ap, ◌∙◌}
use mathlib.Core.Bool.{Bool, true, false, not, ◌||◌, ◌&&◌}
use mathlib.Core.List.{List, [], ◌∷◌, ◌++◌, append_assoc, append-nil}
use lib.Dec.{eqb}
use borrow.Author.Tests.{not-true, not-false, eq-eqb, ne_eqb}
use Rattle.utf8.specs.Ascii.{ascii}
use Rattle.utf8.specs.Utf8.{same}
use Rattle.utf8.specs.Laws.{clash, both_left, both_right, same-equal}
use Rattle.words.specs.Words.{object_words, code_of, is_one, is_added}
use Rattle.words.specs.Laws.{one-has-code}
use Rattle.json_text.specs.Tree.{Json}
use Rattle.json_text.specs.Table.{Sub}
use Rattle.nodes.specs.Access.{is_string_value, text_of}
use Rattle.nodes.specs.Faults.{least}
use Rattle.nodes.specs.Says.{Gives}
use Rattle.shapes.specs.Checks.{unless, all, each_element, string_kind, number_kind, array_kind, text}
use Rattle.shapes.specs.Shapes.{three_entries, pair_range, vertex}
use Rattle.shapes.specs.Laws.{text-none, all_none, all_then}
use Rattle.rules.specs.Schema.{object_type, is_object_type, three_pairs, vertices}
use Rattle.geometry.specs.Says.{Checked, CodeAt}
use Rattle.geometry.proofs.Lines.{lines, checked}
use Rattle.geometry.proofs.Strings.{two-checks, strings}

-- the checks of functions of `shapes`
module _ {x t : List ℕ} {i best r : ℕ} where
  pub pairs-checked : Gives (λ v. least best (array_kind v ++ each_element number_kind v ++ three_entries v ++ each_element pair_range v)) x t i r → Checked three_pairs x t i best r
  unfolding three_pairs all
  pairs-checked g = record { is = λ v s. g.is v s ∙ ap (least best) (simp (append_assoc, append-nil)) }

  pub vertices-checked : Gives (λ v. least best (array_kind v ++ each_element vertex v)) x t i r → Checked vertices x t i best r
  unfolding vertices
  vertices-checked g = record { is = λ v s. g.is v s ∙ ap (least best) (two-checks array_kind (each_element vertex) v) }

-- ---- the type of a city object

-- the words begin with no plus sign
no_plus : List String → Bool
no_plus [] = true
no_plus (w ∷ ws) = not (is_added (ascii w)) && no_plus ws

word-no-plus : (ws : List String) (u : List ℕ) → no_plus ws ≡ true → is_one ws u ≡ true → is_added u ≡ false
unfolding is_one no_plus
word-no-plus [] u n e = clash cc
word-no-plus (w ∷ ws) u n e = of (same (ascii w) u) refl (word-no-plus ws u (both_right (not (is_added (ascii w))) (no_plus ws) n)) e
  where
    of : (b : Bool) → same (ascii w) u ≡ b → (is_one ws u ≡ true → is_added u ≡ false) → (b || is_one ws u) ≡ true → is_added u ≡ false
    of true p ih q = rw (sym (same-equal (ascii w) u p)) (not-true (is_added (ascii w)) (both_left (not (is_added (ascii w))) (no_plus ws) n))
    of false p ih q = ih q

object-no-plus : no_plus object_words ≡ true
unfolding no_plus object_words is_added ascii
object-no-plus = refl

-- the checks of a string's type, by what its tests say
type-by : (best : ℕ) (v : Json) (one add : Bool) → is_string_value v ≡ true → is_one object_words (text_of v) ≡ one → is_added (text_of v) ≡ add
    → least best (object_type v) ≡ least best (unless (one || add) 10 v ++ (unless (not add) 11 v ++ []))
unfolding object_type all string_kind text is_object_type unless
type-by best v one add s o a = rw (s, o, a)

one-of-code : (u : List ℕ) (code : ℕ) → code ≡ code_of object_words u → is_one object_words u ≡ not (eqb code 0)
one-of-code u code e = one-has-code object_words u ∙ ap (λ n. not (eqb n 0)) (sym e)

module _ {x t : List ℕ} {i : ℕ} {b : Bool} (best : ℕ) (g : Gives is_string_value x t i b) where
  pub type-other : {r : ℕ} → not b ≡ true → Gives (λ v. least best (string_kind v)) x t i r → Checked object_type x t i best r
  unfolding object_type
  type-other {r} e u =
      checked _ (all_then best r string_kind (text 10 is_object_type ∷ text 11 (λ w. not (is_added w)) ∷ []) u
      (all_then r r (text 10 is_object_type) (text 11 (λ w. not (is_added w)) ∷ []) (text-none r 10 is_object_type g e)
      (all_then r r (text 11 (λ w. not (is_added w))) [] (text-none r 11 (λ w. not (is_added w)) g e) all_none)))

  module _ {code : ℕ} (e : not b ≡ false) (m : CodeAt object_words x t i code) where
    is-string : {v : Json} → Sub x t i v → is_string_value v ≡ true
    is-string s = sym (g.is _ s) ∙ not-false b e

    pub type-listed : (code ≡ 0 → ⊥) → Checked object_type x t i best best
    unfolding unless least
    type-listed n =
        record {
          is = λ v s.
              let o : is_one object_words (text_of v) ≡ true = one-of-code (text_of v) code (m.is.is v s) ∙ ap not (ne_eqb code 0 n) in
              sym (type-by best v true false (is-string s) o (word-no-plus object_words (text_of v) object-no-plus o));
        }

    module _ {a : Bool} (z : code ≡ 0) (d : Gives (λ v. is_added (text_of v)) x t i a) where
      unlisted : (v : Json) → Sub x t i v → is_one object_words (text_of v) ≡ false
      unlisted v s = one-of-code (text_of v) code (m.is.is v s) ∙ ap not (eq-eqb code 0 z)

      pub type-added : {r : ℕ} → a ≡ true → Gives (λ v. least best (unless false 11 v)) x t i r → Checked object_type x t i best r
      unfolding unless
      type-added y u = record { is = λ v s. u.is v s ∙ sym (type-by best v false true (is-string s) (unlisted v s) (sym (d.is v s) ∙ y)) }

      pub type-wrong : {r : ℕ} → a ≡ false → Gives (λ v. least best (unless false 10 v)) x t i r → Checked object_type x t i best r
      unfolding unless
      type-wrong y u = record { is = λ v s. u.is v s ∙ sym (type-by best v false false (is-string s) (unlisted v s) (sym (d.is v s) ∙ y)) }

-- what `search` is handed to close what a function over a city object's type, and one over numbers, leaves
pub ruleset typed = (strings, type-other, type-listed, type-added, type-wrong)

pub ruleset numbers = (lines, pairs-checked, vertices-checked)
