-- What `search` is handed to close what the functions leave.
use Prim.Native.Nat.{ℕ, ◌+◌, ◌-◌, ◌<◌}
use native.Mathlib.Omega.{arith}
use mathlib.Core.Path.{◌≡◌, refl}
use mathlib.Core.Bool.{Bool, true, false, not}
use mathlib.Core.List.{List, [], ◌∷◌}
use lib.ListN.{length, get_or}
use borrow.Author.Rules.{rules}
use Rattle.utf8.specs.Utf8.{same}
use Rattle.strings.specs.Spans.{decode_at}
use Rattle.words.specs.Words.{code_of, object_words, geometry_words}
use Rattle.nodes.specs.Access.{is_string_value, text_of, elements}
use Rattle.nodes.specs.Says.{Gives, GivesFound}
use Rattle.nodes.specs.Says.{Found}
use Rattle.std.specs.Prelude.{Some, None}
use Rattle.std.specs.Prelude as code
use mathlib.Core.Option as option
use mathlib.Core.Path.{sym, ap, ◌∙◌}
use Rattle.strings.specs.Spans.{Span}
use Rattle.nodes.specs.Says.{Finds, Sought}
use Rattle.fields.specs.Says.{GivesSpan, Spells}
use Rattle.fields.specs.Fields.{text_in, count_in}
use Rattle.fields.specs.Says.{StringNode}
use Rattle.fields.specs.Laws.{at-node, of_none, of_some, string-node, string-first, string-second, string-span, string-text, other_text}

-- an empty text is no word
pub object-none : 0 ≡ code_of object_words []
unfolding code_of object_words
object-none = refl

pub geometry-none : 0 ≡ code_of geometry_words []
unfolding code_of geometry_words
geometry-none = refl

word_none : (w : List ℕ) → 0 < length w → false ≡ same w []
unfolding same
word_none [] h = absurd (omega arith)
word_none (a ∷ w) h = refl

module _ {x t : List ℕ} {found : Found} where
  pub count-nothing : found ≡ None → GivesFound count_in x t found 0
  unfolding count_in
  count-nothing e = of_none count_in e refl

  pub count_at : {k r : ℕ} → found ≡ Some k → Gives (λ v. length (elements v)) x t k r → GivesFound count_in x t found r
  unfolding count_in
  count_at e g = of_some count_in e g

  pub word-nothing : (w : List ℕ) → 0 < length w → found ≡ None → GivesFound (λ o. same w (text_in o)) x t found false
  unfolding text_in
  word-nothing w h e = of_none (λ o. same w (text_in o)) e (word_none w h)

  pub word_at : (w : List ℕ) {k : ℕ} {r : Bool} → found ≡ Some k → Gives (λ v. same w (text_of v)) x t k r → GivesFound (λ o. same w (text_in o)) x t found r
  unfolding text_in
  word_at w e g = of_some (λ o. same w (text_in o)) e g

  -- where the text of what was found stands
  pub span-nothing : found ≡ None → GivesSpan x t found None
  unfolding Finds text_in
  span-nothing e = record { is = λ o h. let z : o ≡ option.none = rw e at h in ap text_in z }

  pub span-other : {k : ℕ} {b : Bool} → found ≡ Some k → Gives is_string_value x t k b → b ≡ false → GivesSpan x t found None
  unfolding text_in
  span-other e g h = record { is = λ o z. sym ((of_some text_in e (other_text (λ w. w) g (ap not h) refl)).is o z) }

  pub span-is : {k p f : ℕ} → found ≡ Some k → StringNode x t k → p ≡ get_or t k 0 + 1 → f ≡ get_or t (k + 1) 0 - 1 → GivesSpan x t found (Some (p, f))
  unfolding text_in
  span-is e d q u = record { is = λ o z. (string-span d q u, sym ((of_some text_in e (string-text d (λ w. w) q u refl)).is o z)) }

  module _ {A : Type 0} {q : A} (f : List ℕ → A) {r : code.Option (ℕ × ℕ)} (g : GivesSpan x t found r) where
    pub spelled : {s : ℕ × ℕ} → r ≡ Some s → q ≡ f (decode_at x s.0 s.1) → GivesFound (λ o. f (text_in o)) x t found q
    spelled {s} e h = record { is = λ o z. let w : Spells x (text_in o) (Some s) = rw e at (g.is o z) in h ∙ ap f (sym w.1) }

    pub unspelled : r ≡ None → q ≡ f [] → GivesFound (λ o. f (text_in o)) x t found q
    unspelled e h = record { is = λ o z. let w : Spells x (text_in o) None = rw e at (g.is o z) in h ∙ ap f (sym w) }

  pub spelled-span : {r : code.Option (ℕ × ℕ)} {s : ℕ × ℕ} → Sought x t found → GivesSpan x t found r → r ≡ Some s → Span x s.0 s.1
  spelled-span {s = s} d g e = let w : Spells x (text_in d.answer) (Some s) = rw e at (g.is d.answer d.finds) in w.0

module _ {x t : List ℕ} {i : ℕ} (w : List ℕ) where
  pub is-other : {b : Bool} → Gives is_string_value x t i b → 0 < length w → not b ≡ true → Gives (λ v. same w (text_of v)) x t i false
  is-other g n h = other_text (same w) g h (word_none w n)

  pub is-text : {p f : ℕ} {r : Bool} → StringNode x t i → p ≡ get_or t i 0 + 1 → f ≡ get_or t (i + 1) 0 - 1 → r ≡ same w (decode_at x p f) → Gives (λ v. same w (text_of v)) x t i r
  is-text d q u s = string-text d (same w) q u s

pub ruleset fields = (
  rules,
  at-node,
  string-node,
  string-first,
  string-second,
  string-span,
  count-nothing,
  count_at,
  word-nothing,
  word_at,
  span-nothing,
  span-other,
  span-is,
  spelled-span,
  is-other,
  is-text,
)
