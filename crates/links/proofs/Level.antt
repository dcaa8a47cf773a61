-- Is the type that was found one of the second level?
use Prim.Native.Nat.{ℕ, ◌+◌, ◌-◌, ◌≤◌, ◌<◌}
use native.Mathlib.Omega.{arith}
use mathlib.Core.Path.{◌≡◌, refl, sym, ap, ◌∙◌}
use mathlib.Core.Bool.{Bool, true, false, not}
use mathlib.Core.List.{List, []}
use lib.ListN.{get_or}
use lib.Dec.{ltb, leb}
use borrow.Author.Tests.{not-true, leb-true, leb-false, lt-ltb, le-ltb}
use borrow.Author.Rules.{rules}
use Rattle.strings.specs.Spans.{decode_at}
use Rattle.words.specs.Words.{object_words, code_of, is_second_level}
use Rattle.words.specs.Tables.{looks_second_level}
use Rattle.words.specs.Laws.{not-second}
use Rattle.nodes.specs.Access.{is_string_value}
use Rattle.nodes.specs.Says.{Gives, GivesFound}
use Rattle.nodes.specs.Says.{Found}
use Rattle.std.specs.Prelude.{Some, None}
use Rattle.fields.specs.Fields.{text_in}
use Rattle.fields.specs.Says.{StringNode}
use Rattle.fields.specs.Laws.{at-node, of_none, of_some, string-node, string-span, string-text, other_text}

-- is the text a type of the second level?
unfoldable second : List ℕ → Bool
second w = is_second_level (code_of object_words w)

-- an empty text is none
second_none : false ≡ second []
unfolding second is_second_level code_of object_words
second_none = refl

-- the second level begins at 17
level-from : (code : ℕ) → leb 17 code ≡ is_second_level code
unfolding is_second_level
level-from code = of (leb 17 code) refl
  where
    of : (b : Bool) → leb 17 code ≡ b → b ≡ ltb 16 code
    of true e = let l : 17 ≤ code = leb-true 17 code e in sym (lt-ltb 16 code (omega arith))
    of false e = let l : code < 17 = leb-false 17 code e in sym (le-ltb 16 code (omega arith))

module _ {x t : List ℕ} {found : Found} where
  pub second-nothing : found ≡ None → GivesFound (λ o. is_second_level (code_of object_words (text_in o))) x t found false
  unfolding text_in second
  second-nothing e = of_none (λ o. second (text_in o)) e second_none

  module _ {k : ℕ} (e : found ≡ Some k) where
    pub second-other : {b : Bool} → Gives is_string_value x t k b → not b ≡ true → GivesFound (λ o. is_second_level (code_of object_words (text_in o))) x t found false
    unfolding text_in second
    second-other g h = of_some (λ o. second (text_in o)) e (other_text second g h second_none)

    module _ {p f : ℕ} (d : StringNode x t k) (q : p ≡ get_or t k 0 + 1) (u : f ≡ get_or t (k + 1) 0 - 1) where
      second-by : {r : Bool} → r ≡ second (decode_at x p f) → GivesFound (λ o. is_second_level (code_of object_words (text_in o))) x t found r
      unfolding text_in second
      second-by s = of_some (λ o. second (text_in o)) e (string-text d second q u s)

      -- one that does not look like one
      pub second-unlike : {b : Bool} → b ≡ looks_second_level x p f → not b ≡ true → GivesFound (λ o. is_second_level (code_of object_words (text_in o))) x t found false
      unfolding second
      second-unlike {b} l h = second-by (sym (not-second x p f (string-span d q u) (sym l ∙ not-true b h)))

      -- by the code
      pub second-told : {code : ℕ} → code ≡ code_of object_words (decode_at x p f) → GivesFound (λ o. is_second_level (code_of object_words (text_in o))) x t found (leb 17 code)
      unfolding second
      second-told {code} s = second-by (level-from code ∙ ap is_second_level s)

pub ruleset level = (rules, at-node, string-node, string-span, second-nothing, second-other, second-unlike, second-told)
