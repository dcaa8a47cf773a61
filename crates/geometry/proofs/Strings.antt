-- Strings and their words, and types with their codes.
use Prim.Native.Nat.{ℕ}
use Prim.Native.String.{String}
use mathlib.Core.Path.{◌≡◌, refl, sym, ap, ◌∙◌, subst}
use mathlib.Core.Bool.{Bool, true, false, not, ◌||◌}
use mathlib.Core.List.{List, [], ◌∷◌, ◌++◌, append-nil}
use mathlib.Core.Option.{some}
use borrow.Author.Tests.{not-false}
use Rattle.utf8.specs.Ascii.{ascii}
use Rattle.words.specs.Words.{code_of}
use Rattle.json_text.specs.Tree.{Json}
use Rattle.json_text.specs.Table.{Sub}
use Rattle.nodes.specs.Access.{is_string_value, text_of, members, first_named, find}
use Rattle.nodes.specs.Faults.{least}
use Rattle.nodes.specs.Says.{Node, Seeks, Finds, Gives, GivesFound}
use Rattle.nodes.specs.Says.{Found}
use Rattle.std.specs.Prelude.{Some}
use Rattle.fields.specs.Fields.{text_in, type_text}
use Rattle.fields.specs.Laws.{string-node, string-first, string-second, string-span}
use Rattle.shapes.specs.Checks.{Check, unless, all, string_kind, text}
use Rattle.shapes.specs.Laws.{text-none, all_none, all_then, unless-told, unless-yes}
use Rattle.geometry.specs.Says.{Checked, TypeAt, CodeAt}
use Rattle.geometry.proofs.Lines.{lines, checked, found-node}

-- two checks one after the other
pub two-checks : (c d : Check) (v : Json) → c v ++ d v ≡ all (c ∷ d ∷ []) v
unfolding all
two-checks c d v = ap (λ l. c v ++ l) (sym (append-nil (d v)))

-- the texts of a string: another value has none, and a string's is told by its test
module _ {x t : List ℕ} {i : ℕ} {b : Bool} (g : Gives is_string_value x t i b) where
  pub string-yes : (best : ℕ) → not b ≡ false → Gives (λ v. least best (string_kind v)) x t i best
  unfolding string_kind
  string-yes best e = unless-told best 7 g (unless-yes best 7 (not-false b e))

  pub text-told : (best rule : ℕ) (ok : List ℕ → Bool) {k : Bool} {r : ℕ} → not b ≡ false → Gives (λ v. ok (text_of v)) x t i k → Gives (λ v. least best (unless k rule v)) x t i r
      → Gives (λ v. least best (text rule ok v)) x t i r
  unfolding text
  text-told best rule ok {k} {r} e m u = record { is = λ v s. u.is v s ∙ ap (λ (c : Bool). least best (unless c rule v)) (told v s) }
    where
      told : (v : Json) → Sub x t i v → k ≡ not (is_string_value v) || ok (text_of v)
      told v s = let z : is_string_value v ≡ true = sym (g.is v s) ∙ not-false b e in rw z (m.is v s)

-- a rule about a string's text: another value, and a string
module _ {x t : List ℕ} {i best : ℕ} {b : Bool} (rule : ℕ) (ok : List ℕ → Bool) {r : ℕ} (g : Gives is_string_value x t i b) where
  pub string-other : not b ≡ true → Gives (λ v. least best (string_kind v)) x t i r → Checked (all (string_kind ∷ text rule ok ∷ [])) x t i best r
  string-other e u = checked _ (all_then best r string_kind (text rule ok ∷ []) u (all_then r r (text rule ok) [] (text-none r rule ok g e) all_none))

  pub string-told : {k : Bool} → not b ≡ false → Gives (λ v. ok (text_of v)) x t i k → Gives (λ v. least best (unless k rule v)) x t i r
      → Checked (all (string_kind ∷ text rule ok ∷ [])) x t i best r
  string-told e m u = checked _ (all_then best best string_kind (text rule ok ∷ []) (string-yes g best e) (all_then best r (text rule ok) [] (text-told g best rule ok e m u) all_none))

-- ---- a type and its code

-- the type that was found, and its code
pub type_at : {words : List String} {x t : List ℕ} {i code : ℕ} {kind : Found} → Node x t i → Seeks (λ v. first_named (ascii "type") (members v)) x t i kind
    → GivesFound (λ o. code_of words (text_in o)) x t kind code → TypeAt words x t i kind code
type_at d f g = record { member = record { node = d; seeks = f }; is = g }

-- its code is that of the string at its node
pub code_at : {words : List String} {x t : List ℕ} {i code k : ℕ} {kind : Found} → TypeAt words x t i kind code → kind ≡ Some k → CodeAt words x t k code
unfolding Finds text_in
code_at {x = x} {t = t} c e = record { node = found-node c.member e; is = record { is = λ v s. c.is.is (some v) (subst (Finds x t (some v)) (sym e) (v, refl, s)) } }

-- the code that is known is that of the value's type
pub type-code : {x t : List ℕ} {i code : ℕ} {words : List String} {kind : Found} → TypeAt words x t i kind code → (v : Json) → Sub x t i v → code ≡ code_of words (type_text v)
unfolding type_text find
type-code k v s = k.is.is (find "type" v) (k.member.seeks.finds v s)

-- what `search` is handed to close what a function over strings and members leaves
pub ruleset strings = (lines, string-node, string-first, string-second, string-span, string-other, string-told, type_at, code_at)
