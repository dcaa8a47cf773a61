-- Integers and shapes at a node, and the checks of a depth by those of one less.
use Prim.Native.Nat.{ℕ, suc, zero, ◌+◌, ◌-◌}
use mathlib.Core.Path.{◌≡◌, refl, sym, ap, ◌∙◌}
use mathlib.Core.Bool.{Bool, true, false, not, ◌||◌}
use mathlib.Core.List.{List, ◌++◌}
use native.Mathlib.Omega.{arith}
use lib.ListN.{get_or}
use lib.Seq.{slice}
use borrow.Author.Tests.{not-true}
use Rattle.numerals.specs.Numerals.{integer, is_below}
use Rattle.json_text.specs.Tree.{Json}
use Rattle.nodes.specs.Access.{is_null_value, is_number_value, is_array_value}
use Rattle.nodes.specs.Faults.{least}
use Rattle.nodes.specs.Says.{Gives}
use Rattle.shapes.specs.Checks.{unless, each_element}
use Rattle.shapes.specs.Shapes.{is_integer_value, shaped, ranged}
use Rattle.shapes.specs.Laws.{unless-told, each_none, numeral-none, numeral-is, kind-no, kind-yes}
use Rattle.shapes.proofs.Parts.{or-true, or-false}

-- the checks of a depth above 0, by those of one less
pub shaped-suc : (d : ℕ) → (d ≡ 0 → ⊥) → (v : Json) → shaped d v ≡ unless (is_array_value v) 12 v ++ each_element (shaped (d - 1)) v
unfolding shaped each_element
shaped-suc zero h v = absurd (h refl)
shaped-suc (suc d) h v = let e : d ≡ suc d - 1 = omega arith in ap (λ (k : ℕ). unless (is_array_value v) 12 v ++ each_element (shaped k) v) e

pub ranged-suc : (count d : ℕ) → (d ≡ 0 → ⊥) → (v : Json) → ranged count d v ≡ each_element (ranged count (d - 1)) v
unfolding ranged each_element
ranged-suc count zero h v = absurd (h refl)
ranged-suc count (suc d) h v = let e : d ≡ suc d - 1 = omega arith in ap (λ (k : ℕ). each_element (ranged count k) v) e

module _ {x t : List ℕ} {i : ℕ} where
  -- an integer or null
  pub value-null : {b : Bool} → Gives is_null_value x t i b → b ≡ true → Gives (λ v. is_integer_value v || is_null_value v) x t i true
  value-null {b} g e = record { is = λ v s. let z : is_null_value v ≡ true = sym (g.is v s) ∙ e in rw z (sym (or-true (is_integer_value v))) }

  pub value-integer : {b r : Bool} → Gives is_null_value x t i b → b ≡ false → Gives is_integer_value x t i r → Gives (λ v. is_integer_value v || is_null_value v) x t i r
  value-integer {b} {r} g e h = record { is = λ v s. let z : is_null_value v ≡ false = sym (g.is v s) ∙ e in rw z (h.is v s ∙ sym (or-false (is_integer_value v))) }

  -- an integer below the count
  pub below_none : (best count : ℕ) {b : Bool} → Gives is_number_value x t i b → not b ≡ true → Gives (λ v. least best (ranged count 0 v)) x t i best
  unfolding ranged
  below_none best count g e = numeral-none best 13 (λ raw. is_below count (integer raw)) g e

  pub below-is : (best count : ℕ) {p e r : ℕ} {k : Bool}
      → Gives is_number_value x t i true → p ≡ get_or t i 0 → e ≡ get_or t (i + 1) 0 → k ≡ is_below count (integer (slice p e x))
      → Gives (λ v. least best (unless k 13 v)) x t i r → Gives (λ v. least best (ranged count 0 v)) x t i r
  unfolding ranged
  below-is best count g q o m u = numeral-is best 13 (λ raw. is_below count (integer raw)) g refl q o m u

  -- a shape of that depth
  module _ (best depth : ℕ) where
    pub shaped-leaf : {b : Bool} {r : ℕ} → depth ≡ 0 → Gives is_integer_value x t i b → Gives (λ v. least best (unless b 12 v)) x t i r → Gives (λ v. least best (shaped depth v)) x t i r
    unfolding shaped
    shaped-leaf e g u = rw e (unless-told best 12 g u)

    shaped-deep : {r : ℕ} → (depth ≡ 0 → ⊥) → Gives (λ v. least best (unless (is_array_value v) 12 v ++ each_element (shaped (depth - 1)) v)) x t i r → Gives (λ v. least best (shaped depth v)) x t i r
    shaped-deep h g = record { is = λ v s. g.is v s ∙ ap (least best) (sym (shaped-suc depth h v)) }

    pub shaped-no : {b : Bool} {r : ℕ} → (depth ≡ 0 → ⊥) → Gives is_array_value x t i b → not b ≡ true → Gives (λ v. least best (unless false 12 v)) x t i r
        → Gives (λ v. least best (shaped depth v)) x t i r
    shaped-no {b} h g e u = shaped-deep h (kind-no best 12 (each_element (shaped (depth - 1))) g (each_none (shaped (depth - 1))) e (rw (not-true b e) u))

    pub shaped-yes : {b : Bool} {r : ℕ} → (depth ≡ 0 → ⊥) → Gives is_array_value x t i b → not b ≡ false
        → Gives (λ v. least best (each_element (shaped (depth - 1)) v)) x t i r → Gives (λ v. least best (shaped depth v)) x t i r
    shaped-yes h g e p = shaped-deep h (kind-yes best 12 (each_element (shaped (depth - 1))) g e p)

  -- integers in range at that depth
  module _ (best count depth : ℕ) where
    pub ranged-leaf : {r : ℕ} → depth ≡ 0 → Gives (λ v. least best (ranged count 0 v)) x t i r → Gives (λ v. least best (ranged count depth v)) x t i r
    ranged-leaf e g = rw e g

    pub ranged-deep : {r : ℕ} → (depth ≡ 0 → ⊥) → Gives (λ v. least best (each_element (ranged count (depth - 1)) v)) x t i r → Gives (λ v. least best (ranged count depth v)) x t i r
    ranged-deep h g = record { is = λ v s. g.is v s ∙ ap (least best) (sym (ranged-suc count depth h v)) }
