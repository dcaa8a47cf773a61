-- Rules 12 and 13 of a boundary in one walk.
use Prim.Native.Nat.{ℕ, ◌+◌, ◌-◌, ◌<◌}
use mathlib.Core.Path.{◌≡◌, refl, sym, ap, ◌∙◌}
use mathlib.Core.Bool.{Bool, true, false, not, ◌||◌}
use mathlib.Core.List.{List, [], ◌++◌}
use native.Mathlib.Omega.{arith}
use Rattle.std.proofs.Common.{Option, Some}
use lib.ListN.{get_or}
use lib.Seq.{slice}
use lib.Dec.{ltb}
use lib.IntN.{pos}
use borrow.Author.Tests.{not-true, not-false, lt-ltb}
use Rattle.numerals.specs.Numerals.{is_integer, integer, is_below}
use Rattle.numerals.specs.Reading.{Quick}
use Rattle.json_text.specs.Tree.{Json}
use Rattle.json_text.specs.Table.{Sub}
use Rattle.nodes.specs.Access.{is_number_value, is_array_value, numeral_of}
use Rattle.nodes.specs.Faults.{fault, least}
use Rattle.nodes.specs.Says.{Gives}
use Rattle.nodes.specs.Laws.{numeral-at}
use Rattle.shapes.specs.Checks.{unless, each_element, numeral}
use Rattle.shapes.specs.Shapes.{is_integer_value, shaped, ranged}
use Rattle.shapes.specs.Says.{Clears}
use Rattle.shapes.specs.Laws.{gives_then, each_both, pass-none, kind-yes}
use Rattle.shapes.proofs.Parts.{integer-of}
use Rattle.boundaries.proofs.Depths.{shaped-suc, ranged-suc, shaped-no, ranged-deep}

-- the two rules at the last level
shaped-last : (v : Json) → shaped 0 v ≡ unless (is_integer_value v) 12 v
unfolding shaped
shaped-last v = refl

ranged-last : (count : ℕ) (v : Json) → ranged count 0 v ≡ unless (not (is_number_value v) || is_below count (integer (numeral_of v))) 13 v
unfolding ranged numeral
ranged-last count v = refl

-- an integer below the count breaks neither
sound : (count : ℕ) (v : Json) → is_integer_value v ≡ true → not (is_number_value v) || is_below count (integer (numeral_of v)) ≡ true → shaped 0 v ++ ranged count 0 v ≡ []
unfolding unless
sound count v a b =
    rw (shaped-last v, ranged-last count v)
    (ap (λ (k : Bool). unless k 12 v ++ unless (not (is_number_value v) || is_below count (integer (numeral_of v))) 13 v) a ∙ ap (λ (k : Bool). unless k 13 v) b)

-- where both rules are broken at one place, 12 is the lesser
least-lower : (best : ℕ) (k : Bool) (v : Json) → least best (unless false 12 v ++ unless k 13 v) ≡ least best (unless false 12 v)
unfolding least unless fault
least-lower best true v = refl
least-lower best false v = omega arith

below_at : (count n : ℕ) → ltb n count ≡ true → is_below count (pos n) ≡ true
unfolding is_below
below_at count n e = e

module _ {x t : List ℕ} {i : ℕ} where
  -- a number below the count
  pub clears-ranged : (count : ℕ) {b : Bool} {p e : ℕ} {q : Option ℕ} → Gives is_number_value x t i b → not b ≡ false → p ≡ get_or t i 0 → e ≡ get_or t (i + 1) 0
      → Quick (slice p e x) q → (r : Bool) → (r ≡ true → (n : ℕ) × (q ≡ Some n) × (n < count)) → Clears (λ v. shaped 0 v ++ ranged count 0 v) x t i r
  clears-ranged count {b} {p} {e} {q} g h f o k r w = record { none = λ z v s. told v s (sym (g.is v s) ∙ not-false b h) (w z) }
    where
      told : (v : Json) → Sub x t i v → is_number_value v ≡ true → (n : ℕ) × (q ≡ Some n) × (n < count) → shaped 0 v ++ ranged count 0 v ≡ []
      told v s n (m, c, l) =
          let r : numeral_of v ≡ slice p e x = rw (f, o) (numeral-at s n).bytes in
          let a : is_integer_value v ≡ true = integer-of v n (ap is_integer r ∙ k.whole m c) in
          let u : is_below count (integer (numeral_of v)) ≡ true = ap (λ raw. is_below count (integer raw)) r ∙ ap (is_below count) (k.value m c) ∙ below_at count m (lt-ltb m count l) in
          sound count v a (ap (λ (m : Bool). not m || is_below count (integer (numeral_of v))) n ∙ u)

  -- no integer, and an integer
  module _ (best count : ℕ) {b : Bool} {r : ℕ} (g : Gives is_integer_value x t i b) where
    pub leaf-no : not b ≡ true → Gives (λ v. least best (unless false 12 v)) x t i r → Gives (λ v. least best (shaped 0 v ++ ranged count 0 v)) x t i r
    leaf-no e u =
        record {
          is = λ v s.
              rw (shaped-last v, ranged-last count v)
              (u.is v s
              ∙ sym
              (ap (λ (k : Bool). least best (unless k 12 v ++ unless (not (is_number_value v) || is_below count (integer (numeral_of v))) 13 v))
              (sym (g.is v s) ∙ not-true b e) ∙ least-lower best (not (is_number_value v) || is_below count (integer (numeral_of v))) v));
        }

    pub leaf-yes : not b ≡ false → Gives (λ v. least best (ranged count 0 v)) x t i r → Gives (λ v. least best (shaped 0 v ++ ranged count 0 v)) x t i r
    unfolding shaped
    leaf-yes e u = kind-yes best 12 (ranged count 0) g e u

  -- a boundary of that depth
  module _ (best count depth : ℕ) {r : ℕ} where
    pub boundary-leaf : depth ≡ 0 → Gives (λ v. least best (shaped 0 v ++ ranged count 0 v)) x t i r → Gives (λ v. least best (shaped depth v ++ ranged count depth v)) x t i r
    boundary-leaf e g = rw e g

    pub boundary-no : {b : Bool} → (depth ≡ 0 → ⊥) → Gives is_array_value x t i b → not b ≡ true → Gives (λ v. least best (unless false 12 v)) x t i r
        → Gives (λ v. least best (shaped depth v ++ ranged count depth v)) x t i r
    boundary-no h g e u = gives_then best r (shaped depth) (ranged count depth) (shaped-no best depth h g e u) (ranged-deep r count depth h (pass-none (ranged count (depth - 1)) r g e))

    pub boundary-yes : {b : Bool} → (depth ≡ 0 → ⊥) → Gives is_array_value x t i b → not b ≡ false
        → Gives (λ v. least best (each_element (λ w. shaped (depth - 1) w ++ ranged count (depth - 1) w) v)) x t i r
        → Gives (λ v. least best (shaped depth v ++ ranged count depth v)) x t i r
    unfolding unless
    boundary-yes {b} h g e u =
        record {
          is = λ v s.
              let a : shaped depth v ≡ each_element (shaped (depth - 1)) v =
              shaped-suc depth h v ∙ ap (λ (k : Bool). unless k 12 v ++ each_element (shaped (depth - 1)) v) (sym (g.is v s) ∙ not-false b e) in
              rw (a, ranged-suc count depth h v) ((each_both best (shaped (depth - 1)) (ranged count (depth - 1)) u).is v s);
        }
