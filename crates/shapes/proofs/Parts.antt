-- Integers, pairs and vertices at a node, from what the code's tests say.
use Prim.Native.Nat.{ℕ, ◌+◌, ◌≤◌, min}
use mathlib.Core.Path.{◌≡◌, refl, sym, ap, ◌∙◌}
use mathlib.Core.Bool.{Bool, true, false, not, ◌&&◌, ◌||◌}
use mathlib.Core.List.{List, ◌++◌}
use mathlib.Core.Logic.{◌⊎◌, inl, inr}
use mathlib.Core.Option.{some}
use mathlib.Core.Option as option
use lib.IntN.{ℤ}
use Rattle.std.proofs.Common.{Option, Some, None}
use lib.ListN.{length, get_or}
use lib.Seq.{slice}
use lib.Dec.{eqb}
use borrow.Author.Tests.{not-true, not-false, ne_eqb, eq-eqb}
use Rattle.utf8.specs.Laws.{never}
use Rattle.numerals.specs.Numerals.{Decimal, is_integer, integer, pair_of, fits32}
use Rattle.numerals.specs.Reading.{pair_in}
use Rattle.json_text.specs.Tree.{Json}
use Rattle.json_text.specs.Table.{Sub}
use Rattle.nodes.specs.Access.{is_number_value, is_array_value, elements, numeral_of}
use Rattle.nodes.specs.Faults.{fault, least}
use Rattle.std.specs.Prelude.{Result, Ok, Err}
use Rattle.nodes.specs.Says.{Node, Gives}
use Rattle.nodes.specs.Siblings.{Elements, StepsPast}
use Rattle.nodes.specs.declared.Siblings.{Siblings}
use Rattle.nodes.specs.Walk.{Running, run-begin, run-node, run-known, run_turn, run-done}
use Rattle.nodes.specs.Laws.{place_at, numeral-at, least-++}
use Rattle.shapes.specs.Checks.{Check, unless, each_element, array_kind, number_kind, numeral, is_some}
use Rattle.shapes.specs.Shapes.{is_integer_value, all_integers, three_entries, pair_range, or_fault, pair_or_fault, is_triple, coordinate, vertex}
use Rattle.shapes.specs.Says.{Clears, paired_as, GivesPair}
use Rattle.shapes.specs.Laws.{least-turn, least-none, unless-true, numeral-none, numeral-is}

-- a test or another that is known
pub or-true : (b : Bool) → b || true ≡ true
or-true true = refl
or-true false = refl

pub or-false : (b : Bool) → b || false ≡ b
or-false true = refl
or-false false = refl

-- a triple is an array
triple-of : (v : Json) → is_triple v ≡ true → is_array_value v ≡ true
unfolding is_triple
triple-of v e = go (is_array_value v) (eqb (length (elements v)) 3) (all_integers (elements v)) e
  where
    go : (a b c : Bool) → a && b && c ≡ true → a ≡ true
    go true b c e = refl
    go false true c e = e
    go false false c e = e

-- a number with neither fraction nor exponent is an integer
pub integer-of : (v : Json) → is_number_value v ≡ true → is_integer (numeral_of v) ≡ true → is_integer_value v ≡ true
unfolding is_integer_value
integer-of v n w = rw n w

-- the fault where there is one, if it is less than best
abbrev or_best : ℕ → Decimal ⊎ ℕ → ℕ
or_best best (inl d) = best
or_best best (inr f) = min best f

module _ {x t : List ℕ} {i : ℕ} where
  -- an integer
  pub integer-no : {b : Bool} → Gives is_number_value x t i b → not b ≡ true → Gives is_integer_value x t i false
  unfolding is_integer_value
  integer-no {b} g e = record { is = λ v s. let z : is_number_value v ≡ false = sym (g.is v s) ∙ not-true b e in rw z }

  pub integer-is : {b : Bool} {p e : ℕ} {r : Bool} → Gives is_number_value x t i b → not b ≡ false → p ≡ get_or t i 0 → e ≡ get_or t (i + 1) 0 → r ≡ is_integer (slice p e x) → Gives is_integer_value x t i r
  unfolding is_integer_value
  integer-is {b} {p} {e} {r} g h q o m = record { is = λ v s. let z : is_number_value v ≡ true = sym (g.is v s) ∙ not-false b h in rw (z, (numeral-at s z).bytes, ← q, ← o) m }

  -- a test that told nothing, and one that told that the check finds no fault
  pub clears-none : (c : Check) → Clears c x t i false
  clears-none c = record { none = λ e. absurd (never e refl) }

  pub clears-best : (best : ℕ) (c : Check) {r : Bool} → Clears c x t i r → r ≡ true → Gives (λ v. least best (c v)) x t i best
  clears-best best c k e = record { is = λ v s. least-none (k.none e v s) }

  -- three numbers
  pub three-none : (best : ℕ) {b : Bool} → Gives is_array_value x t i b → not b ≡ true → Gives (λ v. least best (three_entries v)) x t i best
  unfolding three_entries
  three-none best {b} g e = record { is = λ v s. unless-true best 12 v (ap (λ (b : Bool). not b || eqb (length (elements v)) 3) (sym (g.is v s) ∙ not-true b e)) }

  pub three-is : (best : ℕ) {b : Bool} {n r : ℕ} → Gives is_array_value x t i b → not b ≡ false → Gives (λ v. length (elements v)) x t i n
      → Gives (λ v. least best (unless (eqb n 3) 12 v)) x t i r → Gives (λ v. least best (three_entries v)) x t i r
  unfolding three_entries
  three-is best {b} {n} {r} g e k u = record { is = λ v s. u.is v s ∙ ap (λ (b : Bool). least best (unless b 12 v)) (told v s) }
    where
      told : (v : Json) → Sub x t i v → eqb n 3 ≡ not (is_array_value v) || eqb (length (elements v)) 3
      told v s = let z : is_array_value v ≡ true = sym (g.is v s) ∙ not-false b e in rw (z, ← k.is v s)

  -- a number's bytes
  pub number-node : {b : Bool} → Gives is_number_value x t i b → not b ≡ false → Gives is_number_value x t i true
  number-node {b} g h = rw (not-false b h) at g

  module _ (d : Node x t i) (g : Gives is_number_value x t i true) {e : ℕ} (o : e ≡ get_or t (i + 1) 0) where
    pub pair-low : {p : ℕ} → p ≡ get_or t i 0 → p ≤ e
    pair-low q = rw (q, o) (numeral-at d.stands (sym (g.is d.value d.stands))).low

    pub pair-high : e ≤ length x
    pair-high = rw o (numeral-at d.stands (sym (g.is d.value d.stands))).high

  -- a pair in range
  pub pair-none : (best : ℕ) {b : Bool} → Gives is_number_value x t i b → not b ≡ true → Gives (λ v. least best (pair_range v)) x t i best
  unfolding pair_range
  pair-none best g e = numeral-none best 13 (λ raw. is_some (pair_of raw)) g e

  module _ {p e : ℕ} (a : Option (ℤ × ℤ)) (g : Gives is_number_value x t i true) (q : p ≡ get_or t i 0) (o : e ≡ get_or t (i + 1) 0) (m : pair_in a ≡ pair_of (slice p e x)) where
    pair-bytes : (v : Json) → Sub x t i v → pair_in a ≡ pair_of (numeral_of v)
    pair-bytes v s = rw ((numeral-at s (sym (g.is v s))).bytes, ← q, ← o) m

    pub pair-fault : {f : ℕ} → a ≡ None → f ≡ fault 13 p → GivesPair x t i (Err f)
    unfolding paired_as pair_or_fault or_fault pair_in
    pair-fault k z = record { is = λ v s. rw (← pair-bytes v s, k, z, q, ← place_at s) }

    pub pair-taken : {d : ℤ × ℤ} → a ≡ Some d → GivesPair x t i (Ok d)
    unfolding paired_as pair_or_fault or_fault pair_in
    pair-taken k = record { is = λ v s. rw (← pair-bytes v s, k) }

  module _ (best : ℕ) {a : Result (ℤ × ℤ) ℕ} (g : Gives is_number_value x t i true) (r : GivesPair x t i a) where
    pair-least : (v : Json) → Sub x t i v → least best (pair_range v) ≡ or_best best (paired_as a)
    unfolding pair_or_fault pair_range numeral unless is_some or_fault least
    pair-least v s = by (pair_of (numeral_of v)) refl ∙ ap (or_best best) (sym (r.is v s))
      where
        by : (o : option.Option Decimal) → pair_of (numeral_of v) ≡ o → least best (pair_range v) ≡ or_best best (or_fault v o)
        by option.none e = rw (← g.is v s, e)
        by (some d) e = rw (← g.is v s, e)

    pub pair-in : {p : ℤ × ℤ} → a ≡ Ok p → Gives (λ v. least best (pair_range v)) x t i best
    unfolding paired_as
    pair-in k = record { is = λ v s. sym (pair-least v s ∙ ap (λ c. or_best best (paired_as c)) k) }

    pub pair-out : {f c : ℕ} → a ≡ Err f → c ≡ min best f → Gives (λ v. least best (pair_range v)) x t i c
    unfolding paired_as
    pair-out k z = record { is = λ v s. z ∙ sym (pair-least v s ∙ ap (λ c. or_best best (paired_as c)) k) }

  -- a coordinate
  pub coordinate-none : (best : ℕ) {b : Bool} → Gives is_number_value x t i b → not b ≡ true → Gives (λ v. least best (coordinate v)) x t i best
  unfolding coordinate
  coordinate-none best g e = numeral-none best 13 (λ raw. fits32 (integer raw)) g e

  pub coordinate-is : (best : ℕ) {p e r : ℕ} {k : Bool}
      → Gives is_number_value x t i true → p ≡ get_or t i 0 → e ≡ get_or t (i + 1) 0 → k ≡ fits32 (integer (slice p e x))
      → Gives (λ v. least best (unless k 13 v)) x t i r → Gives (λ v. least best (coordinate v)) x t i r
  unfolding coordinate
  coordinate-is best g q o m u = numeral-is best 13 (λ raw. fits32 (integer raw)) g refl q o m u

  -- three pairs
  pub three-pairs-is : (best k s : ℕ) {r : ℕ} → Gives (λ v. least best (array_kind v)) x t i k → Gives (λ v. least k (three_entries v)) x t i s
      → Gives (λ v. least s (each_element number_kind v ++ each_element pair_range v)) x t i r
      → Gives (λ v. least best (array_kind v ++ each_element number_kind v ++ three_entries v ++ each_element pair_range v)) x t i r
  three-pairs-is best k s f g h = record { is = λ v z. h.is v z ∙ (rw (g.is v z, f.is v z) (mixed best (array_kind v) (each_element number_kind v) (three_entries v) (each_element pair_range v))) }
    where
      mixed : (b : ℕ) (p q r s : List ℕ) → least (least (least b p) r) (q ++ s) ≡ least b (((p ++ q) ++ r) ++ s)
      mixed b p q r s = simp least-++ (ap (λ (m : ℕ). least m s) (least-turn (least b p) r q))

  -- a triple of integers
  module _ {b : Bool} (g : Gives is_array_value x t i b) where
    pub triple-kind : not b ≡ true → Gives is_triple x t i false
    unfolding is_triple
    triple-kind e = record { is = λ v s. let z : is_array_value v ≡ false = sym (g.is v s) ∙ not-true b e in rw z }

    pub triple-array : not b ≡ false → Gives is_array_value x t i true
    triple-array e = rw (not-false b e) at g

    module _ {n : ℕ} (e : not b ≡ false) (k : Gives (λ v. length (elements v)) x t i n) where
      pub triple-count : (n ≡ 3 → ⊥) → Gives is_triple x t i false
      unfolding is_triple
      triple-count h = record { is = λ v s. let z : is_array_value v ≡ true = sym (g.is v s) ∙ not-false b e in rw (z, ← k.is v s, ne_eqb n 3 h) }

      pub triple-is : {r : Bool} → n ≡ 3 → Gives (λ v. all_integers (elements v)) x t i r → Gives is_triple x t i r
      unfolding is_triple
      triple-is h a = record { is = λ v s. let z : is_array_value v ≡ true = sym (g.is v s) ∙ not-false b e in rw (z, ← k.is v s, eq-eqb n 3 h) (a.is v s) }

  -- a vertex
  pub vertex-array : {b : Bool} → Gives is_triple x t i b → not b ≡ false → Gives is_array_value x t i true
  vertex-array {b} g e = record { is = λ v s. sym (triple-of v (sym (g.is v s) ∙ not-false b e)) }

  pub vertex-no : (best : ℕ) {b : Bool} {r : ℕ} → Gives is_triple x t i b → not b ≡ true → Gives (λ v. least best (unless false 12 v)) x t i r → Gives (λ v. least best (vertex v)) x t i r
  unfolding vertex
  vertex-no best {b} g e u = record { is = λ v s. let z : is_triple v ≡ false = sym (g.is v s) ∙ not-true b e in rw z (u.is v s) }

  pub vertex-is : (best : ℕ) {b : Bool} {r : ℕ} → Gives is_triple x t i b → not b ≡ false → Gives (λ v. least best (each_element coordinate v)) x t i r → Gives (λ v. least best (vertex v)) x t i r
  unfolding vertex
  vertex-is best {b} g e u = record { is = λ v s. let z : is_triple v ≡ true = sym (g.is v s) ∙ not-false b e in rw z (u.is v s) }

-- A loop over the elements of the value at i, all of which were integers where it has come to s
pub record Integers (x t : List ℕ) (i : ℕ) (s : Siblings) : Type 0 where
  pub run : Running x t i s (λ all left. all_integers left ≡ all_integers all)

module _ {x t : List ℕ} {i : ℕ} {s : Siblings} where
  pub integers-begin : {r : Siblings} → Node x t i → Elements x t i r → s ≡ r → Integers x t i s
  integers-begin d e q = record { run = run-begin (λ all left. all_integers left ≡ all_integers all) d e q (λ l. refl) }

  module _ (p : Integers x t i s) where
    module _ {k : ℕ} {u : Siblings} (g : StepsPast s k u) where
      pub integers-node : Node x t k
      integers-node = run-node p.run g

      pub integers-wrong : {r : Bool} → Gives is_integer_value x t k r → r ≡ false → Gives (λ v. all_integers (elements v)) x t i false
      unfolding all_integers
      integers-wrong h e = record { is = λ v z. run-known p.run g z (λ y vs q o. rw (sym (h.is y q) ∙ e) at o) }

      pub integers-turn : {r : Bool} → Gives is_integer_value x t k r → r ≡ true → Integers x t i u
      unfolding all_integers
      integers-turn h e = record {
        run = run_turn p.run g (λ all left. all_integers left ≡ all_integers all) (λ all v vs z o. rw (sym (h.is v z) ∙ e) at o);
      }

    pub integers-done : {u : Siblings} → (s.end ≤ s.at) × (u ≡ s) → Gives (λ v. all_integers (elements v)) x t i true
    unfolding all_integers
    integers-done h = record { is = λ v z. run-done p.run h.0 z }
