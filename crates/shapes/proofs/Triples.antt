-- A vertex of three short integers.
use Prim.Native.Nat.{ℕ, ◌+◌, ◌*◌, ◌^◌, ◌<◌, ◌≤◌}
use mathlib.Core.Path.{◌≡◌, refl, sym, ap, ◌∙◌}
use mathlib.Core.Bool.{Bool, true, false, not, ◌&&◌, ◌||◌}
use mathlib.Core.List.{List, [], ◌∷◌, ◌++◌}
use native.Mathlib.Omega.{arith}
use lib.ListN.{length, get_or}
use lib.Seq.{slice}
use mir.Syntax.{w64}
use mir.Val.{Fits}
use borrow.Author.Tests.{not-false}
use Rattle.utf8.specs.Laws.{never}
use Rattle.numerals.specs.Numerals.{is_integer, integer, fits32}
use Rattle.numerals.specs.Reading.{Short}
use Rattle.json_text.specs.Tree.{Json}
use Rattle.json_text.specs.Tree as tree
use Rattle.json_text.specs.Table.{Sub, size}
use Rattle.json_text.specs.Laws.{words, Left, past, over, ended}
use Rattle.nodes.specs.Access.{is_number_value, is_array_value, listed, elements, numeral_of}
use Rattle.nodes.specs.Says.{Node, Gives}
use Rattle.nodes.specs.Laws.{numeral-at, elements-begin}
use Rattle.shapes.specs.Checks.{unless, for_each, each_element, numeral}
use Rattle.shapes.specs.Shapes.{is_integer_value, all_integers, is_triple, coordinate, vertex}
use Rattle.shapes.specs.Says.{Clears, IsSmall}
use Rattle.shapes.specs.Laws.{integer-number}
use Rattle.shapes.proofs.Parts.{integer-of}

coordinate-at : (v : Json) → coordinate v ≡ unless (not (is_number_value v) || fits32 (integer (numeral_of v))) 13 v
unfolding coordinate numeral
coordinate-at v = refl

coordinate-none : (v : Json) → not (is_number_value v) || fits32 (integer (numeral_of v)) ≡ true → coordinate v ≡ []
unfolding unless
coordinate-none v e = coordinate-at v ∙ ap (λ (k : Bool). unless k 13 v) e

-- a number takes three words
number_size : (v : Json) → is_number_value v ≡ true → size v ≡ 3
unfolding size is_number_value
number_size (tree.null p e) h = refl
number_size (tree.bool p e b) h = refl
number_size (tree.num p e raw) h = refl
number_size (tree.str p e raw) h = refl
number_size (tree.arr p e vs) h = absurd (never h refl)
number_size (tree.obj p e ms) h = absurd (never h refl)

module _ {x t : List ℕ} {i : ℕ} where
  pub small-none : IsSmall x t i false
  small-none = record { whole = λ e. absurd (never e refl); fits = λ e. absurd (never e refl) }

  pub small_is : {b r : Bool} {p e : ℕ} → Gives is_number_value x t i b → not b ≡ false → p ≡ get_or t i 0 → e ≡ get_or t (i + 1) 0 → Short (slice p e x) r → IsSmall x t i r
  small_is {b} {r} {p} {e} g h f o k =
      record {
        whole = λ z v s. integer-of v (number v s) (ap is_integer (raw v s) ∙ k.whole z);
        fits = λ z v s. coordinate-none v (ap (λ (m : Bool). not m || fits32 (integer (numeral_of v))) (number v s) ∙ ap (λ raw. fits32 (integer raw)) (raw v s) ∙ k.fits z);
      }
    where
      number : (v : Json) → Sub x t i v → is_number_value v ≡ true
      number v s = sym (g.is v s) ∙ not-false b h

      raw : (v : Json) → Sub x t i v → numeral_of v ≡ slice p e x
      raw v s = rw (f, o) (numeral-at s (number v s)).bytes

-- of the elements of v, the first m are integers that fit, and vs are the others
record Sorted (v : Json) (m : ℕ) (vs : List Json) : Type 0 where
  count : length (elements v) ≡ m + length vs
  whole : all_integers (elements v) ≡ all_integers vs
  fits : for_each coordinate (elements v) ≡ for_each coordinate vs

sorted_more : {v w : Json} {m : ℕ} {vs : List Json} → Sorted v m (w ∷ vs) → is_integer_value w ≡ true → coordinate w ≡ [] → Sorted v (m + 1) vs
unfolding all_integers for_each
sorted_more {w = w} {vs = vs} s a b =
    record {
      count = let q = s.count in omega arith;
      whole = s.whole ∙ ap (λ (k : Bool). k && all_integers vs) a;
      fits = s.fits ∙ ap (λ fs. fs ++ for_each coordinate vs) b;
    }

sorted-vertex : {v : Json} → is_array_value v ≡ true → Sorted v 3 [] → vertex v ≡ []
unfolding vertex is_triple each_element for_each all_integers
sorted-vertex a s = rw (a, s.count, s.whole) s.fits

-- The elements before the node k of the array at i, m of them, are short integers, and the table goes on past the array at n
pub record Plain (x t : List ℕ) (i n k m : ℕ) : Type 0 where
  node : Node x t i
  array : (v : Json) → Sub x t i v → is_array_value v ≡ true
  left : (v : Json) → Sub x t i v → Left x t k n (λ vs. Sorted v m (listed vs))

module _ {x t : List ℕ} {i : ℕ} where
  pub plain-onward : Node x t i → length t * 4 < 2 ^ 63 → Fits w64 (i + 12)
  plain-onward d h = let w = words d.stands in record { fits = omega (arith, w.room) }

  plain-start : {b : Bool} {n : ℕ} → Node x t i → Gives is_array_value x t i b → not b ≡ false → n ≡ get_or t (i + 2) 0 → Plain x t i n (i + 3) 0
  plain-start {b} d g e q =
      record {
        node = d;
        array = λ v s. sym (g.is v s) ∙ not-false b e;
        left = λ v s. rw q (elements-begin (λ vs. Sorted v 0 vs) s (sym (g.is v s) ∙ not-false b e) (record { count = omega arith; whole = refl; fits = refl }));
      }

  module _ {n k m : ℕ} (p : Plain x t i n k m) where
    plain-node : k < n → Node x t k
    plain-node l = let u = past (p.left p.node.value p.node.stands) l in record { value = u.value; stands = u.stands; short = p.node.short }

    plain_turn : {r : Bool} {o : ℕ} → k < n → IsSmall x t k r → r ≡ true → o ≡ k + 3 → Plain x t i n o (m + 1)
    unfolding listed
    plain_turn l a e q =
        record {
          node = p.node;
          array = p.array;
          left = λ v s.
              let u = past (p.left v s) l in
              let w = a.whole e u.value u.stands in
              let g : get_or t (k + 2) 0 ≡ k + 3 = u.word.next ∙ ap (λ (z : ℕ). k + z) (number_size u.value (integer-number u.value w)) in
              rw (q, ← g) (over u (sorted_more u.holds w (a.fits e u.value u.stands)));
        }

  plain_done : {n k : ℕ} → Plain x t i n k 3 → n ≤ k → (v : Json) → Sub x t i v → vertex v ≡ []
  unfolding listed
  plain_done p h v s = sorted-vertex (p.array v s) (ended (p.left v s) h)

  -- the three numbers of an array that takes twelve words
  pub plain-begin : {b : Bool} {n : ℕ} → Node x t i → Gives is_array_value x t i b → not b ≡ false → n ≡ get_or t (i + 2) 0 → n ≡ i + 12 → Plain x t i (i + 12) (i + 3) 0
  plain-begin d g e q h = rw (← h) (plain-start d g e q)

  module _ (p : Plain x t i (i + 12) (i + 3) 0) where
    pub plain-first : Node x t (i + 3)
    plain-first = plain-node p (omega arith)

    pub plain-one : {r : Bool} → IsSmall x t (i + 3) r → not r ≡ false → Plain x t i (i + 12) (i + 6) 1
    plain-one {r} f z = plain_turn p (omega arith) f (not-false r z) (omega arith)

  module _ (p : Plain x t i (i + 12) (i + 6) 1) where
    pub plain_second : Node x t (i + 6)
    plain_second = plain-node p (omega arith)

    pub plain-two : {r : Bool} → IsSmall x t (i + 6) r → not r ≡ false → Plain x t i (i + 12) (i + 9) 2
    plain-two {r} f z = plain_turn p (omega arith) f (not-false r z) (omega arith)

  module _ (p : Plain x t i (i + 12) (i + 9) 2) where
    pub plain-third : Node x t (i + 9)
    plain-third = plain-node p (omega arith)

    pub plain-vertex : {r : Bool} → IsSmall x t (i + 9) r → Clears vertex x t i r
    plain-vertex f = record { none = λ z. plain_done {k = i + 12} (plain_turn p (omega arith) f z (omega arith)) (omega arith) }
