-- Numbers put one by one into a row of a set.
use Prim.Native.Nat.{ℕ, ◌+◌, ◌*◌, ◌≤◌, ◌<◌}
use native.Mathlib.Omega.{arith}
use native.Mathlib.Numerals.{add-one}
use mathlib.Core.Path.{◌≡◌, refl, sym, ap, ◌∙◌}
use mathlib.Core.Bool.{Bool, true, false, not, ◌&&◌, ◌||◌, or-true, or-false, and-true}
use mathlib.Core.List.{List, [], ◌∷◌}
use lib.ListN.{length, get_or, drop, drop_of_length-le}
use lib.Seq.{drop-cons}
use lib.Dec.{eqb, ltb}
use borrow.Author.Tests.{lt-ltb, le-ltb, ltb-true, ne_eqb, eq-eqb, eqb-true, eqb-false}
use Rattle.std.specs.List.{list_all}
use Rattle.grid.specs.Grid.{holds, Puts}
use Rattle.grid.specs.Laws.{put-other-row}
use Rattle.words.specs.Words.{has}
use Rattle.marks.specs.Marks.{once, answers, answered}
use Rattle.marks.specs.Says.{Row, Beside, Whole, MarkGives, RowGives}

-- the numbers from the j-th on
pub number-cons : (ns : List ℕ) (j : ℕ) → j < length ns → drop j ns ≡ get_or ns j 0 ∷ drop (j + 1) ns
number-cons ns j h = rw (add-one, drop-cons ns j 0)

-- ---- one number

pub beside_same : (g : List ℕ) (row : ℕ) → Beside g g row
beside_same g row = record { room = refl; others = λ a b r c n. refl }

beside-put : {g g' : List ℕ} {row column : ℕ} → Puts g g' row column → Beside g g' row
beside-put p = record { room = p.room; others = λ a b r c n. put-other-row p a b r c n }

pub beside-then : {g g' g'' : List ℕ} {row : ℕ} → Beside g g' row → Beside g' g'' row → Beside g g'' row
beside-then p q = record { room = q.room ∙ p.room; others = λ a b r c n. q.others a b (rw p.room r) c n ∙ p.others a b r c n }

module _ {count : ℕ} {g : List ℕ} {row number : ℕ} where
  row-absent : count ≤ number → {earlier : List ℕ} → Row count g row earlier → Row count g row (number ∷ earlier)
  unfolding has
  row-absent h r = record { is = λ n l. rw (ne_eqb number n (λ e. omega arith)) (r.is n l) }

  row-again : holds g row number ≡ true → {earlier : List ℕ} → Row count g row earlier → Row count g row (number ∷ earlier)
  unfolding has
  row-again h {earlier} r = record { is = λ n l. of n l (eqb number n) refl }
    where
      of : (n : ℕ) → n < count → (b : Bool) → eqb number n ≡ b → holds g row n ≡ (b || has earlier n)
      of n l true e = ap (holds g row) (sym (eqb-true number n e)) ∙ h
      of n l false e = r.is n l

  row_new : {g' : List ℕ} → Puts g g' row number → row * 128 + 128 ≤ length g → count ≤ 1024 → {earlier : List ℕ} → Row count g row earlier → Row count g' row (number ∷ earlier)
  unfolding has
  row_new {g'} p h f {earlier} r = record { is = λ n l. p.has row n h (omega arith) ∙ rw (eq-eqb row row refl) (of n l (eqb n number) refl) }
    where
      of : (n : ℕ) → n < count → (b : Bool) → eqb n number ≡ b → (b || holds g row n) ≡ (eqb number n || has earlier n)
      of n l true e = rw (eq-eqb number n (sym (eqb-true n number e)))
      of n l false e = rw (ne_eqb number n (λ z. eqb-false n number e (sym z))) (r.is n l)

  -- no object has the number
  pub mark-absent : count ≤ number → MarkGives g g row number count false
  mark-absent h = record { beside = beside_same g row; puts = λ earlier r. row-absent h r; is = rw (le-ltb number count h) }

  module _ {f : Bool} (i : f ≡ holds g row number) (l : number < count) where
    -- the row has it
    pub mark-again : f ≡ true → MarkGives g g row number count false
    mark-again q = record { beside = beside_same g row; puts = λ earlier r. row-again (sym i ∙ q) r; is = rw (lt-ltb number count l, ← i, q) }

    -- it is put in
    pub mark-new : {g' : List ℕ} → f ≡ false → Puts g g' row number → row * 128 + 128 ≤ length g → count ≤ 1024 → MarkGives g g' row number count true
    mark-new q p h c = record { beside = beside-put p; puts = λ earlier r. row_new p h c r; is = rw (lt-ltb number count l, ← i, q) }

-- what it tells, where the row has just the earlier numbers
pub mark-told : {g g' : List ℕ} {row number count : ℕ} {r : Bool} {earlier : List ℕ} → MarkGives g g' row number count r → Row count g row earlier
    → r ≡ (ltb number count && not (has earlier number))
mark-told {g} {row = row} {number} {count} {earlier = earlier} m p = m.is ∙ of (ltb number count) refl
  where
    of : (b : Bool) → ltb number count ≡ b → (b && not (holds g row number)) ≡ (b && not (has earlier number))
    of true e = ap not (p.is number (ltb-true number count e))
    of false e = refl

-- ---- a row

pub and-group : (a b c : Bool) → ((a && b) && c) ≡ (a && (b && c))
and-group true b c = refl
and-group false b c = refl

swap : (a b c : Bool) → ((a || b) || c) ≡ (b || (a || c))
swap true b c = sym (or-true b)
swap false b c = refl

-- after the numbers `earlier` the row is right, and what holds of those and of the numbers left holds of all
record Rest (count row : ℕ) (ns g : List ℕ) (j : ℕ) (good : Bool) : Type 0 where
  earlier : List ℕ
  right : Row count g row earlier
  rest : (good && once count earlier (drop j ns)) ≡ once count [] ns
  all : (n : ℕ) → (has earlier n || has (drop j ns) n) ≡ has ns n

-- what the loop over the numbers ns knows where it has come to the j-th
pub record Marking (count row : ℕ) (ns g₀ g : List ℕ) (j : ℕ) (good : Bool) : Type 0 where
  pub beside : Beside g₀ g row
  of : Row count g₀ row [] → Rest count row ns g j good

pub marking-begin : (count row : ℕ) (ns g₀ : List ℕ) → Marking count row ns g₀ g₀ 0 true
unfolding has
marking-begin count row ns g₀ = record { beside = beside_same g₀ row; of = λ r. record { earlier = []; right = r; rest = refl; all = λ n. refl } }

module _ {count row : ℕ} {ns g₀ g : List ℕ} {j : ℕ} {good : Bool} (p : Marking count row ns g₀ g j good) where
  pub marking-room : row * 128 + 128 ≤ length g₀ → row * 128 + 128 ≤ length g
  marking-room h = omega (arith, p.beside.room)

  pub marking-turn : {number : ℕ} {r : Bool} {g' : List ℕ} → j < length ns → number ≡ get_or ns j 0 → MarkGives g g' row number count r
      → Marking count row ns g₀ g' (j + 1) (good && r)
  unfolding has once
  marking-turn {number} {r} l q m = record {
    beside = beside-then p.beside m.beside;
    of = λ e.
        let u = p.of e in
        let c : drop j ns ≡ number ∷ drop (j + 1) ns = rw q (number-cons ns j l) in
        record {
          earlier = number ∷ u.earlier;
          right = m.puts u.earlier u.right;
          rest =
              and-group good r _
              ∙ (ap (λ b. good && (b && once count (number ∷ u.earlier) (drop (j + 1) ns))) (mark-told m u.right)
              ∙ (ap (λ k. good && once count u.earlier k) (sym c) ∙ u.rest));
          all = λ n. swap (eqb number n) (has u.earlier n) (has (drop (j + 1) ns) n) ∙ (ap (λ (k : List ℕ). has u.earlier n || has k n) (sym c) ∙ u.all n);
        };
  }

  pub marked : length ns ≤ j → RowGives g₀ g row ns count good
  unfolding has once
  marked h = record {
    beside = p.beside;
    puts = λ e. let u = p.of e in record { is = λ n l. u.right.is n l ∙ (sym (or-false (has u.earlier n)) ∙ (ap (λ (k : List ℕ). has u.earlier n || has k n) (sym none) ∙ u.all n)) };
    is = λ e. let u = p.of e in sym (and-true good) ∙ (ap (λ k. good && once count u.earlier k) (sym none) ∙ u.rest);
  }
    where
      none : drop j ns ≡ []
      none = drop_of_length-le ns {i = j} h

-- ---- a row of numbers that is asked for

pub whole_row : {g : List ℕ} (n : ℕ) → Whole g → n * 128 < length g → n * 128 + 128 ≤ length g
whole_row n w h = omega (arith, w.all)

pub answer-past : (g : List ℕ) (own n : ℕ) → length g ≤ n * 128 → ltb (n * 128) (length g) ≡ answers g own n
unfolding answers
answer-past g own n h = rw (le-ltb (n * 128) (length g) h)

pub answer-told : (g : List ℕ) (own n : ℕ) {f : Bool} → n * 128 < length g → f ≡ holds g n own → f ≡ answers g own n
unfolding answers
answer-told g own n h i = rw (lt-ltb (n * 128) (length g) h) i

-- each number of the row is asked for
pub answered-all : (g : List ℕ) (own : ℕ) (ns : List ℕ) → list_all (answers g own) ns ≡ answered g own ns
unfolding answered
answered-all g own [] = refl
answered-all g own (n ∷ ns) = ap (λ b. answers g own n && b) (answered-all g own ns)
