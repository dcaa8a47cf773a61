-- The rows of a table put one by one into a set.
use Prim.Native.Nat.{ℕ, zero, suc, ◌+◌, ◌-◌, ◌*◌, ◌≤◌, ◌<◌}
use native.Mathlib.Omega.{arith}
use native.Mathlib.Numerals.{add-one}
use mathlib.Core.Path.{◌≡◌, refl, sym, ap, ◌∙◌}
use mathlib.Core.Bool.{Bool, true, false, ◌&&◌, and-true}
use mathlib.Core.List.{List, [], ◌∷◌}
use lib.ListN.{length, get_or, take, drop}
use lib.Seq.{slice, take-nil}
use lib.Dec.{eqb}
use borrow.Author.Tests.{eqb-true, eqb-false}
use Rattle.utf8.specs.Finite.{all_from}
use Rattle.marks.specs.Marks.{row_of, once}
use Rattle.marks.specs.Says.{Row, Beside, RowGives, RowAt, Table, SetTo, AllGive}
use Rattle.marks.proofs.Numbers.{and-group}

-- ---- where a row stands

-- the slice that is lent
lent : (a e : ℕ) (l : List ℕ) → a ≤ e → take (e - a) (drop a l) ≡ slice a e l
lent zero e l h = let z : e - 0 ≡ e = omega arith in ap (λ (n : ℕ). take n l) z
lent (suc a) zero l h = absurd (omega arith)
lent (suc a) (suc e) [] h = take-nil (suc e - suc a)
lent (suc a) (suc e) (x ∷ l) h = let z : suc e - suc a ≡ e - a = omega arith in ap (λ (n : ℕ). take n (drop a l)) z ∙ lent a e l (omega arith)

module _ {rows : List ℕ} {k : ℕ} (d : RowAt rows k) where
  pub row_first : k < length rows
  row_first = omega (arith, d.room)

  module _ {from to : ℕ} (p : from ≡ get_or rows k 0) (q : to ≡ get_or rows (k + 1) 0) where
    pub row-ordered : from ≤ to
    row-ordered = rw (p, q) d.ordered

    pub row_within : to ≤ length rows
    row_within = rw q d.within

    pub row-lent : {r : List ℕ} → r ≡ take (to - from) (drop from rows) → r ≡ row_of rows k
    unfolding row_of
    row-lent e = e ∙ (lent from to rows row-ordered ∙ rw (p, q))

pub row_at : {rows : List ℕ} {count k : ℕ} → Table rows count → k < count → RowAt rows k
row_at {k = k} t l = t.row k l

-- ---- the rows so far

row_kept : {count : ℕ} {g g' : List ℕ} {row j : ℕ} {ns : List ℕ} → Beside g g' row → (j ≡ row → ⊥) → j * 128 + 128 ≤ length g → count ≤ 1024 → Row count g j ns → Row count g' j ns
row_kept {j = j} b n h f r = record { is = λ c l. b.others j c h (omega arith) n ∙ r.is c l }

-- the rows one further, where the k-th was filled
rows_more : {rows g g' : List ℕ} {count k : ℕ} → SetTo rows g count k → Beside g g' k → k < count → count ≤ 1024 → count * 128 ≤ length g → Row count g' k (row_of rows k) → SetTo rows g' count (k + 1)
rows_more {rows} {g} {g'} {count} {k} r b l few h f = record {
  done = λ j m. of j m (eqb j k) refl;
  left = λ j m n. row_kept b (λ e. omega arith) (omega arith) few (r.left j (omega arith) n);
}
  where
    below : (j : ℕ) → j < k + 1 → (j ≡ k → ⊥) → j < k
    below j m n = omega (arith, n)

    of : (j : ℕ) → j < k + 1 → (c : Bool) → eqb j k ≡ c → Row count g' j (row_of rows j)
    of j m true e = let z : j ≡ k = eqb-true j k e in rw z f
    of j m false e = let z : j ≡ k → ⊥ = eqb-false j k e in row_kept b z (omega arith) few (r.done j (below j m z))

-- what the loop over the rows knows where it has come to the k-th
pub record Filling (rows g₀ g : List ℕ) (count k : ℕ) (good : Bool) : Type 0 where
  pub room : length g ≡ length g₀
  within : k ≤ count
  set : SetTo rows g₀ count 0 → SetTo rows g count k
  is : SetTo rows g₀ count 0 → (good && all_from (λ k. once count [] (row_of rows k)) k (count - k)) ≡ all_from (λ k. once count [] (row_of rows k)) 0 count

pub filling-begin : (rows g₀ : List ℕ) (count : ℕ) → Filling rows g₀ g₀ count 0 true
filling-begin rows g₀ count = record { room = refl; within = omega arith; set = λ s. s; is = λ s. let z : count - 0 ≡ count = omega arith in rw z }

module _ {rows g₀ g : List ℕ} {count k : ℕ} {good : Bool} (p : Filling rows g₀ g count k good) where
  pub filling-room : count * 128 ≤ length g₀ → k < count → k * 128 + 128 ≤ length g
  filling-room h l = omega (arith, p.room)

  pub filling-turn : k < count → {ns : List ℕ} → ns ≡ row_of rows k → {g' : List ℕ} {r : Bool} → RowGives g g' k ns count r → count ≤ 1024 → count * 128 ≤ length g₀
      → Filling rows g₀ g' count (k + 1) (good && r)
  filling-turn l e {r = r} m c h = record {
    room = m.beside.room ∙ p.room;
    within = omega arith;
    set = λ s. rows_more (p.set s) m.beside l c (omega (arith, p.room)) (rw (← e) (m.puts ((p.set s).left k (omega arith) l)));
    is = λ s.
        let z : count - k ≡ suc (count - suc k) = omega arith in
        and-group good r _
        ∙ (ap (λ b. good && (b && all_from (λ k. once count [] (row_of rows k)) (k + 1) (count - (k + 1)))) (m.is ((p.set s).left k (omega arith) l) ∙ ap (once count []) e)
        ∙ rw (add-one k) (rw z at (p.is s)));
  }

  pub filling-done : count ≤ k → AllGive rows g₀ g count good
  filling-done h =
      let z : k ≡ count = omega (arith, p.within) in
      let y : count - k ≡ 0 = omega arith in
      record { room = p.room; set = λ s. rw z at (p.set s); is = λ s. sym (and-true good) ∙ rw y at (p.is s) }
