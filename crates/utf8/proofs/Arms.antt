-- The rows at a place of the text: what the code's tests say of them, and what they say of `size`.
use Prim.Native.Nat.{ℕ, ◌+◌, ◌≤◌, ◌<◌}
use native.Mathlib.Omega.{arith}
use native.Mathlib.Numerals.{add-one}
use native.Mathlib.Nat.{eq-zero-or-pos}
use mathlib.Core.Path.{◌≡◌, refl, sym, ◌∙◌, ap}
use Rattle.std.proofs.Common.{zero, suc, Option, Some, None}
use Rattle.std.specs.Bool.{then_some}
use Rattle.utf8.specs.Says.{found}
use mathlib.Core.Bool.{Bool, true, false, cond, ◌&&◌, ◌||◌}
use mathlib.Core.List.{List, [], ◌∷◌, ◌++◌}
use mathlib.Core.Logic.{⊎_elim}
use lib.ListN.{length, take, drop, get_or, drop_of_length-le, take-append-drop}
use lib.Seq.{drop-cons, drop-drop}
use lib.Dec.{leb}
use borrow.Author.Tests.{leb-true, le-leb, lt-leb}
use Rattle.utf8.specs.Utf8.{number, size}
use Rattle.utf8.specs.Rows.{Range, utf8_tail, rows, is_in, matches, row, Matches, Begins}
use Rattle.utf8.specs.Rows.Range.{◌to◌}
use Rattle.utf8.specs.Laws.{below_or_not, never, written-character, written-bytes, size-written}
use Rattle.utf8.specs.Finite.{all_from, each_below}
use Rattle.utf8.specs.Meaning.{size-starts}
use Rattle.utf8.proofs.RowLaws.{Opens, match-opens, only_row}
use Rattle.utf8.proofs.RowLaws.Opens.{opens}
use Rattle.utf8.proofs.OneRow.{row-character, one-row}

-- a range, and a row after it
matches-more : (range : Range) (r : List Range) (s : List ℕ) → matches (range ∷ r) s ≡ (matches (range ∷ []) s && matches r (drop 1 s))
unfolding matches
matches-more range r [] = refl
matches-more range r (b ∷ s) = by (is_in range b)
  where
    by : (p : Bool) → (p && matches r s) ≡ ((p && true) && matches r s)
    by true = refl
    by false = refl

-- the row's first range ends at m or before, or begins at n or later
unfoldable misses : ℕ → ℕ → List Range → Bool
misses m n [] = true
misses m n (low to high ∷ r) = leb high m || leb n low

between-opens : (m n b : ℕ) (r : List Range) → misses m n r ≡ true → m < b → b < n → Opens b r → ⊥
unfolding misses
between-opens m n b _ e l h (opens {low} {high} p q) = by _ _ refl refl e
  where
    by : (x y : Bool) → leb high m ≡ x → leb n low ≡ y → (x || y) ≡ true → ⊥
    by true y f g z = omega (arith, leb-true high m f)
    by false true f g z = omega (arith, leb-true n low g)
    by false false f g z = never z refl

-- a row that matches is as long as the character that is found
row-size : (k : ℕ) (text : List ℕ) → Matches k text → length (row k) ≡ size text
row-size k text m =
    let (c, b, l) = row-character k text m in
    l ∙ sym (ap size b.bytes ∙ size-starts c b.character b.rest)

-- where no row matches none is found
none-size : (text : List ℕ) → ((k : ℕ) → Matches k text → ⊥) → 0 ≡ size text
none-size text h =
    ⊎_elim sym
    (λ p.
    let w = size-written text p in
    let x = take (size text) text in
    let b : Begins (number x) text = record {
      character = written-character x w;
      rest = drop (size text) text;
      bytes = sym (take-append-drop (size text) text) ∙ ap (λ (y : List ℕ). y ++ drop (size text) text) (sym (written-bytes x w));
    } in
    absurd (h _ (one-row (number x) text b).1))
    (eq-zero-or-pos (size text))

module _ (text : List ℕ) where
  here : (at j : ℕ) → j ≡ at + 1 → at < length text → drop at text ≡ get_or text at 0 ∷ drop j text
  here at j e h = rw (drop-cons text at 0 h, e, add-one at)

  module _ (at : ℕ) where
    -- one range
    module _ (low high : ℕ) where
      pub range-past : length text ≤ at → false ≡ matches (low to high ∷ []) (drop at text)
      unfolding matches
      range-past h = rw (drop_of_length-le text h)

      module _ (h : at < length text) where
        pub range-below : get_or text at 0 < low → leb low (get_or text at 0) ≡ matches (low to high ∷ []) (drop at text)
        unfolding matches is_in
        range-below l = rw (here at (at + 1) refl h, lt-leb low (get_or text at 0) l)

        pub range-from : low ≤ get_or text at 0 → leb (get_or text at 0) high ≡ matches (low to high ∷ []) (drop at text)
        unfolding matches is_in
        range-from l = rw (here at (at + 1) refl h, le-leb low (get_or text at 0) l) (at-end (leb (get_or text at 0) high))
          where
            at-end : (b : Bool) → b ≡ (b && true)
            at-end true = refl
            at-end false = refl

    -- a range, and a row after it
    module _ (r : Range) {p : Bool} (e : p ≡ matches (r ∷ []) (drop at text)) where
      pub there : p ≡ true → at < length text
      unfolding matches
      there f = ⊎_elim (λ h. h) (λ h. absurd (never (sym e ∙ f) (rw (drop_of_length-le text h)))) (below_or_not at (length text))

      both : (rs : List Range) {b : Bool} → p ≡ b → matches (r ∷ rs) (drop at text) ≡ (b && matches rs (drop (at + 1) text))
      both rs f = matches-more r rs (drop at text) ∙ rw (drop-drop 1 at text, sym e ∙ f)

      pub range-and : (rs : List Range) {q : Bool} → p ≡ true → q ≡ matches rs (drop (at + 1) text) → q ≡ matches (r ∷ rs) (drop at text)
      range-and rs f g = g ∙ sym (both rs f)

      pub range-not : (rs : List Range) → p ≡ false → p ≡ matches (r ∷ rs) (drop at text)
      range-not rs f = f ∙ sym (both rs f)

  -- the same for the second byte of a row
  module _ (at : ℕ) (r : Range) {p : Bool} (rs : List Range) (e : p ≡ matches (r ∷ []) (drop (at + 1) text)) where
    pub second-and : {q : Bool} → p ≡ true → q ≡ matches rs (drop (at + 2) text) → q ≡ matches (r ∷ rs) (drop (at + 1) text)
    second-and f g = let z : at + 2 ≡ at + 1 + 1 = omega arith in range-and (at + 1) r e rs f (rw z at g)

    pub second-not : p ≡ false → p ≡ matches (r ∷ rs) (drop (at + 1) text)
    second-not f = range-not (at + 1) r e rs f

  -- a row at a place
  module _ (at : ℕ) (h : at < length text) where
    matches-here : {k : ℕ} → Matches k (drop at text) → Matches k (get_or text at 0 ∷ drop (at + 1) text)
    matches-here m = rw (here at (at + 1) refl h) at m

    -- the byte stands between the first ranges of the rows
    none : (m n : ℕ) → all_from (λ k. misses m n (row k)) 0 9 ≡ true → m < get_or text at 0 → get_or text at 0 < n → 0 ≡ size (drop at text)
    unfolding rows
    none m n e l k =
        none-size (drop at text)
        (λ j f. between-opens m n _ (row j) (each_below (λ k. misses m n (row k)) 9 j e f.there) l k (match-opens j _ (drop (at + 1) text) (matches-here f)))

    none_between : 0x7F < get_or text at 0 → get_or text at 0 < 0xC2 → 0 ≡ size (drop at text)
    unfolding rows row misses
    none_between l k = none 0x7F 0xC2 refl l k

    none_above : 0xF3 < get_or text at 0 → (get_or text at 0 ≡ 0xF4 → ⊥) → 0 ≡ size (drop at text)
    unfolding rows row misses
    none_above l e = none 0xF4 (get_or text at 0 + 1) refl (omega arith) (omega arith)

  -- row k's first range has the byte: no other row matches, and this one does if its rest does
  module _ (at k : ℕ) {low high : ℕ} where
    pub arm : (p : Bool) {rs : List Range} → p ≡ matches rs (drop (at + 1) text) → row k ≡ low to high ∷ rs → k < length rows → at < length text
        → low ≤ get_or text at 0 → get_or text at 0 ≤ high → cond p (length (row k)) 0 ≡ size (drop at text)
    unfolding matches is_in
    arm p {rs} g e l h lo hi = by p g
      where
        rest : matches (row k) (drop at text) ≡ matches rs (drop (at + 1) text)
        rest = rw (e, here at (at + 1) refl h, le-leb low (get_or text at 0) lo, le-leb (get_or text at 0) high hi)

        by : (p : Bool) → p ≡ matches rs (drop (at + 1) text) → cond p (length (row k)) 0 ≡ size (drop at text)
        by true g = row-size k (drop at text) (record { there = l; all = rest ∙ sym g })
        by false g =
            none-size (drop at text)
            (λ j m. let q = only_row k _ (drop (at + 1) text) l (rw e (opens lo hi)) j (matches-here at h m) in never (rw q at m).all (rest ∙ sym g))

-- ---- the length of a character, if there is one

module _ {m : ℕ} where
  pub found-row : (p : Bool) (n : ℕ) → 0 < n → cond p n 0 ≡ m → then_some p n ≡ found m
  found-row true zero h e = absurd (omega arith)
  found-row true (suc n) h e = ap found e
  found-row false n h e = ap found e

  pub found-none : None ≡ found m → m ≡ 0
  found-none e = by m e
    where
      by : (k : ℕ) → None ≡ found k → k ≡ 0
      by zero e = refl
      by (suc k) e = cc

  pub found-some : (n : ℕ) → Some n ≡ found m → (n ≡ m) × (0 < n)
  found-some n e = by m e
    where
      by : (k : ℕ) → Some n ≡ found k → (n ≡ k) × (0 < n)
      by zero e = cc
      by (suc k) e = let q : n ≡ suc k = cc in (q, omega arith)

module _ (text : List ℕ) (at : ℕ) (h : at < length text) where
  pub found_between : 0x7F < get_or text at 0 → get_or text at 0 < 0xC2 → None ≡ found (size (drop at text))
  found_between l k = ap found (none_between text at h l k)

  pub found_above : 0xF3 < get_or text at 0 → (get_or text at 0 ≡ 0xF4 → ⊥) → None ≡ found (size (drop at text))
  found_above l e = ap found (none_above text at h l e)

  -- the rows that begin with a byte of a wide range
  pub row_one : get_or text at 0 ≤ 0x7F → Some 1 ≡ found (size (drop at text))
  unfolding rows row matches
  row_one l = ap found (arm text at 0 true refl refl (omega arith) h (omega arith) l)

  pub row_two : {r : Option ℕ} {p : Bool} → r ≡ then_some p 2 → p ≡ matches (utf8_tail ∷ []) (drop (at + 1) text) → 0xC2 ≤ get_or text at 0 → get_or text at 0 ≤ 0xDF
      → r ≡ found (size (drop at text))
  unfolding rows row
  row_two {r} {p} e g lo hi = e ∙ found-row p 2 (omega arith) (arm text at 1 p g refl (omega arith) h lo hi)
