-- The rows of a table, one after the other.
use Prim.Native.Nat.{ℕ, zero, suc, ◌+◌, ◌*◌, ◌^◌, ◌≤◌, ◌<◌}
use Prim.Native.String.{String}
use native.Mathlib.Omega.{arith}
use native.Mathlib.Numerals.{add-one}
use mathlib.Core.Path.{◌≡◌, refl, sym, ap, ◌∙◌}
use mathlib.Core.Bool.{Bool, true, false}
use mathlib.Core.List.{List, [], ◌∷◌, map}
use lib.ListN.{length, get_or, set, take, drop, length-set, length-map}
use lib.Dec.{eqb}
use lib.Seq.{slice, take-take, take-append-le, drop_at, length-take-le, get_or-take, take-set-lt, drop-set-lt, get_or-set_same, get_or-set_other}
use borrow.Author.Tests.{eqb-true, eqb-false}
use mir.Syntax.{w16, w64}
use mir.Val.{Fits}
use Rattle.utf8.specs.Ascii.{ascii}
use Rattle.json_text.specs.Tree.{Json}
use Rattle.nodes.specs.Access.{Member, members, find, first_named}
use Rattle.nodes.specs.Says.{Node, Seeks}
use Rattle.nodes.specs.Says.{Found}
use Rattle.fields.specs.Fields.{elements_in, listed_in}
use Rattle.ids.specs.Says.{Offsets, Objects, names_of}
use Rattle.ids.proofs.Rules.{nobody, object-node, object-value, member-onward}
use Rattle.marks.specs.Marks.{row_of}
use Rattle.rows.specs.Rows.{link_number, link_numbers, listed_count}
use Rattle.rows.specs.Says.{Listed, RoomFor, ListFits, Appends, ListGives, RoomForWord, RowsGive}

-- ---- where the rows begin

module _ (name : String) where
  count-more : (ms : List Member) (k : ℕ) (d : Member) → k < length ms
      → listed_count name (take (suc k) ms) ≡ listed_count name (take k ms) + length (listed_in name (get_or ms k d).1)
  unfolding listed_count
  count-more [] k d h = absurd (omega arith)
  count-more (m ∷ ms) zero d h = omega arith
  count-more (m ∷ ms) (suc k) d h = omega (arith, count-more ms k d (omega arith))

  count_most : (ms : List Member) (k : ℕ) → listed_count name (take k ms) ≤ listed_count name ms
  unfolding listed_count
  count_most ms zero = omega arith
  count_most [] (suc k) = omega arith
  count_most (m ∷ ms) (suc k) = omega (arith, count_most ms k)

  -- where the row k begins
  abbrev begin : List Member → ℕ → ℕ
  begin ms k = length ms + 1 + listed_count name (take k ms)

  begin-next : (ms : List Member) (k : ℕ) (d : Member) → k < length ms → begin ms (k + 1) ≡ begin ms k + length (listed_in name (get_or ms k d).1)
  begin-next ms k d h = omega (arith, rw (← add-one) at (count-more ms k d h))

  begin-later : (ms : List Member) (j k : ℕ) → j ≤ k → begin ms j ≤ begin ms k
  begin-later ms j k h = omega (arith, rw (take-take j k ms h) at (count_most (take k ms) j))

-- ---- words that were written

-- those before `at` are as they were, and ws are the next
module _ {ws rows₀ rows : List ℕ} {at end : ℕ} (a : Appends ws rows₀ at rows end) (h : at ≤ length rows₀) where
  kept : (n : ℕ) → n ≤ at → take n rows ≡ take n rows₀
  kept n l =
      sym (take-take n end rows (omega (arith, a.ends)))
      ∙ (ap (take n) a.are ∙ (take-append-le n (take at rows₀) ws (omega (arith, length-take-le at rows₀ h)) ∙ take-take n at rows₀ l))

  kept_word : (j : ℕ) → j < at → get_or rows j 0 ≡ get_or rows₀ j 0
  kept_word j l = sym (get_or-take at rows j 0 l) ∙ (ap (λ (l : List ℕ). get_or l j 0) (kept at (omega arith)) ∙ get_or-take at rows₀ j 0 l)

  new-words : slice at end rows ≡ ws
  new-words = ap (drop at) a.are ∙ drop_at (take at rows₀) ws at (length-take-le at rows₀ h)

-- a word before a part of the table
put-before : (rows : List ℕ) (k a from to : ℕ) → k < from → from ≤ to → slice from to (set rows k a) ≡ slice from to rows
put-before rows k a from to h l = ap (drop from) (take-set-lt to rows k a (omega arith)) ∙ drop-set-lt from (take to rows) k a h

-- ---- the rows before the row k, which begins at the word `at`

record Rowed (name : String) (ms : List Member) (rows : List ℕ) (k at : ℕ) : Type 0 where
  starts : at ≡ begin name ms k
  heads : (j : ℕ) → j < k → get_or rows j 0 ≡ begin name ms j
  has : (j : ℕ) (d : Member) → j < k → slice (begin name ms j) (begin name ms (j + 1)) rows ≡ link_numbers (names_of ms) name (get_or ms j d).1

module _ {name : String} {ms : List Member} {rows : List ℕ} {k at : ℕ} (r : Rowed name ms rows k at) where
  -- where the row k begins is written
  put-head : (j : ℕ) → j < k + 1 → k < length rows → get_or (set rows k at) j 0 ≡ begin name ms j
  put-head j h l = of (eqb j k) refl
    where
      of : (b : Bool) → eqb j k ≡ b → get_or (set rows k at) j 0 ≡ begin name ms j
      of true e = rw (eqb-true j k e) (get_or-set_same rows k at 0 l ∙ r.starts)
      of false e = let n = eqb-false j k e in get_or-set_other rows k j at 0 n ∙ r.heads j (omega (arith, n))

  put_has : (j : ℕ) (d : Member) → j < k → k ≤ length ms
      → slice (begin name ms j) (begin name ms (j + 1)) (set rows k at) ≡ link_numbers (names_of ms) name (get_or ms j d).1
  put_has j d h l =
      put-before rows k at (begin name ms j) (begin name ms (j + 1)) (omega arith) (begin-later name ms j (j + 1) (omega arith)) ∙ r.has j d h

  -- one row more
  module _ {rows' : List ℕ} {end : ℕ} (l : k < length ms) (h : length ms + 1 + listed_count name ms ≤ length rows)
      (a : (d : Member) → Appends (link_numbers (names_of ms) name (get_or ms k d).1) (set rows k at) at rows' end) where
    high : at ≤ length (set rows k at)
    high = omega (arith, length-set rows k at, r.starts, count_most name ms k)

    one_more : Rowed name ms rows' (k + 1) end
    unfolding link_numbers
    one_more = record {
      starts = next;
      heads = λ j q. kept_word (a nobody) high j (omega (arith, r.starts)) ∙ put-head j q (omega arith);
      has = λ j d q. of j d q (eqb j k) refl;
    }
      where
        next : end ≡ begin name ms (k + 1)
        next =
            let o = listed_in name (get_or ms k nobody).1 in
            omega (arith, (a nobody).ends, r.starts, begin-next name ms k nobody l, length-map o (link_number (names_of ms)))

        of : (j : ℕ) (d : Member) → j < k + 1 → (b : Bool) → eqb j k ≡ b
            → slice (begin name ms j) (begin name ms (j + 1)) rows' ≡ link_numbers (names_of ms) name (get_or ms j d).1
        of j d q true e = rw (eqb-true j k e, ← next, ← r.starts) (new-words (a d) high)
        of j d q false e =
            let n = eqb-false j k e in
            let m = begin-later name ms (j + 1) k (omega (arith, n)) in
            ap (drop (begin name ms j)) (kept (a d) high (begin name ms (j + 1)) (omega (arith, m, r.starts))) ∙ put_has j d (omega (arith, n)) (omega arith)

-- ---- the loop over the objects

-- it has come to the object of number k, whose row begins at the word `at`; ws are the bytes of the name, and the table was rows₀
pub record Filling (x t offsets ws rows₀ rows : List ℕ) (k at : ℕ) : Type 0 where
  pub objects : Objects x t offsets
  pub asked : RoomForWord x t offsets ws rows
  pub within : k ≤ length offsets
  pub same : length rows ≡ length rows₀
  is : (ms : List Member) → Offsets x t ms offsets → Rowed asked.word ms rows k at

pub filling-begin : {x t offsets ws rows : List ℕ} {at : ℕ} → Objects x t offsets → RoomForWord x t offsets ws rows
    → at ≡ length offsets + 1 → Filling x t offsets ws rows rows 0 at
unfolding listed_count
filling-begin n a q = record {
  objects = n;
  asked = a;
  within = omega arith;
  same = refl;
  is = λ ms o. record { starts = omega (arith, o.all); heads = λ j l. absurd (omega arith); has = λ j d l. absurd (omega arith) };
}

-- what an object lists under the name
listed-as : (word : String) (ws : List ℕ) → ws ≡ ascii word → (v : Json) → elements_in (first_named ws (members v)) ≡ listed_in word v
unfolding listed_in find
listed-as word ws q v = rw q

-- the room is a matter of the table's length
room-same : {x t offsets ws rows rows' : List ℕ} (a : RoomForWord x t offsets ws rows) → length rows' ≡ length rows → RoomForWord x t offsets ws rows'
room-same a q = record {
  word = a.word;
  bytes = a.bytes;
  room = record { all = λ ms o. rw q (a.room.all ms o); short = rw q a.room.short };
}

module _ {x t offsets ws rows₀ rows : List ℕ} {k at : ℕ} (f : Filling x t offsets ws rows₀ rows k at) where
  room : length offsets + 1 + listed_count f.asked.word f.objects.members ≤ length rows
  room = f.asked.room.all f.objects.members f.objects.stand

  low : at ≤ length rows
  low =
      let ms = f.objects.members in
      omega (arith, room, (f.is ms f.objects.stand).starts, count_most f.asked.word ms k, f.objects.stand.all)

  pub filling-short : Fits w16 at
  filling-short = record { fits = omega (arith, low, f.asked.room.short) }

  pub filling-last : length offsets < length rows
  filling-last = omega (arith, room)

  pub filling-inside : k < length offsets → k < length rows
  filling-inside l = omega (arith, room)

  pub filling-node : k < length offsets → Node x t (get_or offsets k 0 + 3)
  filling-node l = object-value f.objects (object-node f.objects l)

  pub filling-onward : k < length offsets → length t * 4 < 2 ^ 63 → Fits w64 (get_or offsets k 0 + 3)
  filling-onward l h = member-onward (object-node f.objects l) h

  module _ {found : Found} (l : k < length offsets) (s : Seeks (λ v. first_named ws (members v)) x t (get_or offsets k 0 + 3) found) where
    pub filling-fits : ListFits x t found at (set rows k at)
    filling-fits =
        let word = f.asked.word in
        let ms = f.objects.members in
        let v = (get_or ms k nobody).1 in
        let e : elements_in (first_named ws (members v)) ≡ listed_in word v = listed-as word ws f.asked.bytes v in
        let o = f.objects.stand in
        let n = begin-next word ms k nobody (omega (arith, o.all)) in
        record {
          sought = record { answer = first_named ws (members v); finds = s.finds v (o.each k nobody l).value; short = f.objects.short };
          room = omega (arith, ap length e, n, count_most word ms (k + 1), room, length-set rows k at, (f.is ms o).starts, o.all);
          short = omega (arith, length-set rows k at, f.asked.room.short);
        }

    pub filling-turn : {rows' : List ℕ} {end : ℕ} → ListGives x t offsets found (set rows k at) at rows' end → Filling x t offsets ws rows₀ rows' (k + 1) end
    unfolding link_numbers room-same
    filling-turn {rows'} {end} g =
        let word = f.asked.word in
        record {
          objects = f.objects;
          asked = room-same f.asked (g.room ∙ length-set rows k at);
          within = omega arith;
          same = g.room ∙ (length-set rows k at ∙ f.same);
          is = λ ms o.
              let h = f.asked.room.all ms o in
              one_more (f.is ms o) (omega (arith, o.all)) (omega (arith, h, o.all)) (λ d.
              let v = (get_or ms k d).1 in
              rw (listed-as word ws f.asked.bytes v) at (g.is ms o (first_named ws (members v)) (s.finds v (o.each k d l).value)));
        }

  pub filling-same : length (set rows (length offsets) at) ≡ length rows₀
  filling-same = length-set rows (length offsets) at ∙ f.same

  -- where the last row ends is written
  pub filling-done : length offsets ≤ k → RowsGive x t offsets ws (set rows (length offsets) at)
  unfolding row_of link_numbers
  filling-done h =
      let word = f.asked.word in
      let z : k ≡ length offsets = omega (arith, f.within) in
      let n = length-set rows k at in
      let head : (ms : List Member) → Offsets x t ms offsets → (j : ℕ) → j < k + 1 → get_or (set rows k at) j 0 ≡ begin word ms j =
      λ ms o j l. put-head (f.is ms o) j l (omega (arith, filling-last))
      in
      let ms = f.objects.members in
      let o = f.objects.stand in
      rw (← z) (record {
        is = λ name q. record {
          table = record {
            row = λ j l. record {
              room = omega (arith, n, filling-last);
              ordered = omega (arith, head ms o j (omega arith), head ms o (j + 1) (omega arith), begin-later word ms j (j + 1) (omega arith));
              within = omega (arith, n, head ms o (j + 1) (omega arith), count_most word ms (j + 1), room, o.all);
            };
          };
          is = λ ms o j d l.
              let same : listed_in word (get_or ms j d).1 ≡ listed_in name (get_or ms j d).1 =
              sym (listed-as word ws f.asked.bytes (get_or ms j d).1) ∙ listed-as name ws q (get_or ms j d).1
              in
              rw (head ms o j (omega arith), head ms o (j + 1) (omega arith))
              (put_has (f.is ms o) j d (omega arith) (omega (arith, o.all)) ∙ ap (map (link_number (names_of ms))) same);
        };
      })

-- ---- both tables

module _ {x t offsets ws rows : List ℕ} (word : String) (q : ws ≡ ascii word) where
  pub room_word : RoomFor x t offsets word rows → RoomForWord x t offsets ws rows
  room_word r = record { word = word; bytes = q; room = r }

  pub rows_told : RowsGive x t offsets ws rows → Listed x t offsets word rows
  rows_told g = g.is word q
