-- What the characters at a place of the text say of `whole_length` there.
use Prim.Native.Nat.{ℕ, zero, suc, ◌+◌, ◌≤◌, ◌<◌}
use native.Mathlib.Omega.{arith}
use native.Mathlib.Nat.{add-zero}
use mathlib.Core.Path.{◌≡◌, refl, sym, ◌∙◌, ap}
use mathlib.Core.Bool.{Bool, true}
use mathlib.Core.List.{List}
use mathlib.Core.Logic.{⊎_elim}
use lib.ListN.{length, drop, get_or, length-drop, drop_of_length-le}
use lib.Seq.{drop-drop}
use lib.Bits.{or_add_and, and_le_l, and_le_r}
use Rattle.std.proofs.Common.{bit_or, ◌-◌, take, length-take-le, get_or-take, get_or-drop}
use lib.Dec.{ltb}
use borrow.Author.Count.{below_more}
use borrow.Author.Tests.{ltb-true}
use Rattle.utf8.specs.Utf8.{size, whole_from, whole_length}
use Rattle.utf8.specs.Rows.{rows, matches, row}
use Rattle.utf8.specs.Says.{Under, Passed}
use Rattle.utf8.specs.Laws.{below_or_not, size-within, whole-stop, whole-on}
use Rattle.utf8.proofs.Arms.{arm}

module _ (text : List ℕ) where
  pub inside : (at n : ℕ) → at < length text → n ≡ size (drop at text) → at + n ≤ length text
  inside at n h e = omega (arith, size-within (drop at text), length-drop at text)

  -- the count goes on past a character
  past : (at n : ℕ) → 0 < n → size (drop at text) ≡ n → whole_length (drop at text) ≡ n + whole_length (drop (at + n) text)
  past at n h e = whole-on (drop at text) n h e ∙ ap (λ x. n + whole_length x) (drop-drop n at text)

  -- one byte below 128
  ascii : (at j : ℕ) → j ≡ at + 1 → at < length text → get_or text at 0 < 128 → whole_length (drop at text) ≡ 1 + whole_length (drop j text)
  unfolding rows row matches
  ascii at j e h l = past at 1 (omega arith) (sym (arm text at 0 true refl refl (omega arith) h (omega arith) (omega arith))) ∙ ap (λ k. 1 + whole_length (drop k text)) (sym e)

  -- n bytes below 128
  ascii-each : (at n m : ℕ) → Under text at n m → at + n ≤ length text → m < 128 → whole_length (drop at text) ≡ n + whole_length (drop (at + n) text)
  ascii-each at zero m h l e = rw (add-zero at) (omega arith)
  ascii-each at (suc n) m h l e =
      let u : Under text at n m = record { most = λ k i. h.most k (omega arith) } in
      omega (arith, ascii-each at n m u (omega arith) e, ascii (at + n) (at + suc n) (omega arith) (omega arith) (omega (arith, h.most n (omega arith))))

  module _ (at : ℕ) where
    pub ascii-many : (m : ℕ) → Under text at 64 m → at + 64 ≤ length text → ltb m 128 ≡ true → whole_length (drop at text) ≡ 64 + whole_length (drop (at + 64) text)
    ascii-many m h l e = ascii-each at 64 m h l (ltb-true m 128 e)

    -- a byte that is at least each of those so far
    pub gather_none : (m : ℕ) → Under text at 0 m
    gather_none m = record { most = λ k i. absurd (omega arith) }

    pub gather-more : (k m b : ℕ) → Under text at k m → b ≡ get_or text (at + k) 0 → Under text at (k + 1) (bit_or m b)
    gather-more k m b h q =
        let l : m ≤ bit_or m b = omega (arith, or_add_and m b, and_le_l m b, and_le_r m b) in
        let u : b ≤ bit_or m b = omega (arith, or_add_and m b, and_le_l m b, and_le_r m b) in
        record { most = below_more (λ j. get_or text (at + j) 0 ≤ bit_or m b) k (λ j i. omega (arith, h.most j i)) (omega arith) }

    -- the next 64 bytes
    pub next-length : at + 64 ≤ length text → length (take (at + 64 - at) (drop at text)) ≡ 64
    next-length h = let e : at + 64 - at ≡ 64 = omega arith in rw e (length-take-le 64 (drop at text) (omega (arith, length-drop at text)))

    pub next-byte : (k : ℕ) → k < 64 → get_or (take (at + 64 - at) (drop at text)) k 0 ≡ get_or text (at + k) 0
    next-byte k h = get_or-take (at + 64 - at) (drop at text) k 0 (omega arith) ∙ get_or-drop at text k 0

    pub gather-all : (k m : ℕ) → Under text at k m → 64 ≤ k → Under text at 64 m
    gather-all k m h l = record { most = λ j i. h.most j (omega arith) }

    pub block-ascii : (r : Bool) → at + 64 ≤ length text → (r ≡ true → whole_length (drop at text) ≡ 64 + whole_length (drop (at + 64) text)) → r ≡ true → Passed text at (at + 64) (at + 64)
    block-ascii r l f e = record { inside = l; on = omega (arith, f e); stop = λ z. absurd (omega arith) }

-- the whole characters from `from` to this place are counted
pub record Reached (text : List ℕ) (from at : ℕ) : Type 0 where
  pub inside : at ≤ length text
  pub so_far : from + whole_length (drop from text) ≡ at + whole_length (drop at text)

pub starts : (text : List ℕ) (from : ℕ) → from ≤ length text → Reached text from from
starts text from h = record { inside = h; so_far = refl }

module _ {text : List ℕ} {from at : ℕ} (h : Reached text from at) where
  -- past a character, or where none stands
  pub goes_on : (n end : ℕ) → at < end → end ≤ length text → n ≡ size (drop at text) → (n ≡ 0 → ⊥) → Reached text from (at + n)
  goes_on n end l k e z = record { inside = inside text at n (omega arith) e; so_far = omega (arith, h.so_far, past text at n (omega arith) (sym e)) }

  pub stops : (n end : ℕ) → n ≡ size (drop at text) → n ≡ 0 → Passed text from end at
  stops n end e z = record { inside = h.inside; on = h.so_far; stop = λ l. whole-stop (drop at text) (sym e ∙ z) }

  pub ends : (end : ℕ) → end ≤ at → Passed text from end at
  ends end l = record { inside = h.inside; on = h.so_far; stop = λ k. absurd (omega arith) }

  -- past a block
  pub block_on : (end next : ℕ) → Passed text at end next → Reached text from next
  block_on end next p = record { inside = p.inside; so_far = h.so_far ∙ p.on }

-- where no character stands, or the text ends
pub whole_is : {text : List ℕ} {at end next : ℕ} → Reached text 0 at → Passed text at end next → next < end → next ≡ whole_length text
whole_is h p l = omega (arith, h.so_far, p.on, p.stop l)

pub whole-end : {text : List ℕ} {at next : ℕ} → Reached text 0 at → Passed text at (length text) next → next ≡ whole_length text
unfolding whole_length whole_from
whole-end {text} {at} {next} h p =
    ⊎_elim (λ l. whole_is h p l) (λ l. omega (arith, h.so_far, p.on, ap whole_length (drop_of_length-le text l))) (below_or_not next (length text))
