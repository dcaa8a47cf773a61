-- What a decoder hands out, from what the code's tests and calls say.
use Prim.Native.Nat.{ℕ, ◌+◌, ◌-◌, ◌/◌, ◌%◌, ◌≤◌, ◌<◌}
use mathlib.Core.Path.{◌≡◌, ◌∙◌}
use mathlib.Core.List.{List, [], ◌∷◌, ◌++◌}
use Rattle.std.specs.Prelude.{Option, None, Some}
use lib.ListN.{get_or}
use Rattle.utf8.specs.Bytes.{le}
use Rattle.utf8.specs.Utf8.{encode}
use Rattle.strings.specs.Spans.{Span, decode_at}
use Rattle.strings.specs.Parts.{Escapes}
use Rattle.strings.specs.Laws.{at_plain, at-end}
use Rattle.strings.specs.declared.Escape.{Escape}
use Rattle.strings.specs.declared.Escape.TheVariants.{Short, Long}
use Rattle.strings.proofs.Bytes.{le-some}
use Rattle.strings.proofs.Escapes.{cut_stands, short-stands, long-stands}

-- nothing of a word is still to come
nothing-of : (left word : ℕ) (m : List ℕ) → left ≡ 0 → le left word ++ m ≡ m
unfolding le
nothing-of left word m z = rw z

-- with no character begun
module _ {x : List ℕ} {at end left : ℕ} (s : Span x at end) (z : left ≡ 0) (word : ℕ) where
  pub next-none : end ≤ at → le left word ++ decode_at x at end ≡ []
  next-none l = nothing-of left word _ z ∙ at-end s l

  pub next-plain : at < end → (get_or x at 0 ≡ 92 → ⊥) → le left word ++ decode_at x at end ≡ get_or x at 0 ∷ (le left word ++ decode_at x (at + 1) end)
  next-plain l n = rw (nothing-of left word (decode_at x at end) z, nothing-of left word (decode_at x (at + 1) end) z) (at_plain s l n)

  module _ (r : Option Escape) (h : Escapes x at end r) where
    pub next-cut : r ≡ None → le left word ++ decode_at x at end ≡ []
    next-cut q = nothing-of left word _ z ∙ cut_stands s r h q

    pub next-short : (b : ℕ) → r ≡ Some (Short b) → le left word ++ decode_at x at end ≡ b ∷ (le left word ++ decode_at x (at + 2) end)
    next-short b q = rw (nothing-of left word (decode_at x at end) z, nothing-of left word (decode_at x (at + 2) end) z) (short-stands s r h b q)

    pub next-long : (u to n w : ℕ) → r ≡ Some (Long u to) → le n w ≡ encode u → le left word ++ decode_at x at end ≡ le n w ++ decode_at x to end
    next-long u to n w q e = nothing-of left word _ z ∙ (long-stands s r h u to q ∙ rw e)

-- of a character that is begun
pub begun-next : (left word : ℕ) (m : List ℕ) → 0 < left → le left word ++ m ≡ word % 256 ∷ (le (left - 1) (word / 256) ++ m)
begun-next left word m h = rw (le-some left word h)
