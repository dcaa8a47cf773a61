-- The turns of the loops.
use Prim.Native.Nat.{ℕ, suc, ◌+◌, ◌≤◌, ◌<◌}
use native.Mathlib.Omega.{arith}
use native.Mathlib.Numerals.{add-one}
use mathlib.Core.Path.{◌≡◌, refl, ap, sym, ◌∙◌}
use mathlib.Core.Bool.{Bool, true, false, ◌&&◌}
use lib.Dec.{leb}
use mathlib.Core.List.{List, [], ◌∷◌, ◌++◌, append_assoc, append-nil}
use Rattle.std.specs.Prelude.{Option, None, Some}
use lib.ListN.{length, get_or, take, drop, set, length-set, take-append-drop}
use lib.Seq.{take-suc, take-suc-set, take_all, drop-set-lt}
use Rattle.strings.specs.Spans.{Span, unpaired_at, Copied, first_of}
use Rattle.strings.specs.Parts.{Escapes}
use Rattle.strings.specs.declared.Escape.{Escape}
use Rattle.strings.specs.declared.Escape.TheVariants.{Short, Long}
use Rattle.strings.specs.Strings.{alone}
use Rattle.strings.proofs.Pieces.{parts-end, parts-plain, places-none, places-byte}
use Rattle.strings.proofs.Escapes.{is-short, is-long}

-- bytes that are written one by one: of l, those of m are still to come
pub record Writing (l m d₀ d : List ℕ) (to o : ℕ) : Type 0 where
  pub long : length d ≡ length d₀
  pub goes : o + length m ≡ to + length l
  pub room : o + length m ≤ length d
  pub bytes : take o d ++ m ++ drop (o + length m) d ≡ take to d₀ ++ l ++ drop (to + length l) d₀

pub writing_start : (l m d : List ℕ) (to : ℕ) → m ≡ l → to + length l ≤ length d → Writing l m d d to to
writing_start l m d to e h = rw e (record { long = refl; goes = refl; room = h; bytes = refl })

module _ {l m d₀ d : List ℕ} {to o : ℕ} (w : Writing l m d₀ d to o) where
  pub writing-done : m ≡ [] → Copied l d₀ d to o
  writing-done q =
      let z : o + length m ≡ o = omega (arith, ap length q) in
      let f : take o d ++ [] ++ drop o d ≡ take to d₀ ++ l ++ drop (to + length l) d₀ = rw (z, q) at w.bytes in
      record { answer = omega (arith, w.goes, z); contents = sym (take-append-drop o d) ∙ (rw (append-nil (take o d)) at f) }

  module _ (b : ℕ) (m' : List ℕ) (q : m ≡ b ∷ m') where
    pub writing-room : o < length d
    writing-room = omega (arith, ap length q, w.room)

    pub writing_more : Writing l m' d₀ (set d o b) to (o + 1)
    writing_more =
        let n : length m ≡ suc (length m') = ap length q in
        let z : o + length m ≡ suc o + length m' = omega arith in
        let t : take (suc o) (set d o b) ≡ take o d ++ (b ∷ []) = take-suc-set d o b writing-room in
        let f : drop (suc o + length m') (set d o b) ≡ drop (suc o + length m') d = drop-set-lt (suc o + length m') d o b (omega arith) in
        let g : take o d ++ (b ∷ m') ++ drop (suc o + length m') d ≡ take to d₀ ++ l ++ drop (to + length l) d₀ = rw (z, q) at w.bytes in
        record {
          long = length-set d o b ∙ w.long;
          goes = omega (arith, w.goes);
          room = omega (arith, w.room, length-set d o b);
          bytes = rw (add-one o, t, f, append_assoc (take o d) (b ∷ []) m') g;
        }

-- the first k bytes are those of s
pub record Over (d s : List ℕ) (k : ℕ) : Type 0 where
  pub size : length d ≡ length s
  pub done : take k d ≡ take k s

pub over-start : (d s : List ℕ) → length d ≡ length s → Over d s 0
over-start d s e = record { size = e; done = refl }

module _ {d s : List ℕ} {k : ℕ} (v : Over d s k) where
  pub over-more : k < length s → Over (set d k (get_or s k 0)) s (k + 1)
  over-more l =
      record {
        size = length-set d k (get_or s k 0) ∙ v.size;
        done = rw (add-one k, take-suc-set d k (get_or s k 0) (omega (arith, l, v.size)), take-suc s k 0 l) (ap (λ m. m ++ (get_or s k 0 ∷ [])) v.done);
      }

  pub over-end : length s ≤ k → d ≡ s
  over-end l = sym (take_all k d (omega (arith, l, v.size))) ∙ v.done ∙ take_all k s l

-- the first unpaired surrogate
module _ (f : Option ℕ) {x : List ℕ} {at end : ℕ} (e : f ≡ first_of (unpaired_at x at end)) (s : Span x at end) where
  pub found-end : end ≤ at → None ≡ f
  unfolding first_of
  found-end l = rw (e, places-none x at end (parts-end s l))

  pub found_plain : at < end → (get_or x at 0 ≡ 92 → ⊥) → f ≡ first_of (unpaired_at x (at + 1) end)
  found_plain l n = e ∙ rw (places-byte x at end _ (at + 1) (parts-plain s l n))

  module _ (r : Option Escape) (h : Escapes x at end r) where
    pub found-cut : r ≡ None → None ≡ f
    unfolding first_of Escapes
    found-cut q = rw (e, (rw q at h).places)

    pub found-short : (b : ℕ) → r ≡ Some (Short b) → f ≡ first_of (unpaired_at x (at + 2) end)
    found-short b q = e ∙ rw (is-short s r h b q).places

    module _ (u to : ℕ) (q : r ≡ Some (Long u to)) (c : Bool) (t : c ≡ (leb 0xD800 u && leb u 0xDFFF)) where
      pub found-long : c ≡ false → f ≡ first_of (unpaired_at x to end)
      unfolding alone
      found-long n = e ∙ rw ((is-long s r h u to q).places, ← t, n)

      pub found_here : c ≡ true → Some at ≡ f
      unfolding first_of alone
      found_here y = rw (e, (is-long s r h u to q).places, ← t, y)
