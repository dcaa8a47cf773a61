-- Comparing strings as they stand.
use Prim.Native.Nat.{ℕ, ◌+◌, ◌-◌, ◌≤◌, ◌<◌}
use native.Mathlib.Omega.{arith}
use mathlib.Core.Path.{◌≡◌, refl, ap, sym, subst, ◌∙◌}
use mathlib.Core.Bool.{Bool, true, false, not}
use mathlib.Core.List.{List, [], ◌∷◌}
use lib.ListN.{length, get_or, take, drop, drop_of_length-le}
use native.Mathlib.Numerals.{add-one}
use lib.Seq.{drop-cons, slice}
use Rattle.std.specs.Prelude.{min}
use Rattle.std.proofs.lemmas.List.{take_rest}
use lib.Dec.{eqb}
use borrow.Author.Tests.{lt-ltb, le-ltb, eq-eqb, ne_eqb}
use Rattle.utf8.specs.Utf8.{same}
use Rattle.strings.specs.Strings.{decode, pieces, decoded}
use Rattle.strings.specs.Spans.{Span, decode_at, begin_apart}
use Rattle.compare.specs.Says.{TellsSame, Alike}
use Rattle.strings.specs.Laws.{plain_byte, taken, taken-size, taken-later}

pub prefix-start : (l m : List ℕ) → Alike l m 0
prefix-start l m = record { first = omega arith; second = omega arith; word = refl; string = refl }

-- the next byte of a string
next-byte : (l : List ℕ) (k : ℕ) → k < length l → drop k l ≡ get_or l k 0 ∷ drop (k + 1) l
next-byte l k h = rw (drop-cons l k 0 h, add-one k)

nothing : decode [] ≡ []
unfolding decode pieces decoded
nothing = refl

module _ {l m : List ℕ} {k : ℕ} (p : Alike l m k) where
  -- the loop over the shorter one has ended
  pub prefix-least : {n : ℕ} → n ≡ min (length l) (length m) → n ≤ k → Alike l m n
  prefix-least e h = let z : k ≡ _ = omega (arith, p.first, p.second) in subst (Alike l m) z p

  pub prefix-all : length l ≤ k → length m ≤ k → TellsSame l m true
  unfolding same
  prefix-all f g =
      let a : drop k l ≡ [] = drop_of_length-le l {i = k} f in
      let b : drop k m ≡ [] = drop_of_length-le m {i = k} g in
      record { word = rw (p.word, a, b, nothing); string = rw (p.string, a, b, nothing) }

  module _ (f : k < length l) (g : k < length m) (n : get_or l k 0 ≡ 92 → ⊥) (o : get_or m k 0 ≡ 92 → ⊥) where
    one : decode (drop k l) ≡ get_or l k 0 ∷ decode (drop (k + 1) l)
    one = ap decode (next-byte l k f) ∙ plain_byte (get_or l k 0) (drop (k + 1) l) n

    other : decode (drop k m) ≡ get_or m k 0 ∷ decode (drop (k + 1) m)
    other = ap decode (next-byte m k g) ∙ plain_byte (get_or m k 0) (drop (k + 1) m) o

    prefix-more : get_or l k 0 ≡ get_or m k 0 → Alike l m (k + 1)
    unfolding same
    prefix-more e =
        let t : eqb (get_or l k 0) (get_or m k 0) ≡ true = eq-eqb (get_or l k 0) (get_or m k 0) e in
        record {
          first = omega arith;
          second = omega arith;
          word = p.word ∙ rw (next-byte l k f, other, t);
          string = p.string ∙ rw (one, other, t);
        }

    pub prefix-wrong : (get_or l k 0 ≡ get_or m k 0 → ⊥) → TellsSame l m false
    unfolding same
    prefix-wrong e =
        let t : eqb (get_or l k 0) (get_or m k 0) ≡ false = ne_eqb (get_or l k 0) (get_or m k 0) e in
        record { word = rw (p.word, next-byte l k f, other, t); string = rw (p.string, one, other, t) }

  -- the next bytes are alike
  pub prefix-on : k < length l → k < length m → (get_or l k 0 ≡ 92 → ⊥) → get_or l k 0 ≡ get_or m k 0 → Alike l m (k + 1)
  prefix-on f g n e = prefix-more f g n (λ z. n (e ∙ z)) e

-- what is told of two strings of a text
module _ {x : List ℕ} {at end : ℕ} (s : Span x at end) {w : List ℕ} {r : Bool} where
  pub told-word : TellsSame w (take (end - at) (drop at x)) r → r ≡ same w (decode_at x at end)
  unfolding decode_at
  told-word t = rw (taken s) at t.word

-- what follows tells the rest
module _ {x : List ℕ} {at end : ℕ} (s : Span x at end) {k : ℕ} where
  module _ {w : List ℕ} (p : Alike w (take (end - at) (drop at x)) k) where
    pub inside-word : k ≤ end - at
    inside-word = omega (arith, p.second, taken-size s)

    pub rest-word : {r : Bool} → r ≡ same (take (length w - k) (drop k w)) (decode_at x (at + k) end) → r ≡ same w (decode_at x at end)
    unfolding decode_at
    rest-word q = q ∙ ap (λ v. same v (decode (slice (at + k) end x))) (take_rest w k) ∙ sym (ap (λ m. same w (decode m)) (sym (taken s)) ∙ p.word ∙ ap (λ m. same (drop k w) (decode m)) (taken-later s inside-word))

  module _ {at2 end2 : ℕ} (t : Span x at2 end2) (p : Alike (take (end - at) (drop at x)) (take (end2 - at2) (drop at2 x)) k) where
    pub inside-first : k ≤ end - at
    inside-first = omega (arith, p.first, taken-size s)

    pub inside-second : k ≤ end2 - at2
    inside-second = omega (arith, p.second, taken-size t)

    pub rest-string : {r : Bool} → r ≡ same (decode_at x (at + k) end) (decode_at x (at2 + k) end2) → r ≡ same (decode_at x at end) (decode_at x at2 end2)
    unfolding decode_at
    rest-string q =
        let e : same (decode (take (end - at) (drop at x))) (decode (take (end2 - at2) (drop at2 x))) ≡ same (decode (slice (at + k) end x)) (decode (slice (at2 + k) end2 x)) =
        p.string
        ∙ ap (λ l. same (decode l) (decode (drop k (take (end2 - at2) (drop at2 x))))) (taken-later s inside-first)
        ∙ ap (λ m. same (decode (slice (at + k) end x)) (decode m)) (taken-later t inside-second)
        in
        let f : same (decode (slice at end x)) (decode (slice at2 end2 x)) ≡ same (decode (slice (at + k) end x)) (decode (slice (at2 + k) end2 x)) = rw (taken s, taken t) at e in
        q ∙ sym f

pub told-string : {x : List ℕ} {at end at2 end2 : ℕ} → Span x at end → Span x at2 end2 → {r : Bool} → TellsSame (take (end - at) (drop at x)) (take (end2 - at2) (drop at2 x)) r → r ≡ same (decode_at x at end) (decode_at x at2 end2)
unfolding decode_at
told-string s t h = rw (taken s, taken t) at h.string

-- the first bytes of two strings
module _ (x : List ℕ) (at end at2 end2 : ℕ) where
  pub apart_none : end ≤ at → false ≡ begin_apart x at end at2 end2
  unfolding begin_apart
  apart_none l = rw (le-ltb at end l)

  module _ (l : at < end) where
    pub apart-none2 : end2 ≤ at2 → false ≡ begin_apart x at end at2 end2
    unfolding begin_apart
    apart-none2 m = rw (lt-ltb at end l, le-ltb at2 end2 m)

    module _ (m : at2 < end2) where
      pub apart-alike : get_or x at 0 ≡ get_or x at2 0 → false ≡ begin_apart x at end at2 end2
      unfolding begin_apart
      apart-alike e = rw (lt-ltb at end l, lt-ltb at2 end2 m, eq-eqb (get_or x at 0) (get_or x at2 0) e)

      module _ (d : get_or x at 0 ≡ get_or x at2 0 → ⊥) where
        pub apart-slash : get_or x at 0 ≡ 92 → false ≡ begin_apart x at end at2 end2
        unfolding begin_apart
        apart-slash e = rw (lt-ltb at end l, lt-ltb at2 end2 m, ne_eqb (get_or x at 0) (get_or x at2 0) d, eq-eqb (get_or x at 0) 92 e)

        pub apart-second : (get_or x at 0 ≡ 92 → ⊥) → not (eqb (get_or x at2 0) 92) ≡ begin_apart x at end at2 end2
        unfolding begin_apart
        apart-second n = rw (lt-ltb at end l, lt-ltb at2 end2 m, ne_eqb (get_or x at 0) (get_or x at2 0) d, ne_eqb (get_or x at 0) 92 n)
