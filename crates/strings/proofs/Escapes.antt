-- What a backslash begins, and a step of the cursor, from what the code's tests and calls say.
use Prim.Native.Nat.{ℕ, ◌+◌, ◌-◌, ◌≤◌, ◌<◌}
use native.Mathlib.Omega.{arith}
use mathlib.Core.Path.{◌≡◌}
use mathlib.Core.Bool.{false, ◌&&◌}
use mathlib.Core.List.{List, [], ◌∷◌, ◌++◌}
use Rattle.std.specs.Prelude.{Option, None, Some}
use lib.ListN.{get_or}
use Rattle.utf8.specs.Utf8.{encode}
use Rattle.strings.specs.Strings.{unit, escaped, is_high, paired, alone}
use Rattle.strings.specs.Spans.{Span, decode_at}
use Rattle.strings.specs.Parts.{parts_at, unit_at, low_first, Halves, Escapes, IsShort, IsLong}
use Rattle.strings.specs.declared.Escape.{Escape}
use Rattle.strings.specs.declared.Escape.TheVariants.{Short, Long}
use Rattle.strings.proofs.Bytes.{high-under, high-over, high_is, low-under, low-over, low-is, alone-over}
use Rattle.strings.proofs.Pieces.{parts-plain, parts_cut, parts-short, parts-few, parts-unit, no-low, not-high, no-low-first, stands-none, places-none, stands-byte, places-byte, stands_unit, places-unit, stands-pair, places-pair}

-- the second half of a pair
module _ {x : List ℕ} {at end : ℕ} (s : Span x at end) where
  pub half-few : end - at < 6 → Halves x at end None
  unfolding Halves
  half-few h = no-low s h

  module _ (l : 6 ≤ end - at) where
    pub half-plain : (get_or x at 0 ≡ 92 → ⊥) → Halves x at end None
    unfolding Halves low_first
    half-plain n = rw (parts-plain s (omega arith) n)

    module _ (e : get_or x at 0 ≡ 92) where
      pub half-short : (get_or x (at + 1) 0 ≡ 117 → ⊥) → Halves x at end None
      unfolding Halves low_first
      half-short n = rw (parts-short s e (omega arith) n)

      module _ (f : get_or x (at + 1) 0 ≡ 117) {w : ℕ} (v : w ≡ unit_at x (at + 2)) where
        half-here : parts_at x at end ≡ unit at w ∷ parts_at x (at + 6) end
        half-here = rw v (parts-unit s e f (omega arith))

        pub half-under : w < 0xDC00 → Halves x at end None
        unfolding Halves low_first
        half-under h = rw half-here (low-under w h)

        pub half_over : 0xDFFF < w → Halves x at end None
        unfolding Halves low_first
        half_over h = rw half-here (low-over w h)

        pub half_is : 0xDC00 ≤ w → w ≤ 0xDFFF → Halves x at end (Some w)
        unfolding Halves
        half_is a b = record { within = omega arith; least = a; most = b; parts = half-here }

-- an escape that is whole
module _ {x : List ℕ} {at end : ℕ} (s : Span x at end) (l : at + 6 ≤ end) (e : get_or x at 0 ≡ 92) (f : get_or x (at + 1) 0 ≡ 117) {u : ℕ} (v : u ≡ unit_at x (at + 2)) (m : u ≤ 733992) where
  unit-here : parts_at x at end ≡ unit at u ∷ parts_at x (at + 6) end
  unit-here = rw v (parts-unit s e f l)

  long-no-pair : (is_high u && low_first (parts_at x (at + 6) end)) ≡ false → Escapes x at end (Some (Long u (at + 6)))
  unfolding Escapes
  long-no-pair n = record { past = omega arith; within = l; small = omega arith; stands = stands_unit x at end u (at + 6) unit-here n; places = places-unit x at end u (at + 6) unit-here n }

  pub long-under : u < 0xD800 → Escapes x at end (Some (Long u (at + 6)))
  long-under h = long-no-pair (not-high u _ (high-under u h))

  pub long-over : 0xDBFF < u → Escapes x at end (Some (Long u (at + 6)))
  long-over h = long-no-pair (not-high u _ (high-over u h))

  pub long-missing : (r : Option ℕ) → Halves x (at + 6) end r → r ≡ None → Escapes x at end (Some (Long u (at + 6)))
  unfolding Halves
  long-missing r h q = long-no-pair (no-low-first u _ (rw q at h))

  pub long-pair : (r : Option ℕ) (w v : ℕ) → 0xD800 ≤ u → u ≤ 0xDBFF → Halves x (at + 6) end r → r ≡ Some w → v ≡ paired u w → Escapes x at end (Some (Long v (at + 12)))
  unfolding Halves Escapes paired
  long-pair r w v a b h q z =
      let k : Halves x (at + 6) end (Some w) = rw q at h in
      let two : at + 6 + 6 ≡ at + 12 = omega arith in
      let p : parts_at x (at + 6) end ≡ unit (at + 6) w ∷ parts_at x (at + 12) end = rw two at k.parts in
      let n : alone at (paired u w) ≡ [] = alone-over (paired u w) at (omega arith) in
      rw z
      (record {
        past = omega arith;
        within = omega (arith, k.within);
        small = omega (arith, k.least, k.most);
        stands = stands-pair x at end u (at + 6) unit-here w (at + 12) p (high_is u a b) (low-is w k.least k.most);
        places = rw n (places-pair x at end u (at + 6) unit-here w (at + 12) p (high_is u a b) (low-is w k.least k.most));
      })

module _ (x : List ℕ) (at end : ℕ) (r : Option ℕ) (w : ℕ) (h : Halves x at end r) (q : r ≡ Some w) where
  half : Halves x at end (Some w)
  half = rw q at h

  pub half-least : 0xDC00 ≤ w
  unfolding Halves
  half-least = half.least

  pub half-most : w ≤ 0xDFFF
  unfolding Halves
  half-most = half.most

-- any escape
module _ {x : List ℕ} {at end : ℕ} (s : Span x at end) (e : get_or x at 0 ≡ 92) where
  cut : parts_at x at end ≡ [] → Escapes x at end None
  unfolding Escapes
  cut p = record { stands = stands-none x at end p; places = places-none x at end p }

  pub cut-two : at < end → end - at < 2 → Escapes x at end None
  cut-two l h = cut (parts_cut s e l h)

  pub cut-six : 2 ≤ end - at → get_or x (at + 1) 0 ≡ 117 → end - at < 6 → Escapes x at end None
  cut-six l f h = cut (parts-few s e f (omega arith) h)

  pub short-is : (b : ℕ) → 2 ≤ end - at → (get_or x (at + 1) 0 ≡ 117 → ⊥) → b ≡ escaped (get_or x (at + 1) 0) → Escapes x at end (Some (Short b))
  unfolding Escapes
  short-is b l n q =
      let p : parts_at x at end ≡ _ = parts-short s e (omega arith) n in
      rw q (record { within = omega arith; stands = stands-byte x at end _ (at + 2) p; places = places-byte x at end _ (at + 2) p })

-- what is told of an escape, by its kind
module _ {x : List ℕ} {at end : ℕ} (s : Span x at end) (r : Option Escape) (h : Escapes x at end r) where
  pub cut_stands : r ≡ None → decode_at x at end ≡ []
  unfolding Escapes
  cut_stands q = (rw q at h).stands

  module _ (b : ℕ) (q : r ≡ Some (Short b)) where
    pub is-short : IsShort x at end b
    unfolding Escapes
    is-short = rw q at h

    pub short-stands : decode_at x at end ≡ b ∷ decode_at x (at + 2) end
    short-stands = is-short.stands

    pub short-span : Span x (at + 2) end
    short-span = record { low = is-short.within; high = s.high }

    pub short-within : at + 2 ≤ end
    short-within = is-short.within

  module _ (u to : ℕ) (q : r ≡ Some (Long u to)) where
    pub is-long : IsLong x at end u to
    unfolding Escapes
    is-long = rw q at h

    pub long-stands : decode_at x at end ≡ encode u ++ decode_at x to end
    long-stands = is-long.stands

    pub long-span : Span x to end
    long-span = record { low = is-long.within; high = s.high }

    pub long-past : at + 6 ≤ to
    long-past = is-long.past

    pub long-less : end - to < end - at
    long-less = omega (arith, is-long.past, is-long.within)

    pub long-small : u < 0x110000
    long-small = is-long.small
