-- Digits, escapes and characters, from what the code's tests say.
use Prim.Native.Nat.{ℕ, zero, suc, ◌+◌, ◌-◌, ◌*◌, ◌/◌, ◌%◌, ◌≤◌, ◌<◌}
use native.Mathlib.Omega.{arith}
use mathlib.Core.Path.{◌≡◌, refl, ap}
use mathlib.Core.Bool.{true, false}
use mathlib.Core.List.{List, [], ◌∷◌}
use lib.ListN.{get_or}
use borrow.Author.Tests.{ne_eqb, le-leb, lt-leb, lt-ltb, le-ltb}
use Rattle.utf8.specs.Bytes.{le}
use Rattle.utf8.specs.Utf8.{encode, tail}
use Rattle.strings.specs.Strings.{hex_value, escaped, is_high, is_low, alone, paired}
use Rattle.strings.specs.Parts.{unit_at}

-- the value of a digit, r, where w is the byte b as a wider number
module _ (b w : ℕ) (q : w ≡ b) where
  pub hex-digit : (r : ℕ) → b ≤ 57 → r ≡ w - 48 → r ≡ hex_value b
  unfolding hex_value
  hex-digit r h e = rw (e, q, le-leb b 57 h)

  pub hex-upper : 57 < b → b ≤ 70 → w - 55 ≡ hex_value b
  unfolding hex_value
  hex-upper l h = rw (q, lt-leb b 57 l, le-leb b 70 h)

  pub hex-lower : (r : ℕ) → 70 < b → r ≡ w - 87 → r ≡ hex_value b
  unfolding hex_value
  hex-lower r l e = rw (e, q, lt-leb b 57 (omega arith), lt-leb b 70 l)

pub unit-is : (x : List ℕ) (at a b c d : ℕ) → a ≡ hex_value (get_or x at 0) → b ≡ hex_value (get_or x (at + 1) 0) → c ≡ hex_value (get_or x (at + 2) 0) → d ≡ hex_value (get_or x (at + 3) 0)
    → ((a * 16 + b) * 16 + c) * 16 + d ≡ unit_at x at
unfolding unit_at hex_value
unit-is x at a b c d e f g h = rw (e, f, g, h)

pub paired_is : (u w : ℕ) → 0x10000 + (u - 0xD800) * 0x400 + (w - 0xDC00) ≡ paired u w
unfolding paired
paired_is u w = refl

-- what an escape of two bytes stands for
module _ (b : ℕ) where
  pub escaped-b : b ≡ 98 → 8 ≡ escaped b
  unfolding escaped
  escaped-b e = rw e

  pub escaped-f : b ≡ 102 → 12 ≡ escaped b
  unfolding escaped
  escaped-f e = rw e

  pub escaped-n : b ≡ 110 → 10 ≡ escaped b
  unfolding escaped
  escaped-n e = rw e

  pub escaped-r : b ≡ 114 → 13 ≡ escaped b
  unfolding escaped
  escaped-r e = rw e

  pub escaped-t : b ≡ 116 → 9 ≡ escaped b
  unfolding escaped
  escaped-t e = rw e

pub escaped-same : (b : ℕ) → (b ≡ 98 → ⊥) → (b ≡ 102 → ⊥) → (b ≡ 110 → ⊥) → (b ≡ 114 → ⊥) → (b ≡ 116 → ⊥) → b ≡ escaped b
unfolding escaped
escaped-same b h98 h102 h110 h114 h116 = rw (ne_eqb b 98 h98, ne_eqb b 102 h102, ne_eqb b 110 h110, ne_eqb b 114 h114, ne_eqb b 116 h116)

-- surrogates
module _ (u : ℕ) where
  pub high-under : u < 0xD800 → is_high u ≡ false
  unfolding is_high
  high-under h = rw (lt-leb 0xD800 u h)

  pub high-over : 0xDBFF < u → is_high u ≡ false
  unfolding is_high
  high-over h = rw (le-leb 0xD800 u (omega arith), lt-leb u 0xDBFF h)

  pub high_is : 0xD800 ≤ u → u ≤ 0xDBFF → is_high u ≡ true
  unfolding is_high
  high_is l h = rw (le-leb 0xD800 u l, le-leb u 0xDBFF h)

  pub low-under : u < 0xDC00 → is_low u ≡ false
  unfolding is_low
  low-under h = rw (lt-leb 0xDC00 u h)

  pub low-over : 0xDFFF < u → is_low u ≡ false
  unfolding is_low
  low-over h = rw (le-leb 0xDC00 u (omega arith), lt-leb u 0xDFFF h)

  pub low-is : 0xDC00 ≤ u → u ≤ 0xDFFF → is_low u ≡ true
  unfolding is_low
  low-is l h = rw (le-leb 0xDC00 u l, le-leb u 0xDFFF h)

  pub alone-over : (p : ℕ) → 0xDFFF < u → alone p u ≡ []
  unfolding alone
  alone-over p h = rw (le-leb 0xD800 u (omega arith), lt-leb u 0xDFFF h)

-- the bytes of a character, by its size
module _ (u : ℕ) where
  pub encode-1 : u < 0x80 → encode u ≡ u ∷ []
  unfolding encode
  encode-1 h = rw (lt-ltb u 0x80 h)

  pub encode-2 : 0x80 ≤ u → u < 0x800 → encode u ≡ (0xC0 + u / 64) ∷ (0x80 + u % 64) ∷ []
  unfolding encode tail
  encode-2 l h = rw (le-ltb u 0x80 l, lt-ltb u 0x800 h)

  pub encode-3 : 0x800 ≤ u → u < 0x10000 → encode u ≡ (0xE0 + u / 4096) ∷ (0x80 + u / 64 % 64) ∷ (0x80 + u % 64) ∷ []
  unfolding encode tail
  encode-3 l h = rw (le-ltb u 0x80 (omega arith), le-ltb u 0x800 l, lt-ltb u 0x10000 h)

  pub encode-4 : 0x10000 ≤ u → encode u ≡ (0xF0 + u / 262144) ∷ (0x80 + u / 4096 % 64) ∷ (0x80 + u / 64 % 64) ∷ (0x80 + u % 64) ∷ []
  unfolding encode tail
  encode-4 l = rw (le-ltb u 0x80 (omega arith), le-ltb u 0x800 (omega arith), le-ltb u 0x10000 l)

-- bytes that are put together as one number
module _ (f a b c : ℕ) (hf : f < 256) (ha : a < 192) (hb : b < 192) (hc : c < 192) where
  le-2 : le 2 (f + a * 256) ≡ f ∷ a ∷ []
  unfolding le
  le-2 =
      let e : (f + a * 256) % 256 ≡ f = omega arith in
      let g : (f + a * 256) / 256 ≡ a = omega arith in
      let h : a % 256 ≡ a = omega arith in
      rw (e, g, h)

  le-3 : le 3 (f + b * 256 + a * 65536) ≡ f ∷ b ∷ a ∷ []
  unfolding le
  le-3 =
      let e : (f + b * 256 + a * 65536) % 256 ≡ f = omega arith in
      let g : (f + b * 256 + a * 65536) / 256 ≡ b + a * 256 = omega arith in
      let h : (b + a * 256) % 256 ≡ b = omega arith in
      let i : (b + a * 256) / 256 ≡ a = omega arith in
      let j : a % 256 ≡ a = omega arith in
      rw (e, g, h, i, j)

  le-4 : le 4 (f + c * 256 + b * 65536 + a * 16777216) ≡ f ∷ c ∷ b ∷ a ∷ []
  unfolding le
  le-4 =
      let e : (f + c * 256 + b * 65536 + a * 16777216) % 256 ≡ f = omega arith in
      let g : (f + c * 256 + b * 65536 + a * 16777216) / 256 ≡ c + b * 256 + a * 65536 = omega arith in
      let h : (c + b * 256 + a * 65536) % 256 ≡ c = omega arith in
      let i : (c + b * 256 + a * 65536) / 256 ≡ b + a * 256 = omega arith in
      let j : (b + a * 256) % 256 ≡ b = omega arith in
      let k : (b + a * 256) / 256 ≡ a = omega arith in
      let l : a % 256 ≡ a = omega arith in
      rw (e, g, h, i, j, k, l)

-- a character's bytes in a word
module _ (u : ℕ) where
  pub encoded-1 : u < 0x80 → le 1 u ≡ encode u
  unfolding le
  encoded-1 h = let e : u % 256 ≡ u = omega arith in rw (e, encode-1 u h)

  module _ (a : ℕ) (p : a ≡ 0x80 + u % 64) where
    pub encoded-2 : 0x80 ≤ u → u < 0x800 → le 2 (0xC0 + u / 64 + a * 256) ≡ encode u
    encoded-2 l h = rw (p, encode-2 u l h) (le-2 (0xC0 + u / 64) (0x80 + u % 64) 0 0 (omega arith) (omega arith) (omega arith) (omega arith))

    module _ (b : ℕ) (q : b ≡ 0x80 + u / 64 % 64) where
      pub encoded-3 : 0x800 ≤ u → u < 0x10000 → le 3 (0xE0 + u / 4096 + b * 256 + a * 65536) ≡ encode u
      encoded-3 l h = rw (p, q, encode-3 u l h) (le-3 (0xE0 + u / 4096) (0x80 + u % 64) (0x80 + u / 64 % 64) 0 (omega arith) (omega arith) (omega arith) (omega arith))

      pub encoded-4 : (c : ℕ) → c ≡ 0x80 + u / 4096 % 64 → 0x10000 ≤ u → u < 0x110000 → le 4 (0xF0 + u / 262144 + c * 256 + b * 65536 + a * 16777216) ≡ encode u
      encoded-4 c r l h =
          rw (p, q, r, encode-4 u l)
          (le-4 (0xF0 + u / 262144) (0x80 + u % 64) (0x80 + u / 64 % 64) (0x80 + u / 4096 % 64) (omega arith) (omega arith) (omega arith) (omega arith))

pub le-some : (n w : ℕ) → 0 < n → le n w ≡ w % 256 ∷ le (n - 1) (w / 256)
unfolding le
le-some zero w h = absurd (omega arith)
le-some (suc n) w h = let e : n ≡ suc n - 1 = omega arith in ap (λ (m : ℕ). w % 256 ∷ le m (w / 256)) e
