-- Eight bytes as one number (`eight`), and the marks of quotes, backslashes and control bytes among them (`marks`).
use Rattle.std.proofs.Common.{◌≡◌, ℕ, zero, suc, ◌+◌, ◌-◌, ◌*◌, ◌/◌, ◌%◌, ◌^◌, ◌<◌, ◌≤◌, Bool, true, false, ◌&&◌, ◌||◌, eqb, ltb, leb, List, length, get_or, sym, refl, ap, ◌∙◌, ap₂, add-zero, mul_assoc, suc-mul, mul_comm, pow-suc, arith, pow_pos, pow-add, shl_exact, w8, w64, Fits, ltb-true, le-ltb, eqb-true, leb-true}
use native.Mathlib.Nat.{mod-one}
use native.Mathlib.Decide.{dec_lt}
use lib.Arith.{mod-mul, digits_lt}
use lib.Bits.{bit_and, bit_or, bit_xor, and_mod, or_mod, xor_mod, and_shr, or_shr, xor_shr, or_shifted_r}
use lib.Count.{count_trailing_zeros, under, trailing_le}
use lib.Pow.{mod-pow-add}
use Rattle.utf8.specs.Ascii.{ascii}
use Rattle.utf8.specs.Finite.{all_from, each_below}
use Rattle.utf8.specs.Laws.{both_left, both_right, never}
use Rattle.json_text.specs.Says.{Unescaped, byte_at, Eight, Marked, type_start, Typed}

-- the number with k bytes, each of them c
abbrev rep : ℕ → ℕ → ℕ
rep zero c = 0
rep (suc k) c = rep k c * 256 + c

-- 256 to the power k
abbrev pw : ℕ → ℕ
pw zero = 1
pw (suc k) = pw k * 256

pw-pos : (k : ℕ) → 0 < pw k
pw-pos zero = omega arith
pw-pos (suc k) = let h = pw-pos k in omega arith

-- what `marks` gives for k bytes, where its three differences are s, u and v
abbrev marks_of : ℕ → ℕ → ℕ → ℕ → ℕ → ℕ
marks_of k x s u v = bit_and (bit_and (bit_or (bit_or s u) v) (bit_xor x (rep k 255))) (rep k 128)

-- b - d, modulo 256
unfoldable less : ℕ → ℕ → ℕ
less b d = (b + (256 - d)) % 256

-- what `marks` gives for one byte
unfoldable mark : ℕ → ℕ
unfolding less
mark b = bit_and (bit_and (bit_or (bit_or (less (bit_xor b 34) 1) (less (bit_xor b 92) 1)) (less b 32)) (bit_xor b 255)) 128

-- if the byte has no mark, it is none of those that are looked for, and none of the three differences is below 0
unfoldable fine : ℕ → Bool
unfolding mark
fine b = ltb 0 (mark b) || (leb 32 b && (ltb 0 (bit_xor b 34) && ltb 0 (bit_xor b 92)))

-- what is so known of a byte without a mark
record Clear (b : ℕ) : Type 0 where
  pub no-control : 32 ≤ b
  pub some-34 : 1 ≤ bit_xor b 34
  pub some-92 : 1 ≤ bit_xor b 92

-- `fine` is so of every byte, which is computed
clear : (b : ℕ) → b < 256 → mark b ≡ 0 → Clear b
unfolding fine
clear b l e =
    let f : (leb 32 b && (ltb 0 (bit_xor b 34) && ltb 0 (bit_xor b 92))) ≡ true = second (ltb 0 (mark b)) _ (each_below fine 256 b refl l) (le-ltb 0 (mark b) (omega arith)) in
    let g = both_right (leb 32 b) _ f in
    record {
      no-control = leb-true 32 b (both_left (leb 32 b) _ f);
      some-34 = ltb-true 0 (bit_xor b 34) (both_left (ltb 0 (bit_xor b 34)) _ g);
      some-92 = ltb-true 0 (bit_xor b 92) (both_right (ltb 0 (bit_xor b 34)) _ g);
    }
  where
    second : (a b : Bool) → (a || b) ≡ true → a ≡ false → b ≡ true
    second true b h n = absurd (never refl n)
    second false b h n = h

unescaped : (b : ℕ) → Clear b → Unescaped b
unescaped b c = record { no-quote = λ e. quote c.some-34 e; no-backslash = λ e. backslash c.some-92 e; no-control = c.no-control }
  where
    quote : 1 ≤ bit_xor b 34 → b ≡ 34 → ⊥
    quote h e = let z : 1 ≤ 0 = rw e at h in omega arith

    backslash : 1 ≤ bit_xor b 92 → b ≡ 92 → ⊥
    backslash h e = let z : 1 ≤ 0 = rw e at h in omega arith

-- a difference of two numbers of k + 1 bytes: its lowest byte, and the others if nothing is borrowed from them
module _ (k s d y : ℕ) (e : (s + rep (suc k) d) % pw (suc k) ≡ y) where
  parts : (s + rep (suc k) d) / 256 % pw k * 256 + (s + rep (suc k) d) % 256 ≡ y
  parts = sym (mod-mul (s + rep (suc k) d) (pw-pos k) (omega arith)) ∙ e

  minus-low : d ≤ 256 → s % 256 ≡ less (y % 256) d
  unfolding less
  minus-low l = let p = parts in omega arith

  minus-high : d ≤ y % 256 → (s / 256 + rep k d) % pw k ≡ y / 256
  minus-high l =
      let p = parts in
      let n : (s + rep (suc k) d) / 256 ≡ s / 256 + rep k d = omega arith in
      let q : (s + rep (suc k) d) / 256 % pw k ≡ y / 256 = omega arith in
      rw n at q

rep-low : (k c : ℕ) → c < 256 → rep (suc k) c % 256 ≡ c
rep-low k c l = omega arith

rep-high : (k c : ℕ) → c < 256 → rep (suc k) c / 256 ≡ rep k c
rep-high k c l = omega arith

-- what `marks` gives: its lowest byte, and the others
module _ (k x s u v : ℕ) where
  marks-low : s % 256 ≡ less (bit_xor (x % 256) 34) 1 → u % 256 ≡ less (bit_xor (x % 256) 92) 1 → v % 256 ≡ less (x % 256) 32 → marks_of (suc k) x s u v % 256 ≡ mark (x % 256)
  unfolding mark
  marks-low p q r =
      and_mod (bit_and (bit_or (bit_or s u) v) (bit_xor x (rep (suc k) 255))) (rep (suc k) 128) 8
      ∙ ap₂ bit_and
      (and_mod (bit_or (bit_or s u) v) (bit_xor x (rep (suc k) 255)) 8
      ∙ ap₂ bit_and (or_mod (bit_or s u) v 8 ∙ ap₂ bit_or (or_mod s u 8 ∙ ap₂ bit_or p q) r) (xor_mod x (rep (suc k) 255) 8 ∙ ap (bit_xor (x % 256)) (rep-low k 255 (omega arith))))
      (rep-low k 128 (omega arith))

  marks-high : marks_of (suc k) x s u v / 256 ≡ marks_of k (x / 256) (s / 256) (u / 256) (v / 256)
  marks-high =
      and_shr (bit_and (bit_or (bit_or s u) v) (bit_xor x (rep (suc k) 255))) (rep (suc k) 128) 8
      ∙ ap₂ bit_and
      (and_shr (bit_or (bit_or s u) v) (bit_xor x (rep (suc k) 255)) 8
      ∙ ap₂ bit_and (or_shr (bit_or s u) v 8 ∙ ap (λ w. bit_or w (v / 256)) (or_shr s u 8)) (xor_shr x (rep (suc k) 255) 8 ∙ ap (bit_xor (x / 256)) (rep-high k 255 (omega arith))))
      (rep-high k 128 (omega arith))

-- the t lowest bytes are 0
abbrev Zeros : ℕ → ℕ → Type 0
Zeros zero m = Unit
Zeros (suc t) m = (m % 256 ≡ 0) × Zeros t (m / 256)

zeros_of : (t m : ℕ) → m % 2 ^ (t * 8) ≡ 0 → Zeros t m
zeros_of zero m h = tt
zeros_of (suc t) m h =
    let q : m / 256 % 2 ^ (t * 8) * 256 + m % 256 ≡ 0 = sym (mod-pow-add m (t * 8) 8) ∙ (rw (suc-mul t 8) at h) in
    (omega arith, zeros_of t (m / 256) (omega arith))

-- the bits below the lowest one that is set are 0
trailing-low : (t w n : ℕ) → t ≤ count_trailing_zeros w n → n % 2 ^ t ≡ 0
unfolding count_trailing_zeros
trailing-low zero w n h = mod-one n
trailing-low (suc t) zero n h = absurd (omega arith)
trailing-low (suc t) (suc w) n h = by (n % 2) refl h (λ l. trailing-low t w (n / 2) l)
  where
    by : (d : ℕ) → d ≡ n % 2 → suc t ≤ under d (count_trailing_zeros w (n / 2)) → (t ≤ count_trailing_zeros w (n / 2) → n / 2 % 2 ^ t ≡ 0) → n % 2 ^ suc t ≡ 0
    by zero e l rest =
        let z : n / 2 % 2 ^ t ≡ 0 = rest (omega arith) in
        let q : n % 2 ^ suc t ≡ n / 2 % 2 ^ t * 2 + n % 2 = rw (pow-suc 2 t) (mod-mul n (pow_pos t) (omega arith)) in
        omega arith
    by (suc d) e l rest = absurd (omega arith)

-- the lowest of k + 1 bytes, if it has no mark, and then the others
module _ (k x s u v : ℕ) (es : (s + rep (suc k) 1) % pw (suc k) ≡ bit_xor x (rep (suc k) 34)) (eu : (u + rep (suc k) 1) % pw (suc k) ≡ bit_xor x (rep (suc k) 92))
    (ev : (v + rep (suc k) 32) % pw (suc k) ≡ x) where
  xor_low : (c : ℕ) → c < 256 → bit_xor x (rep (suc k) c) % 256 ≡ bit_xor (x % 256) c
  xor_low c l = xor_mod x (rep (suc k) c) 8 ∙ ap (bit_xor (x % 256)) (rep-low k c l)

  xor-high : (c : ℕ) → c < 256 → bit_xor x (rep (suc k) c) / 256 ≡ bit_xor (x / 256) (rep k c)
  xor-high c l = xor_shr x (rep (suc k) c) 8 ∙ ap (bit_xor (x / 256)) (rep-high k c l)

  lowest : marks_of (suc k) x s u v % 256 ≡ 0 → Clear (x % 256)
  lowest h =
      clear (x % 256) (omega arith)
      (sym (marks-low k x s u v
      (minus-low k s 1 _ es (omega arith) ∙ ap (λ w. less w 1) (xor_low 34 (omega arith)))
      (minus-low k u 1 _ eu (omega arith) ∙ ap (λ w. less w 1) (xor_low 92 (omega arith)))
      (minus-low k v 32 _ ev (omega arith)))
      ∙ h)

  module _ (c : Clear (x % 256)) where
    rest-34 : (s / 256 + rep k 1) % pw k ≡ bit_xor (x / 256) (rep k 34)
    rest-34 = minus-high k s 1 _ es (rw (xor_low 34 (omega arith)) c.some-34) ∙ xor-high 34 (omega arith)

    rest-92 : (u / 256 + rep k 1) % pw k ≡ bit_xor (x / 256) (rep k 92)
    rest-92 = minus-high k u 1 _ eu (rw (xor_low 92 (omega arith)) c.some-92) ∙ xor-high 92 (omega arith)

    rest-32 : (v / 256 + rep k 32) % pw k ≡ x / 256
    rest-32 = minus-high k v 32 _ ev c.no-control

-- a byte that has no mark, and none below it has one
marks-clear : (k x s u v : ℕ) → (s + rep k 1) % pw k ≡ bit_xor x (rep k 34) → (u + rep k 1) % pw k ≡ bit_xor x (rep k 92) → (v + rep k 32) % pw k ≡ x → (j : ℕ) → j < k
    → Zeros (suc j) (marks_of k x s u v) → Unescaped (byte_at j x)
unfolding byte_at
marks-clear zero x s u v es eu ev j l z = absurd (omega arith)
marks-clear (suc k) x s u v es eu ev zero l z = unescaped (x % 256) (lowest k x s u v es eu ev z.0)
marks-clear (suc k) x s u v es eu ev (suc j) l z =
    let c = lowest k x s u v es eu ev z.0 in
    marks-clear k (x / 256) (s / 256) (u / 256) (v / 256) (rest-34 k x s u v es eu ev c) (rest-92 k x s u v es eu ev c) (rest-32 k x s u v es eu ev c) j (omega arith)
    (rw (sym (marks-high k x s u v)) z.1)

pub marked : (x s u v : ℕ) → (s + 0x0101_0101_0101_0101) % 2 ^ 64 ≡ bit_xor x 0x2222_2222_2222_2222 → (u + 0x0101_0101_0101_0101) % 2 ^ 64 ≡ bit_xor x 0x5c5c_5c5c_5c5c_5c5c
    → (v + 0x2020_2020_2020_2020) % 2 ^ 64 ≡ x
    → Marked x (bit_and (bit_and (bit_or (bit_or s u) v) (bit_xor x 0xffff_ffff_ffff_ffff)) 0x8080_8080_8080_8080)
marked x s u v es eu ev =
    let m = marks_of 8 x s u v in
    record { below = λ j l. let h = trailing_le 64 m in marks-clear 8 x s u v es eu ev j (omega arith) (zeros_of (suc j) m (trailing-low (suc j * 8) 64 m (omega (arith, suc-mul j 8)))) }

-- a byte above the n bytes of a
module _ (b : ℕ) where
  over : (n : ℕ) → b * 2 ^ (suc n * 8) ≡ b * 2 ^ (n * 8) * 256
  over n = rw (suc-mul n 8, pow-add 2 (n * 8) 8) (sym (mul_assoc b (2 ^ (n * 8)) 256))

  over-high : (n a : ℕ) → (b * 2 ^ (suc n * 8) + a) / 256 ≡ b * 2 ^ (n * 8) + a / 256
  over-high n a = let q = over n in omega arith

  byte-below : (n a j : ℕ) → j < n → byte_at j (b * 2 ^ (n * 8) + a) ≡ byte_at j a
  unfolding byte_at
  byte-below zero a j l = absurd (omega arith)
  byte-below (suc n) a zero l = let q = over n in omega arith
  byte-below (suc n) a (suc j) l = rw (over-high n a) (byte-below n (a / 256) j (omega arith))

  byte-top : b < 256 → (n a : ℕ) → a < 2 ^ (n * 8) → byte_at n (b * 2 ^ (n * 8) + a) ≡ b
  unfolding byte_at
  byte-top h zero a l = omega arith
  byte-top h (suc n) a l =
      let e : 2 ^ (suc n * 8) ≡ 2 ^ (n * 8) * 256 = rw (suc-mul n 8) (pow-add 2 (n * 8) 8) in
      rw (over-high n a) (byte-top h n (a / 256) (omega arith))

-- k + 1 bytes of a text from i on as one number, as `eight` puts them together
abbrev joined : List ℕ → ℕ → ℕ → ℕ
joined text i zero = get_or text i 0
joined text i (suc k) = bit_or (joined text i k) (get_or text (i + suc k) 0 * 2 ^ (suc k * 8) % 2 ^ 64)

module _ (text : List ℕ) (i : ℕ) (bytes : (j : ℕ) → get_or text j 0 < 256) where
  joined-more : (k : ℕ) → k < 7 → joined text i k < 2 ^ (suc k * 8) → joined text i (suc k) ≡ get_or text (i + suc k) 0 * 2 ^ (suc k * 8) + joined text i k
  joined-more k l h =
      ap (bit_or (joined text i k)) (shl_exact 8 (suc k * 8) 64 (bytes (i + suc k)) (omega (arith, suc-mul k 8))) ∙ or_shifted_r (get_or text (i + suc k) 0) (suc k * 8) (joined text i k) h

  joined_small : (k : ℕ) → k < 8 → joined text i k < 2 ^ (suc k * 8)
  joined_small zero l = bytes i
  joined_small (suc k) l =
      let h = joined_small k (omega arith) in
      let d : get_or text (i + suc k) 0 * 2 ^ (suc k * 8) + joined text i k < 256 * 2 ^ (suc k * 8) = digits_lt (bytes (i + suc k)) h in
      rw (joined-more k (omega arith) h, suc-mul (suc k) 8, pow-add 2 (suc k * 8) 8, mul_comm (2 ^ (suc k * 8)) 256) d

  joined-byte : (k j : ℕ) → k < 8 → j ≤ k → byte_at j (joined text i k) ≡ get_or text (i + j) 0
  unfolding byte_at
  joined-byte zero zero l m = let h = bytes i in rw (add-zero i) (omega arith)
  joined-byte zero (suc j) l m = absurd (omega arith)
  joined-byte (suc k) j l m = by (dec_lt j (suc k)) (λ h. joined-byte k j (omega arith) (omega arith))
    where
      small : joined text i k < 2 ^ (suc k * 8)
      small = joined_small k (omega arith)

      by : Dec (j < suc k) → (j < suc k → byte_at j (joined text i k) ≡ get_or text (i + j) 0) → byte_at j (joined text i (suc k)) ≡ get_or text (i + j) 0
      by (yes h) rest = rw (joined-more k (omega arith) small) (byte-below (get_or text (i + suc k) 0) (suc k) (joined text i k) j h ∙ rest h)
      by (no n) rest =
          let e : j ≡ suc k = omega arith in
          rw (e, joined-more k (omega arith) small) (byte-top (get_or text (i + suc k) 0) (bytes (i + suc k)) (suc k) (joined text i k) small)

  pub eight-of : Eight text i (joined text i 7)
  eight-of = record { same = λ j l. joined-byte 7 j (omega arith) (omega arith) }

-- what fits a byte fits the number
pub widen : {n : ℕ} → Fits w8 n → Fits w64 n
widen f = omega arith

-- a number whose bytes are those that `is_type` looks for
unfoldable pub typing : ℕ → Bool
unfolding byte_at ascii
typing n = all_from (λ j. eqb (byte_at j n) (get_or type_start j 0)) 0 8

pub typed : (n : ℕ) → typing n ≡ true → {text : List ℕ} {at x : ℕ} → Eight text at x → 8 ≤ length text - at → Typed text at (eqb x n)
unfolding typing
typed n z {text} {at} {x} e l = record {
  inside = λ q. omega arith;
  same = λ q j h. sym (e.same j h) ∙ rw (eqb-true x n q) (eqb-true _ _ (each_below (λ j. eqb (byte_at j n) (get_or type_start j 0)) 8 j z h));
}

pub untyped : (text : List ℕ) (at : ℕ) → Typed text at false
untyped text at = record { inside = λ q. absurd (never q refl); same = λ q. absurd (never q refl) }
