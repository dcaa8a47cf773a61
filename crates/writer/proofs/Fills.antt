-- What the stores of the functions leave: numbers, strings.
use Rattle.std.specs.Prelude.{◌≡◌, refl, List, ◌∷◌, ℕ, zero, suc, ◌+◌, ◌-◌, ◌*◌, ◌/◌, ◌%◌, ◌^◌, ◌≤◌, ◌<◌, length, take, drop}
use Rattle.std.specs.Int.{w64, byte_at, bytes_low_first, to_le_bytes}
use Rattle.std.proofs.Common.{sym, ap, ◌∙◌, arith, pow-suc, div-one, append_assoc}
use Rattle.std.proofs.Math.Nat.{pow-zero, div-div-eq-div-mul}
use Rattle.std.proofs.Math.Seq.{length-sets}
use Rattle.std.proofs.lemmas.List.Edits.{sets, sets-eq, paste_all}
use Rattle.std.proofs.lemmas.Slice.{put_mid-paste}
use borrow.Rule.Slice.PartMut.{put_mid}
use Rattle.utf8.specs.Bytes.{le}
use Rattle.model.proofs.Weigh.{length-le}
use Rattle.strings.specs.Spans.{Span, decode_at, Copied}
use Rattle.strings.specs.Laws.{decode_at-short}
use Rattle.writer.specs.Writes.{Writes, Stores, Skips}

-- ---- bytes

pub size-le : (w n : ℕ) → w ≡ length (le w n)
size-le w n = sym (length-le w n)

-- they do not fit
pub no_room : {ws d : List ℕ} {n at end : ℕ} → n ≡ length ws → Skips n at end → length d < end → Stores ws d d at end
no_room e s h = record {
  writes = record {
    ends = omega (arith, s.ends);
    onward = s.onward;
    room = refl;
    wrote = λ fits low. absurd (omega (arith, s.ends));
  };
  kept = λ over. refl;
}

-- they fit
fitting : {ws d₀ d : List ℕ} {n at end r : ℕ} → n ≡ length ws → Skips n at end → end ≤ length d₀ → length d₀ * 1 < 2 ^ 63 → Writes ws d₀ d at r → Stores ws d₀ d at r
fitting e s h l w = record { writes = w; kept = λ over. absurd (omega (arith, s.ends)) }

-- the low bytes of a number, of those that `to_le_bytes` gives
byte-is : (i n : ℕ) → byte_at i n ≡ n / 256 ^ i % 256
byte-is zero n = rw (pow-zero, div-one) refl
byte-is (suc i) n = refl

low-bytes : (i w n : ℕ) → bytes_low_first i w n ≡ le w (n / 256 ^ i)
unfolding le
low-bytes i zero n = refl
low-bytes i (suc w) n =
    let p : n / 256 ^ i / 256 ≡ n / 256 ^ suc i = rw (pow-suc, ← div-div-eq-div-mul) refl in
    rw (p, byte-is i n) (ap (λ l. n / 256 ^ i % 256 ∷ l) (low-bytes (suc i) w n))

take-le : (v w n : ℕ) → v ≤ w → take v (le w n) ≡ le v n
unfolding le
take-le zero w n h = refl
take-le (suc v) zero n h = absurd (omega arith)
take-le (suc v) (suc w) n h = ap (λ l. n % 256 ∷ l) (take-le v w (n / 256) (omega arith))

-- bytes copied to their place
pub placed : (w n : ℕ) {d₀ ys bs : List ℕ} {at end : ℕ} → w ≤ 8 → Skips w at end → end ≤ length d₀ → length d₀ * 1 < 2 ^ 63 → bs ≡ to_le_bytes w64 n → ys ≡ take w bs
    → Stores (le w n) d₀ (put_mid at (end - at) d₀ ys) at end
placed w n {d₀} {ys} {bs} {at} {end} m s h l e y =
    let k = length-le w n in
    let b : bs ≡ le 8 n = e ∙ low-bytes 0 8 n ∙ ap (le 8) (rw (pow-zero, div-one) refl) in
    let z : ys ≡ le w n = y ∙ ap (take w) b ∙ take-le w 8 n m in
    let ws = le w n in
    let p : put_mid at (end - at) d₀ ys ≡ sets d₀ at ws =
    put_mid-paste at (end - at) d₀ ys ws (length ws) z (omega (arith, k, s.ends, s.onward)) refl
    ∙ paste_all d₀ at ws (length ws) refl ∙ sym (append_assoc (take at d₀) ws (drop (at + length ws) d₀)) ∙ sym (sets-eq ws d₀ at (omega (arith, k, s.ends))) in
    fitting (sym k) s h l (record { ends = omega (arith, s.ends); onward = s.onward; room = ap length p ∙ length-sets d₀ at (le w n); wrote = λ fits low. p })

-- a string
pub copied : {ws d₀ d : List ℕ} {n at end r : ℕ} → n ≡ length ws → Skips n at end → end ≤ length d₀ → length d₀ * 1 < 2 ^ 63 → Copied ws d₀ d at r → length d ≡ length d₀ → Stores ws d₀ d at r
copied e s h l c k =
    fitting e s h l
    (record { ends = omega (arith, c.answer); onward = omega (arith, c.answer); room = k; wrote = λ fits low. c.contents ∙ sym (sets-eq _ _ _ fits) })

pub short : (x : List ℕ) (from to n : ℕ) → Span x from to → length x * 1 < 2 ^ 63 → n ≡ length (decode_at x from to) → n < 2 ^ 63
short x from to n s l e = omega (arith, decode_at-short x from to s.high)
