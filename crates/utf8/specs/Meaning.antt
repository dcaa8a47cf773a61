-- What `whole_length` means: that many bytes are whole characters, and no longer prefix is.
use Rattle.std.specs.Prelude.{ℕ, zero, suc, ◌+◌, ◌≤◌, ◌<◌, ◌≡◌, refl, true, List, ◌++◌, length, take, drop}
use Rattle.std.proofs.Common.{arith, eq-zero-or-pos, sym, ◌∙◌, ap, append_assoc, ⊎_elim, length-append, length-drop, take-append-drop, take-add, length-take-le}
use Rattle.std.proofs.Math.Seq.{take-append_seam, drop-append_seam}
use Rattle.utf8.specs.Utf8.{is_character, encode, Whole, number, size, whole_length}
use Rattle.utf8.specs.Utf8.Whole.{nil, next}
use Rattle.utf8.specs.Laws.{Form, form, written-encode, written-character, written-bytes, size_is, size-within, size-written, whole-stop, whole-on}
use Rattle.utf8.specs.Laws.Form.{one, two, three, four}

-- by induction on a bound f of the text's length: what is counted is within the text, and whole
record Good (t : List ℕ) : Type 0 where
  within : whole_length t ≤ length t
  whole : Whole (take (whole_length t) t)

stops : (t : List ℕ) → whole_length t ≡ 0 → Good t
stops t e = record { within = omega arith; whole = rw e nil }

goes_on : (t : List ℕ) → 0 < size t → Good (drop (size t) t) → Good t
goes_on t h g =
    let n = size t in
    let e = whole-on t n h refl in
    let w = size-written t h in
    record {
      within = omega (arith, e, g.within, length-drop n t, size-within t);
      whole =
          rw e
          (next (number (take n t)) (written-character (take n t) w)
          (take-add n (whole_length (drop n t)) t ∙ ap (λ x. x ++ take (whole_length (drop n t)) (drop n t)) (sym (written-bytes (take n t) w))) g.whole);
    }

good : (f : ℕ) (t : List ℕ) → length t ≤ f → Good t
good zero t h = stops t (whole-stop t (omega (arith, size-within t)))
good (suc f) t h =
    ⊎_elim (λ z. stops t (whole-stop t z))
    (λ p. goes_on t p (good f (drop (size t) t) (omega (arith, length-drop (size t) t))))
    (eq-zero-or-pos (size t))

-- a character has one to four bytes
length-encode : (c : ℕ) → Form c → (0 < length (encode c)) × (length (encode c) < 5)
length-encode c (one l e) = rw e (omega arith)
length-encode c (two l k e) = rw e (omega arith)
length-encode c (three l k e) = rw e (omega arith)
length-encode c (four l e) = rw e (omega arith)

-- a text that begins with a character: its bytes are found, and the text goes on after it
module _ (c : ℕ) (h : is_character c ≡ true) (s : List ℕ) where
  pub size-starts : size (encode c ++ s) ≡ length (encode c)
  size-starts =
      size_is (encode c ++ s) (length (encode c)) (length-encode c (form c)).1 (omega (arith, length-append (encode c) s))
      (rw take-append_seam (written-encode c h))

  starts : whole_length (encode c ++ s) ≡ length (encode c) + whole_length s
  starts =
      whole-on (encode c ++ s) (length (encode c)) (length-encode c (form c)).0 size-starts
      ∙ ap (λ x. length (encode c) + whole_length x) (drop-append_seam (encode c) s)

-- whole characters that a text begins with are counted
counted : {x : List ℕ} → Whole x → (y : List ℕ) → length x ≤ whole_length (x ++ y)
counted nil y = omega arith
counted (next c {s} {x} h e w) y =
    rw (e, append_assoc, starts c h (s ++ y)) (omega (arith, length-append (encode c) s, counted w y))

-- the first `whole_length t` bytes are a sequence of characters
pub whole-prefix : (t : List ℕ) → Whole (take (whole_length t) t)
whole-prefix t = (good (length t) t (omega arith)).whole

-- a prefix that is a sequence of characters has at most that many bytes
pub none-longer : (t : List ℕ) (n : ℕ) → n ≤ length t → Whole (take n t) → n ≤ whole_length t
none-longer t n h w = omega (arith, length-take-le n t h, counted w (drop n t), ap whole_length (take-append-drop n t))

-- the text has at least that many bytes
pub within : (t : List ℕ) → whole_length t ≤ length t
within t = (good (length t) t (omega arith)).within
