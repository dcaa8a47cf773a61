-- The pieces of a part of a text, by the bytes at its start.
use Prim.Native.Nat.{ℕ, zero, suc, ◌+◌, ◌-◌, ◌*◌, ◌≤◌, ◌<◌}
use native.Mathlib.Omega.{arith}
use mathlib.Core.Path.{◌≡◌, refl, ap, sym, ◌∙◌}
use mathlib.Core.Bool.{Bool, true, false, cond, ◌&&◌}
use mathlib.Core.List.{List, [], ◌∷◌, ◌++◌, append-nil}
use lib.ListN.{length, get_or}
use lib.Seq.{slice, length-slice}
use lib.Dec.{eqb}
use borrow.Author.Tests.{eq-eqb, ne_eqb}
use Rattle.utf8.specs.Utf8.{encode}
use Rattle.strings.specs.Strings.{Piece, byte, unit, Mark, plain, slash, hex, hex_value, escaped, next, ended, pieces, is_high, is_low, paired, decoded, decode, alone, unpaired, unpaired_from}
use Rattle.strings.specs.Spans.{Span, decode_at, unpaired_at}
use Rattle.strings.specs.Parts.{parts_at, unit_at, low_first}
use Rattle.strings.specs.Laws.{decoded-anywhere, cross, no_byte, onward}

pub decode-parts : (x : List ℕ) (at end : ℕ) → decode_at x at end ≡ decoded (parts_at x at end)
unfolding decode_at decode parts_at
decode-parts x at end = decoded-anywhere 0 at (slice at end x)

pub unpaired-parts : (x : List ℕ) (at end : ℕ) → unpaired_at x at end ≡ unpaired (parts_at x at end)
unfolding unpaired_at unpaired_from parts_at
unpaired-parts x at end = refl

module _ {x : List ℕ} {at end : ℕ} (s : Span x at end) where
  -- the pieces that are begun in the mark k
  step : (k : Mark) → at < end → pieces k at (slice at end x) ≡ ended k at (get_or x at 0) ++ pieces (next k (get_or x at 0)) (at + 1) (slice (at + 1) end x)
  unfolding pieces
  step k l = rw (cross s l)

  pub parts-end : end ≤ at → parts_at x at end ≡ []
  unfolding parts_at pieces
  parts-end l = rw (no_byte s l)

  pub parts-plain : at < end → (get_or x at 0 ≡ 92 → ⊥) → parts_at x at end ≡ byte (get_or x at 0) ∷ parts_at x (at + 1) end
  unfolding parts_at ended next
  parts-plain l n = rw (step plain l, ne_eqb (get_or x at 0) 92 n)

  onto-slash : at < end → get_or x at 0 ≡ 92 → parts_at x at end ≡ pieces slash (at + 1) (slice (at + 1) end x)
  unfolding parts_at ended next
  onto-slash l e = rw (step plain l, eq-eqb (get_or x at 0) 92 e)

  slash-other : at < end → (get_or x at 0 ≡ 117 → ⊥) → pieces slash at (slice at end x) ≡ byte (escaped (get_or x at 0)) ∷ parts_at x (at + 1) end
  unfolding parts_at ended next
  slash-other l n = rw (step slash l, ne_eqb (get_or x at 0) 117 n)

  slash-u : at < end → get_or x at 0 ≡ 117 → pieces slash at (slice at end x) ≡ pieces (hex 3 0) (at + 1) (slice (at + 1) end x)
  unfolding ended next
  slash-u l e = rw (step slash l, eq-eqb (get_or x at 0) 117 e)

  digit : (j u : ℕ) → at < end → pieces (hex (suc j) u) at (slice at end x) ≡ pieces (hex j (u * 16 + hex_value (get_or x at 0))) (at + 1) (slice (at + 1) end x)
  unfolding ended next
  digit j u l = step (hex (suc j) u) l

  last-digit : (u : ℕ) → at < end → pieces (hex zero u) at (slice at end x) ≡ unit (at - 5) (u * 16 + hex_value (get_or x at 0)) ∷ parts_at x (at + 1) end
  unfolding ended next parts_at
  last-digit u l = step (hex zero u) l

-- too few digits
few-digits : (s : List ℕ) (j u n : ℕ) → length s ≤ j → pieces (hex j u) n s ≡ []
unfolding pieces ended next
few-digits [] j u n h = refl
few-digits (b ∷ s) zero u n h = absurd (omega arith)
few-digits (b ∷ s) (suc j) u n h = few-digits s j (u * 16 + hex_value b) (n + 1) (omega arith)

module _ {x : List ℕ} {at end : ℕ} (s : Span x at end) (e : get_or x at 0 ≡ 92) where
  pub parts_cut : at < end → end - at < 2 → parts_at x at end ≡ []
  unfolding pieces
  parts_cut l h = rw (onto-slash s l e, no_byte (onward s l) (omega arith))

  pub parts-short : at + 1 < end → (get_or x (at + 1) 0 ≡ 117 → ⊥) → parts_at x at end ≡ byte (escaped (get_or x (at + 1) 0)) ∷ parts_at x (at + 2) end
  parts-short l n =
      let two : at + 1 + 1 ≡ at + 2 = omega arith in
      let there : at < end = omega arith in
      onto-slash s there e ∙ (slash-other (onward s there) l n ∙ rw two)

  module _ (f : get_or x (at + 1) 0 ≡ 117) where
    onto-hex : at + 1 < end → parts_at x at end ≡ pieces (hex 3 0) (at + 2) (slice (at + 2) end x)
    onto-hex l =
        let two : at + 1 + 1 ≡ at + 2 = omega arith in
        let there : at < end = omega arith in
        onto-slash s there e ∙ (slash-u (onward s there) l f ∙ rw two)

    pub parts-few : at + 1 < end → end - at < 6 → parts_at x at end ≡ []
    parts-few l h = onto-hex l ∙ few-digits _ 3 0 (at + 2) (rw (length-slice (at + 2) end x s.high) (omega arith))

    pub parts-unit : at + 6 ≤ end → parts_at x at end ≡ unit at (unit_at x (at + 2)) ∷ parts_at x (at + 6) end
    unfolding unit_at hex_value
    parts-unit l =
        let s2 : Span x (at + 2) end = record { low = omega arith; high = s.high } in
        let s3 : Span x (at + 2 + 1) end = record { low = omega arith; high = s.high } in
        let s4 : Span x (at + 2 + 1 + 1) end = record { low = omega arith; high = s.high } in
        let s5 : Span x (at + 2 + 1 + 1 + 1) end = record { low = omega arith; high = s.high } in
        let e4 : at + 2 + 2 ≡ at + 2 + 1 + 1 = omega arith in
        let e5 : at + 2 + 3 ≡ at + 2 + 1 + 1 + 1 = omega arith in
        let e6 : at + 6 ≡ at + 2 + 1 + 1 + 1 + 1 = omega arith in
        let p : at + 2 + 1 + 1 + 1 - 5 ≡ at = omega arith in
        let z : 0 * 16 + hex_value (get_or x (at + 2) 0) ≡ hex_value (get_or x (at + 2) 0) = omega arith in
        rw (e4, e5, e6)
        (onto-hex (omega arith) ∙ (digit s2 2 0 (omega arith) ∙ (digit s3 1 _ (omega arith) ∙ (digit s4 0 _ (omega arith) ∙ (last-digit s5 _ (omega arith) ∙ rw (p, z))))))

-- fewer than six bytes are no unit
few-hex : (s : List ℕ) (c : Bool) (n b : ℕ) → length s < 4 → low_first (cond c [] (byte b ∷ []) ++ pieces (cond c (hex 3 0) plain) n s) ≡ false
unfolding low_first
few-hex s true n b h = rw (few-digits s 3 0 n (omega arith))
few-hex s false n b h = refl

few-slash : (s : List ℕ) (n : ℕ) → length s < 5 → low_first (pieces slash n s) ≡ false
unfolding low_first pieces ended next
few-slash [] n h = refl
few-slash (b ∷ s) n h = few-hex s (eqb b 117) (n + 1) (escaped b) (omega arith)

few-if : (s : List ℕ) (c : Bool) (n b : ℕ) → length s < 5 → low_first (cond c [] (byte b ∷ []) ++ pieces (cond c slash plain) n s) ≡ false
unfolding low_first
few-if s true n b h = few-slash s n h
few-if s false n b h = refl

few-plain : (s : List ℕ) (n : ℕ) → length s < 6 → low_first (pieces plain n s) ≡ false
unfolding low_first pieces ended next
few-plain [] n h = refl
few-plain (b ∷ s) n h = few-if s (eqb b 92) (n + 1) b (omega arith)

pub no-low : {x : List ℕ} {at end : ℕ} → Span x at end → end - at < 6 → low_first (parts_at x at end) ≡ false
unfolding parts_at
no-low {x} {at} {end} s h = few-plain (slice at end x) at (rw (length-slice at end x s.high) h)

-- a unit that is not the first half of a pair
and_no : (c : Bool) → (c && false) ≡ false
and_no true = refl
and_no false = refl

case-no : (c : Bool) (s t : List ℕ) → c ≡ false → ◌≡◌ {A = List ℕ} (elim c [ true ↦ s | false ↦ t ]) t
case-no c s t e = rw e

case-yes : (c d : Bool) (s t : List ℕ) → c ≡ true → d ≡ true → ◌≡◌ {A = List ℕ} (elim (c && d) [ true ↦ s | false ↦ t ]) s
case-yes c d s t e f = rw (e, f)

module _ (p u : ℕ) where
  decoded-no-pair : (ps : List Piece) → (is_high u && low_first ps) ≡ false → decoded (unit p u ∷ ps) ≡ encode u ++ decoded ps
  unfolding decoded low_first
  decoded-no-pair [] e = sym (append-nil (encode u))
  decoded-no-pair (byte b ∷ ps) e = refl
  decoded-no-pair (unit q w ∷ ps) e = case-no (is_high u && is_low w) _ _ e

  unpaired-no-pair : (ps : List Piece) → (is_high u && low_first ps) ≡ false → unpaired (unit p u ∷ ps) ≡ alone p u ++ unpaired ps
  unfolding unpaired low_first
  unpaired-no-pair [] e = sym (append-nil (alone p u))
  unpaired-no-pair (byte b ∷ ps) e = refl
  unpaired-no-pair (unit q w ∷ ps) e = case-no (is_high u && is_low w) _ _ e

  module _ (q w : ℕ) (ps : List Piece) (h : is_high u ≡ true) (l : is_low w ≡ true) where
    decoded-pair : decoded (unit p u ∷ unit q w ∷ ps) ≡ encode (paired u w) ++ decoded ps
    unfolding decoded
    decoded-pair = case-yes (is_high u) (is_low w) _ _ h l

    unpaired-pair : unpaired (unit p u ∷ unit q w ∷ ps) ≡ unpaired ps
    unfolding unpaired
    unpaired-pair = case-yes (is_high u) (is_low w) _ _ h l

-- the same, at an offset
module _ (x : List ℕ) (at end : ℕ) where
  module _ (e : parts_at x at end ≡ []) where
    pub stands-none : decode_at x at end ≡ []
    unfolding decoded
    stands-none = decode-parts x at end ∙ rw e

    pub places-none : unpaired_at x at end ≡ []
    unfolding unpaired
    places-none = unpaired-parts x at end ∙ rw e

  module _ (b m : ℕ) (e : parts_at x at end ≡ byte b ∷ parts_at x m end) where
    pub stands-byte : decode_at x at end ≡ b ∷ decode_at x m end
    unfolding decoded
    stands-byte = decode-parts x at end ∙ (ap decoded e ∙ rw (decode-parts x m end))

    pub places-byte : unpaired_at x at end ≡ unpaired_at x m end
    unfolding unpaired
    places-byte = unpaired-parts x at end ∙ (ap unpaired e ∙ rw (unpaired-parts x m end))

  module _ (u m : ℕ) (e : parts_at x at end ≡ unit at u ∷ parts_at x m end) where
    module _ (n : (is_high u && low_first (parts_at x m end)) ≡ false) where
      pub stands_unit : decode_at x at end ≡ encode u ++ decode_at x m end
      stands_unit = decode-parts x at end ∙ (ap decoded e ∙ (decoded-no-pair at u _ n ∙ rw (decode-parts x m end)))

      pub places-unit : unpaired_at x at end ≡ alone at u ++ unpaired_at x m end
      places-unit = unpaired-parts x at end ∙ (ap unpaired e ∙ (unpaired-no-pair at u _ n ∙ rw (unpaired-parts x m end)))

    module _ (w k : ℕ) (f : parts_at x m end ≡ unit m w ∷ parts_at x k end) (h : is_high u ≡ true) (l : is_low w ≡ true) where
      pub stands-pair : decode_at x at end ≡ encode (paired u w) ++ decode_at x k end
      stands-pair = decode-parts x at end ∙ (ap decoded e ∙ (ap (λ (ps : List Piece). decoded (unit at u ∷ ps)) f ∙ (decoded-pair at u m w _ h l ∙ rw (decode-parts x k end))))

      pub places-pair : unpaired_at x at end ≡ unpaired_at x k end
      places-pair = unpaired-parts x at end ∙ (ap unpaired e ∙ (ap (λ (ps : List Piece). unpaired (unit at u ∷ ps)) f ∙ (unpaired-pair at u m w _ h l ∙ rw (unpaired-parts x k end))))

pub not-high : (u : ℕ) (ps : List Piece) → is_high u ≡ false → (is_high u && low_first ps) ≡ false
not-high u ps e = rw e

pub no-low-first : (u : ℕ) (ps : List Piece) → low_first ps ≡ false → (is_high u && low_first ps) ≡ false
no-low-first u ps e = rw e (and_no (is_high u))
