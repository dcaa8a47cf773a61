-- Laws of decoding: where a string stands does not change what it stands for; it stands for no more bytes than it has; strings that begin apart do not
-- stand for the same bytes; the places of its unpaired surrogates are in increasing order, and there are none where no byte is a backslash.
use Rattle.std.specs.Prelude.{ℕ, zero, suc, ◌+◌, ◌-◌, ◌*◌, ◌≤◌, ◌<◌, ◌≡◌, refl, Bool, true, false, cond, not, ◌&&◌, ◌||◌, None, Some, ⊤, length, get_or, take, drop, eqb, leb, ltb}
use Rattle.std.proofs.Common.{add-one, arith, sym, ◌∙◌, subst, ⊎_elim, length-append, take-append-drop, drop_of_length-le, length-take-le, ltb-true, ne_eqb}
use Rattle.std.proofs.Math.Path.{ap}
use mathlib.Core.List.Memᴰ
use mathlib.Core.List.{List, [], ◌∷◌, ◌++◌, append-nil, Memᴰ}
use Rattle.std.proofs.Math.Seq.{slice, slice-cons, length-slice, drop-drop}
use Rattle.std.proofs.lemmas.Bool.{not-true, eqb-false}
use Rattle.std.proofs.lemmas.List.{drop-take, length-take, length-drop}
use Rattle.std.specs.Iterator.{YieldsFirst, MakesProgress, at_most}
use Rattle.utf8.specs.Bytes.{le}
use Rattle.utf8.specs.Utf8.{encode, same}
use Rattle.utf8.specs.Laws.{clash, both_left, both_right, neither}
use Rattle.strings.specs.Spans.{Span, decode_at, unpaired_at, first_of, has_byte, begin_apart}
use Rattle.strings.specs.Ahead.{ahead, away}
use Rattle.strings.specs.declared.decoder.Decoder.{Decoder}
use Rattle.strings.specs.Strings.{Piece, byte, unit, Mark, plain, slash, hex, hex_value, escaped, next, ended, pieces, is_high, is_low, paired, decoded, decode, alone, unpaired, unpaired_from}

-- the pieces with no places
unfoldable unplaced : List Piece → List Piece
unplaced [] = []
unplaced (byte b ∷ ps) = byte b ∷ unplaced ps
unplaced (unit p u ∷ ps) = unit 0 u ∷ unplaced ps

unplaced-append : (ps qs : List Piece) → unplaced (ps ++ qs) ≡ unplaced ps ++ unplaced qs
unfolding unplaced
unplaced-append [] qs = refl
unplaced-append (byte b ∷ ps) qs = rw (unplaced-append ps qs)
unplaced-append (unit p u ∷ ps) qs = rw (unplaced-append ps qs)

unplaced-ended : (k : Mark) (n m b : ℕ) → unplaced (ended k n b) ≡ unplaced (ended k m b)
unfolding unplaced ended
unplaced-ended plain n m b = refl
unplaced-ended slash n m b = refl
unplaced-ended (hex zero u) n m b = refl
unplaced-ended (hex (suc j) u) n m b = refl

unplaced-pieces : (k : Mark) (n m : ℕ) (s : List ℕ) → unplaced (pieces k n s) ≡ unplaced (pieces k m s)
unfolding pieces
unplaced-pieces k n m [] = refl
unplaced-pieces k n m (b ∷ s) =
    unplaced-append (ended k n b) _ ∙ (rw (unplaced-ended k n m b, unplaced-pieces (next k b) (n + 1) (m + 1) s) (sym (unplaced-append (ended k m b) _)))

by_cases : (c : Bool) {a a' b b' : List ℕ} → a ≡ a' → b ≡ b' → ◌≡◌ {A = List ℕ} (elim c [ true ↦ a | false ↦ b ]) (elim c [ true ↦ a' | false ↦ b' ])
by_cases true p q = p
by_cases false p q = q

decoded-unplaced : (ps : List Piece) → decoded ps ≡ decoded (unplaced ps)
unfolding decoded unplaced
decoded-unplaced [] = refl
decoded-unplaced (byte b ∷ ps) = rw (decoded-unplaced ps)
decoded-unplaced (unit p u ∷ []) = refl
decoded-unplaced (unit p u ∷ byte b ∷ ps) = rw (decoded-unplaced ps)
decoded-unplaced (unit p u ∷ unit q w ∷ ps) =
    by_cases (is_high u && is_low w) (ap (λ (l : List ℕ). encode (paired u w) ++ l) (decoded-unplaced ps))
    (ap (λ (l : List ℕ). encode u ++ l) (decoded-unplaced (unit q w ∷ ps)))

-- where the bytes stand does not matter
pub decoded-anywhere : (n m : ℕ) (s : List ℕ) → decoded (pieces plain n s) ≡ decoded (pieces plain m s)
decoded-anywhere n m s = decoded-unplaced (pieces plain n s) ∙ (ap decoded (unplaced-pieces plain n m s) ∙ sym (decoded-unplaced (pieces plain m s)))

few-if : (c : Bool) (s t : List ℕ) → length s ≤ 4 → length t ≤ 4 → length (cond c s t) ≤ 4
few-if true s t p q = p
few-if false s t p q = q

-- a character is written as four bytes at most
pub encode-few : (u : ℕ) → length (encode u) ≤ 4
unfolding encode
encode-few u = few-if (ltb u 0x80) _ _ (omega arith) (few-if (ltb u 0x800) _ _ (omega arith) (few-if (ltb u 0x10000) _ _ (omega arith) (omega arith)))

-- how many bytes of a text a piece takes at least
unfoldable weight : List Piece → ℕ
weight [] = 0
weight (byte b ∷ ps) = 1 + weight ps
weight (unit p u ∷ ps) = 6 + weight ps

weight-none : weight [] ≡ 0
unfolding weight
weight-none = refl

weight-append : (ps qs : List Piece) → weight (ps ++ qs) ≡ weight ps + weight qs
unfolding weight
weight-append [] qs = omega arith
weight-append (byte b ∷ ps) qs = omega (arith, weight-append ps qs)
weight-append (unit p u ∷ ps) qs = omega (arith, weight-append ps qs)

-- the bytes of the piece that is begun
unfoldable begun : Mark → ℕ
begun plain = 0
begun slash = 1
begun (hex j u) = 5 - j

grows-if : (c : Bool) (n b : ℕ) (k : Mark) → begun k ≤ n + 1 → weight (cond c [] (byte b ∷ [])) + begun (cond c k plain) ≤ n + 1
unfolding weight begun
grows-if true n b k h = omega arith
grows-if false n b k h = omega arith

grows : (k : Mark) (n b : ℕ) → weight (ended k n b) + begun (next k b) ≤ begun k + 1
unfolding weight begun ended next
grows plain n b = grows-if (eqb b 92) 0 b slash (omega arith)
grows slash n b = grows-if (eqb b 117) 1 (escaped b) (hex 3 0) (omega arith)
grows (hex zero u) n b = omega arith
grows (hex (suc j) u) n b = omega arith

weight-pieces : (k : Mark) (n : ℕ) (s : List ℕ) → weight (pieces k n s) ≤ begun k + length s
unfolding pieces
weight-pieces k n [] = let z : weight [] ≡ 0 = weight-none in omega arith
weight-pieces k n (b ∷ s) = omega (arith, weight-append (ended k n b) (pieces (next k b) (n + 1) s), grows k n b, weight-pieces (next k b) (n + 1) s)

length-by-cases : (c : Bool) (s t : List ℕ) (n : ℕ) → length s ≤ n → length t ≤ n → length {A = ℕ} (elim c [ true ↦ s | false ↦ t ]) ≤ n
length-by-cases true s t n p q = p
length-by-cases false s t n p q = q

length-decoded : (ps : List Piece) → length (decoded ps) ≤ weight ps
unfolding decoded weight
length-decoded [] = omega arith
length-decoded (byte b ∷ ps) = omega (arith, length-decoded ps)
length-decoded (unit p u ∷ []) = omega (arith, encode-few u)
length-decoded (unit p u ∷ byte b ∷ ps) = omega (arith, encode-few u, length-append (encode u) (b ∷ decoded ps), length-decoded ps)
length-decoded (unit p u ∷ unit q w ∷ ps) =
    length-by-cases (is_high u && is_low w) _ _ _ (omega (arith, encode-few (paired u w), length-append (encode (paired u w)) (decoded ps), length-decoded ps))
    (omega (arith, encode-few u, length-append (encode u) (decoded (unit q w ∷ ps)), length-decoded (unit q w ∷ ps)))

-- a string stands for no more bytes than it has
pub decode-short : (raw : List ℕ) → length (decode raw) ≤ length raw
unfolding decode begun
decode-short raw = omega (arith, length-decoded (pieces plain 0 raw), weight-pieces plain 0 raw)

-- the same of a string of a text
pub decode_at-short : (x : List ℕ) (at end : ℕ) → end ≤ length x → length (decode_at x at end) ≤ end - at
unfolding decode_at
decode_at-short x at end h = omega (arith, decode-short (slice at end x), length-slice at end x h)

-- what a string stands for, by the byte at its start
pub plain_byte : (b : ℕ) (s : List ℕ) → (b ≡ 92 → ⊥) → decode (b ∷ s) ≡ b ∷ decode s
unfolding decode pieces ended next decoded
plain_byte b s n = rw (ne_eqb b 92 n, decoded-anywhere 1 0 s)

module _ {x : List ℕ} {at end : ℕ} (s : Span x at end) where
  pub cross : at < end → slice at end x ≡ get_or x at 0 ∷ slice (at + 1) end x
  cross l = rw (add-one at) (slice-cons at end x 0 l s.high)

  pub no_byte : end ≤ at → slice at end x ≡ []
  no_byte l = drop_of_length-le (take end x) {i = at} (rw (length-take-le end x s.high) l)

  pub onward : at < end → Span x (at + 1) end
  onward l = record { low = omega arith; high = s.high }

  pub at_plain : at < end → (get_or x at 0 ≡ 92 → ⊥) → decode_at x at end ≡ get_or x at 0 ∷ decode_at x (at + 1) end
  unfolding decode_at
  at_plain l n = ap decode (cross l) ∙ plain_byte (get_or x at 0) (slice (at + 1) end x) n

  pub at-end : end ≤ at → decode_at x at end ≡ []
  unfolding decode_at decode pieces decoded
  at-end l = ap decode (no_byte l)

-- the bytes of a string, as code takes them out of the text
pub taken : {x : List ℕ} {at end : ℕ} → Span x at end → take (end - at) (drop at x) ≡ slice at end x
taken {x} {at} {end} s = let e : at + (end - at) ≡ end = omega (arith, s.low) in sym (drop-take at (end - at) x) ∙ rw e

-- as many as there are
pub taken-size : {x : List ℕ} {at end : ℕ} → Span x at end → length (take (end - at) (drop at x)) ≡ end - at
taken-size s = rw (length-take, length-drop) (omega (arith, s.low, s.high))

-- what is left of them after the first k
pub taken-later : {x : List ℕ} {at end k : ℕ} → Span x at end → k ≤ end - at → drop k (take (end - at) (drop at x)) ≡ slice (at + k) end x
taken-later {x} {at} {end} {k} s h =
    let e : end - at ≡ k + (end - (at + k)) = omega (arith, h, s.low) in
    ap (λ n. drop k (take n (drop at x))) e
    ∙ drop-take k (end - (at + k)) (drop at x)
    ∙ ap (take (end - (at + k))) (drop-drop k at x)
    ∙ taken (record { low = omega (arith, h, s.low); high = s.high })

-- the same, where the tests are Booleans
first-stands : {x : List ℕ} {at end : ℕ} → Span x at end → ltb at end ≡ true → not (eqb (get_or x at 0) 92) ≡ true
    → decode_at x at end ≡ get_or x at 0 ∷ decode_at x (at + 1) end
first-stands {x} {at} {end} s l n = at_plain s (ltb-true at end l) (eqb-false (get_or x at 0) 92 (not-true (eqb (get_or x at 0) 92) n))

each : (a b c d e : Bool) → a && b && c && d && e ≡ true → (a ≡ true) × (b ≡ true) × (c ≡ true) × (d ≡ true) × (e ≡ true)
each a b c d e q =
    let q3 = both_left (a && b && c && d) e q in
    let q2 = both_left (a && b && c) d q3 in
    let q1 = both_left (a && b) c q2 in
    (both_left a b q1, both_right a b q1, both_right (a && b) c q2, both_right (a && b && c) d q3, both_right (a && b && c && d) e q)

-- strings that begin with different bytes, neither of them a backslash, do not stand for the same bytes
pub apart-differ : {x : List ℕ} {at end at2 end2 : ℕ} → Span x at end → Span x at2 end2 → begin_apart x at end at2 end2 ≡ true
    → same (decode_at x at end) (decode_at x at2 end2) ≡ false
unfolding begin_apart same
apart-differ {x} {at} {end} {at2} {end2} s t q =
    let a = get_or x at 0 in
    let b = get_or x at2 0 in
    let z = each (ltb at end) (ltb at2 end2) (not (eqb a b)) (not (eqb a 92)) (not (eqb b 92)) q in
    rw (first-stands s z.0 z.3, first-stands t z.1 z.4, not-true (eqb a b) z.2)

-- what a call of a decoder's `next` tells, from s to t
module _ (s t : Decoder) where
  pub step-done : YieldsFirst ahead s None t → ahead s ≡ []
  step-done h = h.0

  pub step-byte : (b : ℕ) → YieldsFirst ahead s (Some b) t → ahead s ≡ b ∷ ahead t
  step-byte b h = h

  pub step-nearer : (b : ℕ) → MakesProgress (λ _. ⊤) (λ d. at_most (away d)) s (Some b) t → away t < away s
  step-nearer b h = (h.on tt).2

pub step-span : (t : Decoder) → Span t.text.now t.at t.end
step-span t = t.span

-- a decoder with no character begun has ahead what its part of the text stands for
pub ahead-start : (d : Decoder) → d.left ≡ 0 → ahead d ≡ decode_at d.text.now d.at d.end
unfolding ahead le
ahead-start d e = rw e

-- places in increasing order, the first at n or later, the last before e
unfoldable pub Rising : ℕ → ℕ → List ℕ → Type 0
Rising n e [] = Unit
Rising n e (p ∷ ps) = (n ≤ p) × (p < e) × Rising (p + 1) e ps

-- the same of the units of some pieces
unfoldable Ordered : ℕ → ℕ → List Piece → Type 0
Ordered n e [] = Unit
Ordered n e (byte b ∷ ps) = Ordered n e ps
Ordered n e (unit p u ∷ ps) = (n ≤ p) × (p < e) × Ordered (p + 1) e ps

rising_none : (n e : ℕ) → Rising n e []
unfolding Rising
rising_none n e = tt

rising-from : (n m e : ℕ) (ps : List ℕ) → n ≤ m → Rising m e ps → Rising n e ps
unfolding Rising
rising-from n m e [] l r = tt
rising-from n m e (p ∷ ps) l r = (omega (arith, r.0), r.1, r.2)

rising-alone : (c : Bool) (n e p : ℕ) (ps : List ℕ) → n ≤ p → p < e → Rising (p + 1) e ps → Rising n e (cond c (p ∷ []) [] ++ ps)
unfolding Rising
rising-alone true n e p ps l h r = (l, h, r)
rising-alone false n e p ps l h r = rising-from n (p + 1) e ps (omega arith) r

rising-by-cases : (c : Bool) (n e : ℕ) (s t : List ℕ) → Rising n e s → Rising n e t → Rising n e (elim c [ true ↦ s | false ↦ t ])
rising-by-cases true n e s t p q = p
rising-by-cases false n e s t p q = q

rising-unpaired : (n e : ℕ) (ps : List Piece) → Ordered n e ps → Rising n e (unpaired ps)
unfolding unpaired alone Ordered
rising-unpaired n e [] r = rising_none n e
rising-unpaired n e (byte b ∷ ps) r = rising-unpaired n e ps r
rising-unpaired n e (unit p u ∷ []) r =
    rw (← append-nil (cond (leb 0xD800 u && leb u 0xDFFF) (p ∷ []) []))
    (rising-alone (leb 0xD800 u && leb u 0xDFFF) n e p [] r.0 r.1 (rising_none (p + 1) e))
rising-unpaired n e (unit p u ∷ byte b ∷ ps) r =
    rising-alone (leb 0xD800 u && leb u 0xDFFF) n e p (unpaired ps) r.0 r.1 (rising-unpaired (p + 1) e ps r.2)
rising-unpaired n e (unit p u ∷ unit q w ∷ ps) r =
    rising-by-cases (is_high u && is_low w) n e _ _
    (rising-from n (q + 1) e (unpaired ps) (omega (arith, r.0, r.2.0)) (rising-unpaired (q + 1) e ps r.2.2))
    (rising-alone (leb 0xD800 u && leb u 0xDFFF) n e p (unpaired (unit q w ∷ ps)) r.0 r.1 (rising-unpaired (p + 1) e (unit q w ∷ ps) r.2))

-- the piece that is begun began at m or later
unfoldable After : ℕ → Mark → ℕ → Type 0
After m plain n = m ≤ n
After m slash n = m + 1 ≤ n
After m (hex j u) n = m + 5 ≤ n + j

ordered-if : (c : Bool) (m e b : ℕ) (ps : List Piece) → Ordered m e ps → Ordered m e (cond c [] (byte b ∷ []) ++ ps)
unfolding Ordered
ordered-if true m e b ps r = r
ordered-if false m e b ps r = r

after-if : (c : Bool) (m n : ℕ) (k : Mark) → After m k n → m ≤ n → After m (cond c k plain) n
unfolding After
after-if true m n k h l = h
after-if false m n k h l = l

ordered-pieces : (m e : ℕ) (k : Mark) (n : ℕ) (s : List ℕ) → After m k n → n + length s ≤ e → Ordered m e (pieces k n s)
unfolding pieces next ended Ordered After
ordered-pieces m e k n [] h f = tt
ordered-pieces m e plain n (b ∷ s) h f =
    ordered-if (eqb b 92) m e b _
    (ordered-pieces m e (cond (eqb b 92) slash plain) (n + 1) s (after-if (eqb b 92) m (n + 1) slash (omega arith) (omega arith)) (omega arith))
ordered-pieces m e slash n (b ∷ s) h f =
    ordered-if (eqb b 117) m e (escaped b) _
    (ordered-pieces m e (cond (eqb b 117) (hex 3 0) plain) (n + 1) s (after-if (eqb b 117) m (n + 1) (hex 3 0) (omega arith) (omega arith)) (omega arith))
ordered-pieces m e (hex zero u) n (b ∷ s) h f = (omega arith, omega arith, ordered-pieces (n - 5 + 1) e plain (n + 1) s (omega arith) (omega arith))
ordered-pieces m e (hex (suc j) u) n (b ∷ s) h f = ordered-pieces m e (hex j (u * 16 + hex_value b)) (n + 1) s (omega arith) (omega arith)

-- the places of the unpaired surrogates are in increasing order and lie in the string
pub unpaired-rising : (n : ℕ) (raw : List ℕ) → Rising n (n + length raw) (unpaired_from n raw)
unfolding unpaired_from After
unpaired-rising n raw = rising-unpaired n (n + length raw) (pieces plain n raw) (ordered-pieces n (n + length raw) plain n raw (omega arith) (omega arith))

rising-member : (n e : ℕ) (ps : List ℕ) → Rising n e ps → (q : ℕ) → Memᴰ q ps → (n ≤ q) × (q < e)
unfolding Rising
rising-member n e [] r q m = absurd (Memᴰ.not-nil m)
rising-member n e (p ∷ ps) r q m =
    ⊎_elim
    (λ i. rw i (r.0, r.1))
    (λ i. let k : (p + 1 ≤ q) × (q < e) = rising-member (p + 1) e ps r.2 q i in (omega (arith, k.0, r.0), k.1))
    (Memᴰ.cases_cons m)

-- each of the places lies in the string
pub unpaired-within : (n : ℕ) (raw : List ℕ) (q : ℕ) → Memᴰ q (unpaired_from n raw) → (n ≤ q) × (q < n + length raw)
unpaired-within n raw q m = rising-member n (n + length raw) (unpaired_from n raw) (unpaired-rising n raw) q m

-- the first of the places is the least
pub first-least : (n : ℕ) (raw : List ℕ) (p : ℕ) (ps : List ℕ) → unpaired_from n raw ≡ p ∷ ps → (q : ℕ) → Memᴰ q (p ∷ ps) → p ≤ q
unfolding Rising
first-least n raw p ps f q m =
    let r : Rising n (n + length raw) (p ∷ ps) = subst (Rising n (n + length raw)) f (unpaired-rising n raw) in
    (rising-member p (n + length raw) (p ∷ ps) (omega arith, r.1, r.2) q m).0

first-within : (n e p : ℕ) (ps : List ℕ) → Rising n e ps → first_of ps ≡ Some p → (n ≤ p) × (p < e)
unfolding Rising first_of
first-within n e p [] r f = clash cc
first-within n e p (q ∷ ps) r f = let z : p ≡ q = cc in (omega (arith, r.0), omega (arith, r.1))

-- the place that is found lies in the string
pub found_within : (x : List ℕ) (at end p : ℕ) → Span x at end → first_of (unpaired_at x at end) ≡ Some p → (at ≤ p) × (p < end)
unfolding unpaired_at
found_within x at end p s f =
    let k : (at ≤ p) × (p < at + length (slice at end x)) = first-within at (at + length (slice at end x)) p _ (unpaired-rising at (slice at end x)) f in
    (k.0, omega (arith, k.1, length-slice at end x s.high, s.low))

-- a byte of two lists is one of the first or of the second
pub has-append : (b : ℕ) (l m : List ℕ) → has_byte b (l ++ m) ≡ (has_byte b l || has_byte b m)
unfolding has_byte
has-append b [] m = refl
has-append b (a ∷ l) m = has-or (eqb a b) (has_byte b l) (has_byte b m) (has-append b l m)
  where
    has-or : (c d e : Bool) {r : Bool} → r ≡ (d || e) → (c || r) ≡ ((c || d) || e)
    has-or true d e q = refl
    has-or false d e q = q

none_of : (b n : ℕ) (l : List ℕ) → has_byte b l ≡ false → (has_byte b (take n l) ≡ false) × (has_byte b (drop n l) ≡ false)
none_of b n l q = neither (has_byte b (take n l)) (has_byte b (drop n l)) (sym (has-append b (take n l) (drop n l)) ∙ (ap (has_byte b) (take-append-drop n l) ∙ q))

-- a byte that a text has not, no part of it has
pub none-slice : (b from to : ℕ) (x : List ℕ) → has_byte b x ≡ false → has_byte b (slice from to x) ≡ false
none-slice b from to x q = (none_of b from (take to x) (none_of b to x q).0).1

-- a string with no backslash has no surrogate
pub unpaired-plain : (n : ℕ) (raw : List ℕ) → has_byte 92 raw ≡ false → unpaired_from n raw ≡ []
unfolding has_byte unpaired_from pieces ended next unpaired
unpaired-plain n [] q = refl
unpaired-plain n (b ∷ raw) q = let z = neither (eqb b 92) (has_byte 92 raw) q in rw z.0 (unpaired-plain (n + 1) raw z.1)

-- and stands for its own bytes
pub decode-plain : (raw : List ℕ) → has_byte 92 raw ≡ false → decode raw ≡ raw
unfolding has_byte decode pieces decoded
decode-plain [] q = refl
decode-plain (b ∷ raw) q = let z = neither (eqb b 92) (has_byte 92 raw) q in plain_byte b raw (eqb-false b 92 z.0) ∙ ap (λ (l : List ℕ). b ∷ l) (decode-plain raw z.1)

pub decode_at-plain : {x : List ℕ} {at end : ℕ} → Span x at end → has_byte 92 (take (end - at) (drop at x)) ≡ false → decode_at x at end ≡ take (end - at) (drop at x)
unfolding decode_at
decode_at-plain {x} {at} {end} s q = rw (taken s) (decode-plain (slice at end x) (rw (taken s) at q))
