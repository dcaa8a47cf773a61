-- A string with no unpaired surrogate, whose bytes are whole characters, stands for whole characters.
use Rattle.std.specs.Prelude.{ℕ, ◌+◌, ◌≤◌, ◌<◌, ◌≡◌, refl, Bool, true, false, cond, ◌&&◌, List, [], ◌∷◌, ◌++◌, eqb, leb}
use Rattle.std.proofs.Common.{arith, append-nil, append_assoc, leb-true, le-leb, ne_eqb}
use Rattle.utf8.specs.Utf8.{is_character, encode, Whole}
use Rattle.utf8.specs.Utf8.Whole.{nil, next}
use Rattle.utf8.specs.Laws.{clash, both_left, both_right, nil-left, nil-right}
use Rattle.utf8.specs.Splits.{whole_append, whole-cons, whole_split, character-above}
use Rattle.strings.specs.Strings.{Piece, byte, unit, plain, escaped, pieces, ended, is_high, is_low, paired, decoded, decode, alone, unpaired, unpaired_from}
use Rattle.strings.specs.Strings as strings
use Rattle.strings.specs.Laws.{decoded-anywhere}
use Rattle.strings.specs.Characters.{Escaped, end, unescaped, short, long}

-- ---- pieces

-- the pieces as bytes, with a question mark for each unit
unfoldable masked : List Piece → List ℕ
masked [] = []
masked (byte b ∷ ps) = b ∷ masked ps
masked (unit p u ∷ ps) = 63 ∷ masked ps

-- the units are of 16 bits
unfoldable Units : List Piece → Type 0
Units [] = Unit
Units (byte b ∷ ps) = Units ps
Units (unit p u ∷ ps) = (u < 65536) × Units ps

low-if : (c : Bool) (m n : ℕ) → m < 128 → n < 128 → cond c m n < 128
low-if true m n p q = p
low-if false m n p q = q

-- a short escape stands for a byte below 128
escaped-low : (b : ℕ) → b < 128 → escaped b < 128
unfolding escaped
escaped-low b h =
    low-if (eqb b 98) 8 _ (omega arith)
    (low-if (eqb b 102) 12 _ (omega arith)
    (low-if (eqb b 110) 10 _ (omega arith)
    (low-if (eqb b 114) 13 _ (omega arith)
    (low-if (eqb b 116) 9 b (omega arith) h))))

-- a byte more before what is whole, and one less after
shift : (b : ℕ) (pre s : List ℕ) → Whole ((pre ++ b ∷ []) ++ s) → Whole (pre ++ b ∷ s)
shift b pre s w = rw append_assoc at w

unshift : (b : ℕ) (pre s : List ℕ) → Whole (pre ++ b ∷ s) → Whole ((pre ++ b ∷ []) ++ s)
unshift b pre s w = rw append_assoc w

rest : {b : ℕ} {s : List ℕ} → b < 128 → Whole (b ∷ s) → Whole s
rest {b} {s} h w = (whole_split [] s b h w).1

-- the pieces of a string of whole characters
pieces_whole : {raw : List ℕ} → Escaped raw → (n : ℕ) (pre : List ℕ) → Whole (pre ++ raw) → Whole (pre ++ masked (pieces plain n raw))
unfolding masked pieces ended strings.next
pieces_whole end n pre w = w
pieces_whole (unescaped {b} {s} h r) n pre w = rw (ne_eqb b 92 h) (shift b pre _ (pieces_whole r (n + 1) (pre ++ b ∷ []) (unshift b pre s w)))
pieces_whole (short {b} {s} l h r) n pre w =
    let (v, t) = whole_split pre (b ∷ s) 92 (omega arith) w in
    rw (ne_eqb b 117 h) (whole_append v (whole-cons (escaped b) (escaped-low b l) (pieces_whole r (n + 1 + 1) [] (rest l t))))
pieces_whole (long {a} {b} {c} {d} {s} i j k l r) n pre w =
    let (v, t) = whole_split pre (117 ∷ a ∷ b ∷ c ∷ d ∷ s) 92 (omega arith) w in
    let z = rest l.0 (rest k.0 (rest j.0 (rest i.0 (rest (omega arith) t)))) in
    whole_append v (whole-cons 63 (omega arith) (pieces_whole r (n + 1 + 1 + 1 + 1 + 1 + 1) [] z))

-- four digits name a unit
pieces-units : {raw : List ℕ} → Escaped raw → (n : ℕ) → Units (pieces plain n raw)
unfolding Units pieces ended strings.next
pieces-units end n = tt
pieces-units (unescaped {b} h r) n = rw (ne_eqb b 92 h) (pieces-units r (n + 1))
pieces-units (short {b} l h r) n = rw (ne_eqb b 117 h) (pieces-units r (n + 1 + 1))
pieces-units (long i j k l r) n = (omega arith, pieces-units r (n + 1 + 1 + 1 + 1 + 1 + 1))

-- ---- what the pieces stand for

-- a unit that is no surrogate is a character
alone-by : (p u : ℕ) (c : Bool) → (leb 0xD800 u && leb u 0xDFFF) ≡ c → cond c (p ∷ []) [] ≡ [] → u < 65536 → is_character u ≡ true
unfolding is_character
alone-by p u true e q h = clash cc
alone-by p u false e q h = rw (le-leb u 0x10FFFF (omega arith), e)

alone-character : (p u : ℕ) → alone p u ≡ [] → u < 65536 → is_character u ≡ true
unfolding alone
alone-character p u q h = alone-by p u _ refl q h

-- what a test for a range tells
in-range : (l u m : ℕ) → (leb l u && leb u m) ≡ true → (l ≤ u) × (u ≤ m)
in-range l u m e = (leb-true l u (both_left _ _ e), leb-true u m (both_right (leb l u) _ e))

-- a pair names a character from U+10000 to U+10FFFF
paired-character : (u w : ℕ) → (is_high u && is_low w) ≡ true → is_character (paired u w) ≡ true
unfolding is_high is_low paired
paired-character u w e =
    let h = in-range _ u _ (both_left (is_high u) (is_low w) e) in
    let l = in-range _ w _ (both_right (is_high u) (is_low w) e) in
    character-above (paired u w) (omega arith) (omega arith)

-- a character after whole ones, before whole ones
between : (c : ℕ) → is_character c ≡ true → {pre s : List ℕ} → Whole pre → Whole s → Whole (pre ++ (encode c ++ s))
between c h v w = whole_append v (next c h refl w)

decoded-whole : (ps : List Piece) → Units ps → unpaired ps ≡ [] → (pre : List ℕ) → Whole (pre ++ masked ps) → Whole (pre ++ decoded ps)
unfolding Units unpaired masked decoded
decoded-whole [] us e pre w = w
decoded-whole (byte b ∷ ps) us e pre w = shift b pre (decoded ps) (decoded-whole ps us e (pre ++ b ∷ []) (unshift b pre (masked ps) w))
decoded-whole (unit p u ∷ []) us e pre w =
    let (v, t) = whole_split pre [] 63 (omega arith) w in
    rw (← append-nil (encode u)) (between u (alone-character p u e us.0) v nil)
decoded-whole (unit p u ∷ byte b ∷ ps) us e pre w =
    let (v, t) = whole_split pre (b ∷ masked ps) 63 (omega arith) w in
    between u (alone-character p u (nil-left _ _ e) us.0) v (decoded-whole ps us.1 (nil-right (alone p u) _ e) (b ∷ []) t)
decoded-whole (unit p u ∷ unit q x ∷ ps) us e pre w =
    let (v, t) = whole_split pre (63 ∷ masked ps) 63 (omega arith) w in
    by (is_high u && is_low x) refl e v
    (λ f. decoded-whole ps us.1.1 f [] (rest (omega arith) t))
    (λ f. decoded-whole (unit q x ∷ ps) us.1 f [] t)
  where
    by : (c : Bool) → (is_high u && is_low x) ≡ c → ◌≡◌ {A = List ℕ} (elim c [ true ↦ unpaired ps | false ↦ alone p u ++ unpaired (unit q x ∷ ps) ]) []
        → Whole pre → (unpaired ps ≡ [] → Whole (decoded ps)) → (unpaired (unit q x ∷ ps) ≡ [] → Whole (decoded (unit q x ∷ ps)))
        → Whole (pre ++ elim c [ true ↦ encode (paired u x) ++ decoded ps | false ↦ encode u ++ decoded (unit q x ∷ ps) ])
    by true i f v g h = between (paired u x) (paired-character u x i) v (g f)
    by false i f v g h = between u (alone-character p u (nil-left _ _ f) us.0) v (h (nil-right (alone p u) _ f))

-- a string of whole characters stands for whole characters, if no surrogate of it is unpaired
pub whole-decode : (n : ℕ) {raw : List ℕ} → Escaped raw → unpaired_from n raw ≡ [] → Whole raw → Whole (decode raw)
unfolding decode unpaired_from
whole-decode n {raw} r e w = rw (decoded-anywhere 0 n raw) (decoded-whole (pieces plain n raw) (pieces-units r n) e [] (pieces_whole r n [] w))
