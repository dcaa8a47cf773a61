-- Lemmas on the definitions of Utf8: what the theorems of Meaning and the proofs of the code share.
use Rattle.std.specs.Prelude.{ℕ, zero, suc, ◌+◌, ◌*◌, ◌/◌, ◌%◌, ◌≤◌, ◌<◌, ◌≡◌, refl, Bool, true, false, cond, ◌&&◌, ◌||◌, List, [], ◌∷◌, ◌++◌, ◌⊎◌, length, take, drop, get_or, eqb, ltb}
use Rattle.std.proofs.Common.{arith, sym, ◌∙◌, ap, subst, inl, inr, ⊎_elim, length-take-le, take_all, get_or-take, below_more, ltb-true, ltb-false, leb-true, eqb-true, eq-eqb, lt-ltb, le-ltb}
use Rattle.std.proofs.Math.Seq.{take-length}
use Rattle.utf8.specs.Utf8.{is_character, tail, encode, number, same, written, size, whole_from, whole_length}

-- two numbers that differ are not equal; `clash cc` is what follows where two constructors are said to be
pub clash : {A : Type 0} → ◌≡◌ {A = ℕ} 0 1 → A
clash z = absurd (omega arith)

-- two Booleans, both true
pub both_left : (a b : Bool) → (a && b) ≡ true → a ≡ true
both_left true b e = refl
both_left false b e = e

pub both_right : (a b : Bool) → (a && b) ≡ true → b ≡ true
both_right true b e = e
both_right false b e = clash cc

pub never : {b : Bool} → b ≡ true → b ≡ false → ⊥
never {b} e f = clash cc

-- two Booleans, neither true
pub neither : (a b : Bool) → (a || b) ≡ false → (a ≡ false) × (b ≡ false)
neither true b e = absurd (never refl e)
neither false b e = (refl, e)

pub unless : (b : Bool) → (b ≡ true → ⊥) → b ≡ false
unless true n = absurd (n refl)
unless false n = refl

-- the first of two lists that join to the empty one
pub nil-left : {A : Type 0} (l m : List A) → l ++ m ≡ [] → l ≡ []
nil-left [] m e = refl
nil-left (a ∷ l) m e = clash cc

-- the second of them
pub nil-right : {A : Type 0} (l m : List A) → l ++ m ≡ [] → m ≡ []
nil-right [] m e = e
nil-right (a ∷ l) m e = clash cc

-- `same` tells equality
pub same-equal : (x y : List ℕ) → same x y ≡ true → x ≡ y
unfolding same
same-equal [] [] e = refl
same-equal [] (b ∷ y) e = clash cc
same-equal (a ∷ x) [] e = clash cc
same-equal (a ∷ x) (b ∷ y) e = cc (eqb-true a b (both_left (eqb a b) (same x y) e), same-equal x y (both_right (eqb a b) (same x y) e))

pub same_refl : (x : List ℕ) → same x x ≡ true
unfolding same
same_refl [] = refl
same_refl (a ∷ x) = rw (eq-eqb a a refl, same_refl x)

-- the bytes of a character, by its range
pub data Form (c : ℕ) : Type 0 where
  one : c < 128 → encode c ≡ c ∷ [] → Form c
  two : 128 ≤ c → c < 2048 → encode c ≡ (192 + c / 64) ∷ (128 + c % 64) ∷ [] → Form c
  three : 2048 ≤ c → c < 65536 → encode c ≡ (224 + c / 4096) ∷ (128 + c / 64 % 64) ∷ (128 + c % 64) ∷ [] → Form c
  four : 65536 ≤ c → encode c ≡ (240 + c / 262144) ∷ (128 + c / 4096 % 64) ∷ (128 + c / 64 % 64) ∷ (128 + c % 64) ∷ [] → Form c

pub encode_one : (c : ℕ) → c < 128 → encode c ≡ c ∷ []
unfolding encode
encode_one c h = rw (lt-ltb c 128 h)

pub encode-two : (c : ℕ) → 128 ≤ c → c < 2048 → encode c ≡ (192 + c / 64) ∷ (128 + c % 64) ∷ []
unfolding encode tail
encode-two c l h = rw (le-ltb c 128 l, lt-ltb c 2048 h)

pub encode-three : (c : ℕ) → 2048 ≤ c → c < 65536 → encode c ≡ (224 + c / 4096) ∷ (128 + c / 64 % 64) ∷ (128 + c % 64) ∷ []
unfolding encode tail
encode-three c l h = rw (le-ltb c 128 (omega arith), le-ltb c 2048 l, lt-ltb c 65536 h)

pub encode-four : (c : ℕ) → 65536 ≤ c → encode c ≡ (240 + c / 262144) ∷ (128 + c / 4096 % 64) ∷ (128 + c / 64 % 64) ∷ (128 + c % 64) ∷ []
unfolding encode tail
encode-four c l = rw (le-ltb c 128 (omega arith), le-ltb c 2048 (omega arith), le-ltb c 65536 l)

form-by : (c : ℕ) (p q r : Bool) → ltb c 128 ≡ p → ltb c 2048 ≡ q → ltb c 65536 ≡ r → Form c
form-by c true q r e f g = one (ltb-true c 128 e) (encode_one c (ltb-true c 128 e))
form-by c false true r e f g = two (ltb-false c 128 e) (ltb-true c 2048 f) (encode-two c (ltb-false c 128 e) (ltb-true c 2048 f))
form-by c false false true e f g = three (ltb-false c 2048 f) (ltb-true c 65536 g) (encode-three c (ltb-false c 2048 f) (ltb-true c 65536 g))
form-by c false false false e f g = four (ltb-false c 65536 g) (encode-four c (ltb-false c 65536 g))

pub form : (c : ℕ) → Form c
form c = form-by c _ _ _ refl refl refl

-- a character is at most U+10FFFF
pub top : (c : ℕ) → is_character c ≡ true → c ≤ 0x10FFFF
unfolding is_character
top c h = leb-true c 0x10FFFF (both_left _ _ h)

-- six bits more
rejoin : (a b : ℕ) → a ≡ b / 64 → a * 64 + (128 + b % 64) % 64 ≡ b
rejoin a b e = omega arith

third : (c : ℕ) → c ≤ 0x10FFFF → (240 + c / 262144) % 8 ≡ c / 262144
third c h = omega arith

-- the number in the bytes of a character is the character
number-form : (c : ℕ) → c ≤ 0x10FFFF → Form c → number (encode c) ≡ c
unfolding number
number-form c h (one l e) = rw e
number-form c h (two l k e) = rw e (omega arith)
number-form c h (three l k e) = rw e (omega arith)
number-form c h (four l e) =
    rw (e, third c h, rejoin (c / 262144) (c / 4096) (omega arith), rejoin (c / 4096) (c / 64) (omega arith), rejoin (c / 64) c refl)

pub number-encode : (c : ℕ) → is_character c ≡ true → number (encode c) ≡ c
number-encode c h = number-form c (top c h) (form c)

-- the bytes of a character are found to be those of a character, and nothing else is
pub written-encode : (c : ℕ) → is_character c ≡ true → written (encode c) ≡ true
unfolding written
written-encode c h = rw (number-encode c h, h, same_refl (encode c))

pub written-character : (x : List ℕ) → written x ≡ true → is_character (number x) ≡ true
unfolding written
written-character x h = both_left (is_character (number x)) (same (encode (number x)) x) h

pub written-bytes : (x : List ℕ) → written x ≡ true → encode (number x) ≡ x
unfolding written
written-bytes x h = same-equal (encode (number x)) x (both_right (is_character (number x)) (same (encode (number x)) x) h)

-- how many bytes a character has that begins with this byte
unfoldable lead : ℕ → ℕ
lead a = cond (ltb a 128) 1 (cond (ltb a 224) 2 (cond (ltb a 240) 3 4))

lead-one : (a : ℕ) → a < 128 → lead a ≡ 1
unfolding lead
lead-one a h = rw (lt-ltb a 128 h)

lead-two : (a : ℕ) → 128 ≤ a → a < 224 → lead a ≡ 2
unfolding lead
lead-two a l h = rw (le-ltb a 128 l, lt-ltb a 224 h)

lead-three : (a : ℕ) → 224 ≤ a → a < 240 → lead a ≡ 3
unfolding lead
lead-three a l h = rw (le-ltb a 128 (omega arith), le-ltb a 224 l, lt-ltb a 240 h)

lead-four : (a : ℕ) → 240 ≤ a → lead a ≡ 4
unfolding lead
lead-four a l = rw (le-ltb a 128 (omega arith), le-ltb a 224 (omega arith), le-ltb a 240 l)

length-form : (c : ℕ) → c ≤ 0x10FFFF → Form c → length (encode c) ≡ lead (get_or (encode c) 0 0)
length-form c h (one l e) = rw e (sym (lead-one c l))
length-form c h (two l k e) = rw e (sym (lead-two (192 + c / 64) (omega arith) (omega arith)))
length-form c h (three l k e) = rw e (sym (lead-three (224 + c / 4096) (omega arith) (omega arith)))
length-form c h (four l e) = rw e (sym (lead-four (240 + c / 262144) (omega arith)))

-- the first byte of a character tells how many it has
written-length : (x : List ℕ) → written x ≡ true → length x ≡ lead (get_or x 0 0)
written-length x h =
    subst (λ (y : List ℕ). length y ≡ lead (get_or y 0 0)) (written-bytes x h)
    (length-form (number x) (top (number x) (written-character x h)) (form (number x)))

-- `size` is the first n from 1 to 4 for which n bytes are those of a character, or 0
abbrev Before : List ℕ → ℕ → Type 0
Before s n = (k : ℕ) → k < n → written (take k s) ≡ false

pub data Sized (s : List ℕ) : ℕ → Type 0 where
  none : Before s 5 → Sized s 0
  some : {n : ℕ} → n < 5 → Before s n → written (take n s) ≡ true → Sized s n

before-one : (s : List ℕ) → Before s 1
unfolding written is_character encode number same
before-one s k h = let e : k ≡ 0 = omega arith in rw e

more : (s : List ℕ) (n : ℕ) → Before s n → written (take n s) ≡ false → Before s (n + 1)
more s n h e = below_more (λ k. written (take k s) ≡ false) n h e

sized-by : (s : List ℕ) (b₁ b₂ b₃ b₄ : Bool) → written (take 1 s) ≡ b₁ → written (take 2 s) ≡ b₂ → written (take 3 s) ≡ b₃ → written (take 4 s) ≡ b₄
    → Sized s (cond b₁ 1 (cond b₂ 2 (cond b₃ 3 (cond b₄ 4 0))))
sized-by s true b₂ b₃ b₄ p q r t = some {n = 1} (omega arith) (before-one s) p
sized-by s false true b₃ b₄ p q r t = some {n = 2} (omega arith) (more s 1 (before-one s) p) q
sized-by s false false true b₄ p q r t = some {n = 3} (omega arith) (more s 2 (more s 1 (before-one s) p) q) r
sized-by s false false false true p q r t = some {n = 4} (omega arith) (more s 3 (more s 2 (more s 1 (before-one s) p) q) r) t
sized-by s false false false false p q r t = none (more s 4 (more s 3 (more s 2 (more s 1 (before-one s) p) q) r) t)

pub sized : (s : List ℕ) → Sized s (size s)
unfolding size
sized s = sized-by s _ _ _ _ refl refl refl refl

below-or-not-by : (n m : ℕ) (b : Bool) → ltb n m ≡ b → (n < m) ⊎ (m ≤ n)
below-or-not-by n m true e = inl (ltb-true n m e)
below-or-not-by n m false e = inr (ltb-false n m e)

pub below_or_not : (n m : ℕ) → (n < m) ⊎ (m ≤ n)
below_or_not n m = below-or-not-by n m _ refl

-- no bytes are not a character
positive : (s : List ℕ) (n : ℕ) → written (take n s) ≡ true → 0 < n
unfolding written is_character encode number same
positive s zero e = absurd (never e refl)
positive s (suc n) e = omega arith

-- no more bytes are counted than there are
size-bound : {s : List ℕ} {m : ℕ} → Sized s m → m ≤ length s
size-bound (none b) = omega arith
size-bound {s} {m} (some k b f) =
    ⊎_elim (λ p. absurd (never f (rw (take_all m s (omega arith), ← take-length s) (b (length s) p)))) (λ p. p) (below_or_not (length s) m)

pub size-within : (s : List ℕ) → size s ≤ length s
size-within s = size-bound (sized s)

-- bytes of s that are a character are as many as the first of them tells
taken-lead : (s : List ℕ) (n : ℕ) → n ≤ length s → written (take n s) ≡ true → n ≡ lead (get_or s 0 0)
taken-lead s n l e = sym (length-take-le n s l) ∙ written-length (take n s) e ∙ ap lead (get_or-take n s 0 0 (positive s n e))

size-lead : {s : List ℕ} {m : ℕ} → Sized s m → (m ≡ 0) ⊎ ((m ≡ lead (get_or s 0 0)) × (written (take m s) ≡ true))
size-lead (none b) = inl refl
size-lead {s} {m} (some k b f) = inr (taken-lead s m (size-bound (some k b f)) f, f)

-- what is counted is a character
pub size-written : (s : List ℕ) → 0 < size s → written (take (size s) s) ≡ true
size-written s h = ⊎_elim (λ p. absurd (omega arith)) (λ p. p.1) (size-lead (sized s))

-- bytes that are a character are what `size` finds
size-found : {s : List ℕ} {m : ℕ} (n : ℕ) → Sized s m → n < 5 → n ≤ length s → written (take n s) ≡ true → m ≡ n
size-found n (none b) h l e = absurd (never e (b n h))
size-found {s} {m} n (some k b f) h l e = taken-lead s m (size-bound (some k b f)) f ∙ sym (taken-lead s n l e)

pub size_is : (s : List ℕ) (n : ℕ) → n < 5 → n ≤ length s → written (take n s) ≡ true → size s ≡ n
size_is s n h l e = size-found n (sized s) h l e

-- a text goes on after its first character as the text that follows
from-drop : (k : ℕ) (s : List ℕ) → whole_from k s ≡ whole_from zero (drop k s)
unfolding whole_from
from-drop zero s = refl
from-drop (suc k) [] = refl
from-drop (suc k) (b ∷ s) = from-drop k s

pub whole-stop : (s : List ℕ) → size s ≡ 0 → whole_length s ≡ 0
unfolding whole_length whole_from
whole-stop [] e = refl
whole-stop (b ∷ s) e = rw e

whole-suc : (s : List ℕ) (k : ℕ) → size s ≡ suc k → whole_length s ≡ suc k + whole_length (drop (suc k) s)
unfolding whole_length whole_from
whole-suc [] k e = absurd (omega (arith, size-within []))
whole-suc (b ∷ s) k e = rw (e, from-drop k s)

pub whole-on : (s : List ℕ) (n : ℕ) → 0 < n → size s ≡ n → whole_length s ≡ n + whole_length (drop n s)
whole-on s zero h e = absurd (omega arith)
whole-on s (suc k) h e = whole-suc s k e
