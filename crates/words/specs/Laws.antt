-- Laws of the codes: a text has a code exactly if it is one of the words; the code is the place of the word that the text is; no two words of a list are
-- the same; a string that does not look like a type of the second level is none.
use Rattle.std.specs.Prelude.{ℕ, zero, suc, ◌+◌, ◌-◌, ◌≤◌, ◌<◌, ◌≡◌, refl, Bool, true, false, cond, not, ◌&&◌, ◌||◌, List, [], ◌∷◌, length, get_or, drop, eqb, leb}
use Prim.Native.String.{String}
use Rattle.std.proofs.Common.{arith, ap, sym, ◌∙◌, get_or-drop, ne_eqb, eqb-true, leb-true, le-leb, ltb-true}
use Rattle.std.proofs.lemmas.Bool.{eqb-false}
use Rattle.utf8.specs.Ascii.{ascii}
use Rattle.utf8.specs.Utf8.{same}
use Rattle.utf8.specs.Laws.{both_left, both_right, same-equal, never, unless}
use Rattle.strings.specs.Spans.{Span, decode_at}
use Rattle.strings.specs.Laws.{at_plain, decode_at-short}
use Rattle.words.specs.Words.{object_words, geometry_words, surface_words, code_from, code_of, is_one, is_second_level}
use Rattle.words.specs.Tables.{looks_second_level}

-- a text is one of the words exactly if its code is not 0
one-if : (b : Bool) (n m : ℕ) (o : Bool) → 1 ≤ n → o ≡ not (eqb m 0) → (b || o) ≡ not (eqb (cond b n m) 0)
one-if true n m o h e = rw (ne_eqb n 0 (λ z. omega arith))
one-if false n m o h e = e

one_from : (n : ℕ) (words : List String) (t : List ℕ) → 1 ≤ n → is_one words t ≡ not (eqb (code_from n words t) 0)
unfolding is_one code_from
one_from n [] t h = refl
one_from n (w ∷ words) t h = one-if (same (ascii w) t) n (code_from (n + 1) words t) (is_one words t) h (one_from (n + 1) words t (omega arith))

pub one-has-code : (words : List String) (t : List ℕ) → is_one words t ≡ not (eqb (code_of words t) 0)
unfolding code_of
one-has-code words t = one_from 1 words t (omega arith)

-- no code is greater than the number of the words
most-if : (b : Bool) (n m k : ℕ) → n < k → m < k → cond b n m < k
most-if true n m k h l = h
most-if false n m k h l = l

most-from : (n : ℕ) (words : List String) (t : List ℕ) → 1 ≤ n → code_from n words t < n + length words
unfolding code_from
most-from n [] t h = omega arith
most-from n (w ∷ words) t h =
    most-if (same (ascii w) t) n (code_from (n + 1) words t) (n + suc (length words)) (omega arith) (omega (arith, most-from (n + 1) words t (omega arith)))

pub code-most : (words : List String) (t : List ℕ) → code_of words t ≤ length words
unfolding code_of
code-most words t = omega (arith, most-from 1 words t (omega arith))

-- a text that has a code is the word at that place
record Placed (n k : ℕ) (words : List String) (t : List ℕ) : Type 0 where
  pub least : n ≤ k
  pub word : t ≡ ascii (get_or words (k - n) "")

placed-if : (b : Bool) (n k m : ℕ) (w : String) (words : List String) (t : List ℕ) → same (ascii w) t ≡ b → (m ≡ k → Placed (n + 1) k words t) → cond b n m ≡ k
    → Placed n k (w ∷ words) t
placed-if true n k m w words t s f e =
    let z : k - n ≡ 0 = omega arith in
    record { least = omega arith; word = rw z (sym (same-equal (ascii w) t s)) }
placed-if false n k m w words t s f e =
    let p : Placed (n + 1) k words t = f e in
    let z : k - n ≡ suc (k - (n + 1)) = omega (arith, p.least) in
    record { least = omega (arith, p.least); word = rw z p.word }

placed-from : (n k : ℕ) (words : List String) (t : List ℕ) → 1 ≤ k → code_from n words t ≡ k → Placed n k words t
unfolding code_from
placed-from n k [] t h e = absurd (omega arith)
placed-from n k (w ∷ words) t h e = placed-if (same (ascii w) t) n k (code_from (n + 1) words t) w words t refl (placed-from (n + 1) k words t h) e

pub code-word : (words : List String) (t : List ℕ) (k : ℕ) → code_of words t ≡ k → 1 ≤ k → t ≡ ascii (get_or words (k - 1) "")
unfolding code_of
code-word words t k e h = (placed-from 1 k words t h e).word

-- has each of these words, of which the first has place n, that place as its code among all the words? (so none of them is the same as one before it)
unfoldable pub in_place : List String → ℕ → List String → Bool
unfolding code_of ascii
in_place words n [] = true
in_place words n (w ∷ ws) = eqb (code_of words (ascii w)) n && in_place words (n + 1) ws

place-from : (words : List String) (n : ℕ) (ws : List String) (k : ℕ) → in_place words n ws ≡ true → k < length ws → code_of words (ascii (get_or ws k "")) ≡ n + k
unfolding in_place
place-from words n [] k e h = absurd (omega arith)
place-from words n (w ∷ ws) zero e h = eqb-true (code_of words (ascii w)) n (both_left _ _ e) ∙ omega arith
place-from words n (w ∷ ws) (suc k) e h = place-from words (n + 1) ws k (both_right (eqb (code_of words (ascii w)) n) _ e) (omega arith) ∙ omega arith

-- then the word at k, counted from 0, has the code k + 1
pub word-code : (words : List String) → in_place words 1 words ≡ true → (k : ℕ) → k < length words → code_of words (ascii (get_or words k "")) ≡ k + 1
word-code words e k h = place-from words 1 words k e h ∙ omega arith

-- and words at different places are different texts
pub words-differ : (words : List String) → in_place words 1 words ≡ true → (j k : ℕ) → j < length words → k < length words
    → ascii (get_or words j "") ≡ ascii (get_or words k "") → j ≡ k
words-differ words e j k h l q = omega (arith, word-code words e j h, word-code words e k l, ap (code_of words) q)

-- so it is in each of the three lists
pub object-places : in_place object_words 1 object_words ≡ true
unfolding in_place object_words
object-places = refl

pub geometry-places : in_place geometry_words 1 geometry_words ≡ true
unfolding in_place geometry_words
geometry-places = refl

pub surface-places : in_place surface_words 1 surface_words ≡ true
unfolding in_place surface_words
surface-places = refl

-- the 33 object words are different from each other, and each has its place as its code
pub object-word-code : (k : ℕ) → k < 33 → code_of object_words (ascii (get_or object_words k "")) ≡ k + 1
unfolding object_words
object-word-code = word-code object_words object-places

pub object-words-differ : (j k : ℕ) → j < 33 → k < 33 → ascii (get_or object_words j "") ≡ ascii (get_or object_words k "") → j ≡ k
unfolding object_words
object-words-differ = words-differ object_words object-places

-- has a word at least ten bytes, the first of them B or T?
unfoldable long_bt : List ℕ → Bool
long_bt t = leb 10 (length t) && (eqb (get_or t 0 0) 66 || eqb (get_or t 0 0) 84)

-- so has each of some words
unfoldable longs_bt : List String → Bool
unfolding long_bt ascii
longs_bt [] = true
longs_bt (w ∷ ws) = long_bt (ascii w) && longs_bt ws

long-at : (ws : List String) (k : ℕ) → longs_bt ws ≡ true → k < length ws → long_bt (ascii (get_or ws k "")) ≡ true
unfolding longs_bt
long-at [] k e h = absurd (omega arith)
long-at (w ∷ ws) zero e h = both_left _ _ e
long-at (w ∷ ws) (suc k) e h = long-at ws k (both_right (long_bt (ascii w)) _ e) (omega arith)

second-long : longs_bt (drop 16 object_words) ≡ true
unfolding longs_bt object_words
second-long = refl

second-count : (k : ℕ) → k ≤ length object_words → 16 < k → k - 17 < length (drop 16 object_words)
unfolding object_words
second-count k h l = omega arith

-- so has each type of the second level
second_word : (t : List ℕ) (k : ℕ) → code_of object_words t ≡ k → 16 < k → long_bt t ≡ true
second_word t k e h =
    let z : k - 1 ≡ 16 + (k - 17) = omega arith in
    let w : t ≡ ascii (get_or object_words (16 + (k - 17)) "") = rw (← z) (code-word object_words t k e (omega arith)) in
    rw (w, ← get_or-drop 16 object_words (k - 17) "")
    (long-at (drop 16 object_words) (k - 17) second-long (second-count k (omega (arith, code-most object_words t)) h))

-- the first byte of such a type is B or T, or a backslash stands in its place
last_of : (o c : Bool) → c ≡ true → (o || c) ≡ true
last_of true c e = refl
last_of false c e = e

looks-if : (c : Bool) (a b : ℕ) → eqb b 92 ≡ c → (c ≡ false → a ≡ b) → (eqb a 66 || eqb a 84) ≡ true → (eqb b 66 || eqb b 84 || eqb b 92) ≡ true
looks-if true a b e f q = last_of (eqb b 66 || eqb b 84) (eqb b 92) e
looks-if false a b e f q = rw (← f refl, q)

-- a string that is a type of the second level looks like one
second-looks : (x : List ℕ) (at end : ℕ) → Span x at end → is_second_level (code_of object_words (decode_at x at end)) ≡ true → looks_second_level x at end ≡ true
unfolding is_second_level looks_second_level long_bt
second-looks x at end s e =
    let t : List ℕ = decode_at x at end in
    let w : long_bt t ≡ true = second_word t (code_of object_words t) refl (ltb-true 16 (code_of object_words t) e) in
    let l : 10 ≤ length t = leb-true 10 (length t) (both_left (leb 10 (length t)) _ w) in
    let h : 10 ≤ end - at = omega (arith, l, decode_at-short x at end s.high) in
    rw (le-leb 10 (end - at) h)
    (looks-if (eqb (get_or x at 0) 92) (get_or t 0 0) (get_or x at 0) refl
    (λ c. ap (λ l. get_or l 0 0) (at_plain s (omega arith) (eqb-false (get_or x at 0) 92 c)))
    (both_right (leb 10 (length t)) _ w))

-- a string that does not look like a type of the second level is none
pub not-second : (x : List ℕ) (at end : ℕ) → Span x at end → looks_second_level x at end ≡ false → is_second_level (code_of object_words (decode_at x at end)) ≡ false
not-second x at end s q = unless _ (λ e. never (second-looks x at end s e) q)
