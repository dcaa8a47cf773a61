-- The number of a word that is looked for among some: at a guessed place, or from the first on.
use Rattle.std.proofs.Common.{ℕ, ◌+◌, ◌≤◌, ◌<◌, ◌≡◌, Bool, true, false, cond, not, ◌&&◌, ◌-◌, eqb, List, [], ◌∷◌, length, get_or, take, drop, eqb-true, drop-cons, drop_of_length-le, add-one, arith, refl, sym, ap, subst, ◌∙◌, zero, suc, map, Bor}
use Rattle.std.proofs.Math.ListN.{get_or-map}
use Rattle.std.proofs.lemmas.List.{length-map}
use lib.Pointwise.{pointwise}
use Rattle.std.proofs.lemmas.List.{drop-take}
use Prim.Native.String.{String}
use Rattle.utf8.specs.Ascii.{ascii}
use Rattle.utf8.specs.Utf8.{same}
use Rattle.utf8.specs.Laws.{neither, both_left, both_right}
use Rattle.strings.specs.Spans.{Span, decode_at, has_byte}
use Rattle.strings.specs.Laws.{cross, no_byte, onward, at_plain, at-end}
use Rattle.std.proofs.Math.Seq.{slice}
use Rattle.std.proofs.lemmas.Bool.{eqb-false}
use borrow.Author.Tests.{not-true}
use Rattle.words.specs.Words.{code_from, code_of}
use Rattle.words.specs.Tables.{number_in, Numbered, Unescaped, spelled}
use Rattle.words.specs.Laws.{in_place, word-code}

equal-bytes : (x y : List ℕ) → pointwise eqb x y ≡ true → x ≡ y
equal-bytes [] [] e = refl
equal-bytes [] (b ∷ y) e = cc
equal-bytes (a ∷ x) [] e = cc
equal-bytes (a ∷ x) (b ∷ y) e = cc (eqb-true a b (both_left (eqb a b) (pointwise eqb x y) e), equal-bytes x y (both_right (eqb a b) (pointwise eqb x y) e))

slice-of : (x : List ℕ) (at end : ℕ) → at ≤ end → take (end - at) (drop at x) ≡ slice at end x
slice-of x at end h = let e : at + (end - at) ≡ end = omega arith in sym (drop-take at (end - at) x) ∙ ap (λ n. drop at (take n x)) e

-- a word of a table, by the bytes of all
module _ (table : List (Bor (List ℕ))) where
  pub table-length : length (map (λ word. word.now) table) ≡ length table
  table-length = length-map table (λ word. word.now)

  -- a part of a text that has the bytes of a word
  pub table-part : (k : ℕ) (d : Bor (List ℕ)) (x : List ℕ) (at end : ℕ) → at ≤ end → true ≡ pointwise eqb (take (end - at) (drop at x)) (get_or table k d).now
      → get_or (map (λ word. word.now) table) k d.now ≡ slice at end x
  table-part k d x at end h e = get_or-map (λ word. word.now) table k d ∙ sym (equal-bytes _ _ (sym e)) ∙ slice-of x at end h

  pub table-word : (k : ℕ) (d : Bor (List ℕ)) (t : List ℕ) → same (get_or table k d).now t ≡ same (get_or (map (λ word. word.now) table) k d.now) t
  table-word k d t = ap (λ w. same w t) (sym (get_or-map (λ word. word.now) table k d))

-- none of the first k words is the text
pub record Passed (words : List (List ℕ)) (t : List ℕ) (k : ℕ) : Type 0 where
  pub number : number_in 1 words t ≡ number_in (k + 1) (drop k words) t

module _ {words : List (List ℕ)} {t : List ℕ} {k : ℕ} (p : Passed words t k) where
  pub passed-all : length words ≤ k → 0 ≡ number_in 1 words t
  unfolding number_in
  passed-all h = rw (p.number, drop_of_length-le words h)

  module _ (h : k < length words) {b : Bool} (e : b ≡ same (get_or words k []) t) where
    next : number_in 1 words t ≡ cond b (k + 1) (number_in (k + 1 + 1) (drop (k + 1) words) t)
    unfolding number_in
    next = p.number ∙ rw (drop-cons words k [] h, add-one k, e)

    pub passed-found : b ≡ true → k + 1 ≡ number_in 1 words t
    passed-found q = rw (next, q)

    pub passed-more : b ≡ false → Passed words t (k + 1)
    passed-more q = record { number = next ∙ rw q }

-- a string without a backslash is decoded as it stands
plain-decoded : (x : List ℕ) (n at end : ℕ) → Span x at end → end ≡ at + n → has_byte 92 (slice at end x) ≡ false → decode_at x at end ≡ slice at end x
unfolding has_byte
plain-decoded x zero at end s e h = at-end s (omega arith) ∙ sym (no_byte s (omega arith))
plain-decoded x (suc n) at end s e h =
    let l : at < end = omega arith in
    let (p, q) = neither (eqb (get_or x at 0) 92) (has_byte 92 (slice (at + 1) end x)) (sym (ap (has_byte 92) (cross s l)) ∙ h) in
    at_plain s l (eqb-false (get_or x at 0) 92 p)
    ∙ ap (λ t. get_or x at 0 ∷ t) (plain-decoded x n (at + 1) end (onward s l) (omega arith) q)
    ∙ sym (cross s l)

-- the string has the bytes of the word at a place
pub right-guess : {words : List (List ℕ)} {x : List ℕ} {at end k : ℕ} → Span x at end → Numbered words → Unescaped words → k < length words → get_or words k [] ≡ slice at end x
    → k + 1 ≡ number_in 1 words (decode_at x at end)
right-guess {words} {x} {at} {end} {k} s n u h e =
    let d = plain-decoded x (end - at) at end s (omega (arith, s.low)) (ap (has_byte 92) (sym e) ∙ u.is k h) in
    sym (n.is k h) ∙ ap (number_in 1 words) (e ∙ sym d)

-- no quoted word has a backslash
unfoldable pub none-escaped : List String → Bool
unfolding has_byte ascii
none-escaped [] = true
none-escaped (w ∷ words) = not (has_byte 92 (ascii w)) && none-escaped words

escaped-at : (words : List String) (k : ℕ) → none-escaped words ≡ true → k < length words → has_byte 92 (ascii (get_or words k "")) ≡ false
unfolding none-escaped
escaped-at [] k e h = absurd (omega arith)
escaped-at (w ∷ words) zero e h = not-true _ (both_left _ _ e)
escaped-at (w ∷ words) (suc k) e h = escaped-at words k (both_right (not (has_byte 92 (ascii w))) _ e) (omega arith)

-- the number of a word is its code
number-code : (n : ℕ) (words : List String) (t : List ℕ) → number_in n (spelled words) t ≡ code_from n words t
unfolding number_in spelled code_from
number-code n [] t = refl
number-code n (w ∷ words) t = rw (number-code (n + 1) words t)

spelled-length : (words : List String) → length (spelled words) ≡ length words
unfolding spelled
spelled-length [] = refl
spelled-length (w ∷ words) = ap suc (spelled-length words)

spelled-at : (words : List String) (k : ℕ) → k < length words → get_or (spelled words) k [] ≡ ascii (get_or words k "")
unfolding spelled
spelled-at [] k h = absurd (omega arith)
spelled-at (w ∷ words) zero h = refl
spelled-at (w ∷ words) (suc k) h = spelled-at words k (omega arith)

-- the words of a list by their bytes
module _ (words : List String) {ws : List (List ℕ)} (e : ws ≡ spelled words) where
  pub number-is : (t : List ℕ) {r : ℕ} → r ≡ number_in 1 ws t → r ≡ code_of words t
  unfolding code_of
  number-is t q = q ∙ rw (e, number-code 1 words t)

  pub are-numbered : in_place words 1 words ≡ true → Numbered ws
  unfolding code_of
  are-numbered d =
      subst Numbered (sym e) (record {
        is = λ k h.
            let l : k < length words = omega (arith, spelled-length words) in
            number-code 1 words (get_or (spelled words) k []) ∙ ap (code_of words) (spelled-at words k l) ∙ word-code words d k l;
      })

  pub are-unescaped : none-escaped words ≡ true → Unescaped ws
  are-unescaped d =
      subst Unescaped (sym e) (record {
        is = λ k h.
            let l : k < length words = omega (arith, spelled-length words) in
            ap (has_byte 92) (spelled-at words k l) ∙ escaped-at words k d l;
      })
