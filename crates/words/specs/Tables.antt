-- What the functions are asked and tell besides the codes: the number of the first of some words that a text is; a table of the permitted geometries;
-- and a look at a string before it is compared with the types.
use Rattle.std.specs.Prelude.{ℕ, ◌+◌, ◌-◌, ◌/◌, ◌^◌, ◌<◌, ◌≡◌, Bool, false, cond, ◌&&◌, ◌||◌, List, [], ◌∷◌, length, get_or, eqb, leb}
use Prim.Native.String.{String}
use Rattle.std.specs.Int.Bits.{bit_and}
use Rattle.utf8.specs.Ascii.{ascii}
use Rattle.utf8.specs.Finite.{all_from, agree}
use Rattle.utf8.specs.Utf8.{same}
use Rattle.strings.specs.Spans.{has_byte}
use Rattle.words.specs.Words.{is_permitted}

-- the number, counted from n, of the first of some words that a text is; 0 if it is none of them
unfoldable pub number_in : ℕ → List (List ℕ) → List ℕ → ℕ
unfolding same
number_in n [] t = 0
number_in n (w ∷ ws) t = cond (same w t) n (number_in (n + 1) ws t)

-- no two of the words are the same: the number of each is its place, counted from 1
pub record Numbered (words : List (List ℕ)) : Type 0 where
  pub is : (k : ℕ) → k < length words → number_in 1 words (get_or words k []) ≡ k + 1

-- none of the words has a backslash
pub record Unescaped (words : List (List ℕ)) : Type 0 where
  pub is : (k : ℕ) → k < length words → has_byte 92 (get_or words k []) ≡ false

-- the bytes of quoted words
unfoldable pub spelled : List String → List (List ℕ)
unfolding ascii
spelled [] = []
spelled (w ∷ ws) = ascii w ∷ spelled ws

-- bit c of the number at o
unfoldable pub bit_at : List ℕ → ℕ → ℕ → Bool
bit_at rows o c = eqb (bit_and (get_or rows o 0 / 2 ^ c) 1) 1

-- does bit c of the number at o tell whether an object of code o may have a geometry of code c, for each o below 34 and each c below 8?
unfoldable pub tabled : List ℕ → Bool
unfolding bit_at is_permitted
tabled rows = all_from (λ o. all_from (λ c. agree (bit_at rows o c) (is_permitted o c)) 0 8) 0 34

-- may the string of the text x from at up to end be a type of the second level? Those have at least ten bytes and begin with B or T; an escape may stand
-- for the first byte.
unfoldable pub looks_second_level : List ℕ → ℕ → ℕ → Bool
looks_second_level x at end = leb 10 (end - at) && (eqb (get_or x at 0) 66 || eqb (get_or x at 0) 84 || eqb (get_or x at 0) 92)
