-- Characters and the bytes that each is written as, by RFC 3629, section 3.
use Rattle.std.specs.Prelude.{ℕ, zero, suc, ◌+◌, ◌*◌, ◌/◌, ◌%◌, ◌≡◌, Bool, true, false, cond, not, ◌&&◌, List, [], ◌∷◌, ◌++◌, take, eqb, leb, ltb}

-- "the Unicode range U+0000..U+10FFFF", without the surrogates U+D800..U+DFFF, which RFC 3629 prohibits
unfoldable pub is_character : ℕ → Bool
is_character c = leb c 0x10FFFF && not (leb 0xD800 c && leb c 0xDFFF)

-- a byte 10xxxxxx with the lowest six bits of n
unfoldable pub tail : ℕ → ℕ
tail n = 0x80 + n % 64

-- the bytes of a character: 0xxxxxxx; 110xxxxx 10xxxxxx; 1110xxxx and two more; 11110xxx and three more
unfoldable pub encode : ℕ → List ℕ
unfolding tail
encode c =
    cond (ltb c 0x80) (c ∷ [])
    (cond (ltb c 0x800) ((0xC0 + c / 64) ∷ tail c ∷ [])
    (cond (ltb c 0x10000) ((0xE0 + c / 4096) ∷ tail (c / 64) ∷ tail c ∷ [])
    ((0xF0 + c / 262144) ∷ tail (c / 4096) ∷ tail (c / 64) ∷ tail c ∷ [])))

-- "UTF-8 is RFC 3629": a sequence of characters
pub data Whole : List ℕ → Type 0 where
  nil : Whole []
  next : (c : ℕ) {s x : List ℕ} → is_character c ≡ true → x ≡ encode c ++ s → Whole s → Whole x

-- the number in the x bits of one to four bytes
unfoldable pub number : List ℕ → ℕ
number [] = 0
number (a ∷ []) = a
number (a ∷ b ∷ []) = a % 32 * 64 + b % 64
number (a ∷ b ∷ c ∷ []) = (a % 16 * 64 + b % 64) * 64 + c % 64
number (a ∷ b ∷ c ∷ d ∷ s) = ((a % 8 * 64 + b % 64) * 64 + c % 64) * 64 + d % 64

-- are two lists of numbers equal?
unfoldable pub same : List ℕ → List ℕ → Bool
same [] [] = true
same [] (y ∷ ys) = false
same (x ∷ xs) [] = false
same (x ∷ xs) (y ∷ ys) = eqb x y && same xs ys

-- are these bytes, one to four, those of a character?
unfoldable pub written : List ℕ → Bool
unfolding is_character encode number same
written s = is_character (number s) && same (encode (number s)) s

-- how many bytes the character has that the text begins with; 0 if it begins with none
unfoldable pub size : List ℕ → ℕ
unfolding written
size s =
    cond (written (take 1 s)) 1
    (cond (written (take 2 s)) 2
    (cond (written (take 3 s)) 3
    (cond (written (take 4 s)) 4 0)))

-- a character of n bytes is found, where k of them are still to be passed: none is found, or its bytes and what follows count
abbrev pub onward : ℕ → (ℕ → ℕ) → ℕ
onward zero rest = 0
onward (suc k) rest = suc k + rest k

-- the length of the longest prefix of whole characters, past k more bytes of a character that is counted already
unfoldable pub whole_from : ℕ → List ℕ → ℕ
unfolding size
whole_from k [] = 0
whole_from (suc k) (b ∷ s) = whole_from k s
whole_from zero (b ∷ s) = onward (size (b ∷ s)) (λ k. whole_from k s)

-- docs/RULES.md, rule 2: "length of the longest prefix of whole characters"
unfoldable pub whole_length : List ℕ → ℕ
unfolding whole_from
whole_length s = whole_from zero s
