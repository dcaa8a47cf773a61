-- The rows of RFC 3629, section 4, as data.
use Rattle.std.specs.Prelude.{ℕ, ◌<◌, ◌≡◌, Bool, true, false, ◌&&◌, List, [], ◌∷◌, ◌++◌, length, get_or, leb}
use Rattle.utf8.specs.Utf8.{is_character, encode}

-- "%xC2-DF": the bytes from the first to the last
infix 80 ◌to◌
pub data Range : Type 0 where
  ◌to◌ : ℕ → ℕ → Range

-- UTF8-tail = %x80-BF
abbrev pub utf8_tail : Range
utf8_tail = 0x80 to 0xBF

-- UTF8-char = UTF8-1 / UTF8-2 / UTF8-3 / UTF8-4
unfoldable pub rows : List (List Range)
rows =
    -- UTF8-1 = %x00-7F
    (0x00 to 0x7F ∷ []) ∷
    -- UTF8-2 = %xC2-DF UTF8-tail
    (0xC2 to 0xDF ∷ utf8_tail ∷ []) ∷
    -- UTF8-3 = %xE0 %xA0-BF UTF8-tail /
    (0xE0 to 0xE0 ∷ 0xA0 to 0xBF ∷ utf8_tail ∷ []) ∷
    --          %xE1-EC 2( UTF8-tail ) /
    (0xE1 to 0xEC ∷ utf8_tail ∷ utf8_tail ∷ []) ∷
    --          %xED %x80-9F UTF8-tail /
    (0xED to 0xED ∷ 0x80 to 0x9F ∷ utf8_tail ∷ []) ∷
    --          %xEE-EF 2( UTF8-tail )
    (0xEE to 0xEF ∷ utf8_tail ∷ utf8_tail ∷ []) ∷
    -- UTF8-4 = %xF0 %x90-BF 2( UTF8-tail ) /
    (0xF0 to 0xF0 ∷ 0x90 to 0xBF ∷ utf8_tail ∷ utf8_tail ∷ []) ∷
    --          %xF1-F3 3( UTF8-tail ) /
    (0xF1 to 0xF3 ∷ utf8_tail ∷ utf8_tail ∷ utf8_tail ∷ []) ∷
    --          %xF4 %x80-8F 2( UTF8-tail )
    (0xF4 to 0xF4 ∷ 0x80 to 0x8F ∷ utf8_tail ∷ utf8_tail ∷ []) ∷
    []

-- does the byte lie in the range?
unfoldable pub is_in : Range → ℕ → Bool
is_in (low to high) b = leb low b && leb b high

-- a text matches a row if its first bytes lie in the row's ranges, one by one
unfoldable pub matches : List Range → List ℕ → Bool
matches [] text = true
matches (range ∷ row) [] = false
matches (range ∷ row) (b ∷ text) = is_in range b && matches row text

-- the row with this number, counted from 0
unfoldable pub row : ℕ → List Range
row k = get_or rows k []

-- the text matches the row with this number
pub record Matches (k : ℕ) (text : List ℕ) : Type 0 where
  pub there : k < length rows
  pub all : matches (row k) text ≡ true

-- the text begins with this character, by section 3
pub record Begins (c : ℕ) (text : List ℕ) : Type 0 where
  pub character : is_character c ≡ true
  pub rest : List ℕ
  pub bytes : text ≡ encode c ++ rest
