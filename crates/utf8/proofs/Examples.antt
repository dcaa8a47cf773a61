-- Worked examples of `whole_length`, and of the rows.
use Rattle.std.specs.Prelude.{ℕ, suc, ◌≡◌, refl, cond, List, [], ◌∷◌}
use Rattle.utf8.specs.Utf8.{is_character, tail, encode, number, same, written, size, whole_from, whole_length}
use Rattle.utf8.specs.Rows.{Range, rows, is_in, matches}

-- the empty text
empty : whole_length [] ≡ 0
unfolding whole_length
empty = refl

-- a byte that begins no character
never_first : whole_length (0xFF ∷ []) ≡ 0
unfolding is_character tail encode number same written size whole_from whole_length
never_first = refl

-- the euro sign, U+20AC
euro : whole_length (0xE2 ∷ 0x82 ∷ 0xAC ∷ []) ≡ 3
unfolding is_character tail encode number same written size whole_from whole_length
euro = refl

-- the euro sign without its last byte
cut : whole_length (0xE2 ∷ 0x82 ∷ []) ≡ 0
unfolding is_character tail encode number same written size whole_from whole_length
cut = refl

-- `A`, and U+0000 in two bytes
overlong : whole_length (0x41 ∷ 0xC0 ∷ 0x80 ∷ []) ≡ 1
unfolding is_character tail encode number same written size whole_from whole_length
overlong = refl

-- the surrogate U+D800
surrogate : whole_length (0xED ∷ 0xA0 ∷ 0x80 ∷ []) ≡ 0
unfolding is_character tail encode number same written size whole_from whole_length
surrogate = refl

-- one past U+10FFFF
past : whole_length (0xF4 ∷ 0x90 ∷ 0x80 ∷ 0x80 ∷ []) ≡ 0
unfolding is_character tail encode number same written size whole_from whole_length
past = refl

-- ---- the rows

-- the numbers of the rows that match, from k on
unfoldable matching : List (List Range) → ℕ → List ℕ → List ℕ
unfolding matches is_in
matching [] k text = []
matching (row ∷ rs) k text = cond (matches row text) (k ∷ matching rs (suc k) text) (matching rs (suc k) text)

-- the euro sign, and a letter after it
euro-row : matching rows 0 (0xE2 ∷ 0x82 ∷ 0xAC ∷ 0x41 ∷ []) ≡ 3 ∷ []
unfolding rows matching
euro-row = refl

-- the last character before the surrogates
last_row : matching rows 0 (0xED ∷ 0x9F ∷ 0xBF ∷ []) ≡ 4 ∷ []
unfolding rows matching
last_row = refl

-- U+10FFFF
top-row : matching rows 0 (0xF4 ∷ 0x8F ∷ 0xBF ∷ 0xBF ∷ []) ≡ 8 ∷ []
unfolding rows matching
top-row = refl

-- a surrogate
surrogate-row : matching rows 0 (0xED ∷ 0xA0 ∷ 0x80 ∷ []) ≡ []
unfolding rows matching
surrogate-row = refl

-- a cut character, and no text
cut-row : matching rows 0 (0xE2 ∷ 0x82 ∷ []) ≡ []
unfolding rows matching
cut-row = refl

empty-row : matching rows 0 [] ≡ []
unfolding rows matching
empty-row = refl
