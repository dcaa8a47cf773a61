-- A text that begins with a character, by section 3 of RFC 3629, matches exactly one row of section 4, and any other text none.
use Rattle.std.specs.Prelude.{ℕ, ◌≡◌, List, length}
use Rattle.utf8.specs.Utf8.{encode}
use Rattle.utf8.specs.Rows.{row, Matches, Begins}
use Rattle.utf8.specs.Laws.{form}
use Rattle.utf8.proofs.RowLaws.{matches-fits, row_is, row-of, only-match}

-- what matches a row begins with a character that is as long as the row
pub row-character : (k : ℕ) (text : List ℕ) → Matches k text → (c : ℕ) × Begins c text × (length (row k) ≡ length (encode c))
row-character k text m = row_is k m.there text (matches-fits (row k) text m.all)

-- a text that begins with a character matches one row and no other, and the row is as long as the character
pub one-row : (c : ℕ) (text : List ℕ) → Begins c text → (k : ℕ) × Matches k text × (length (row k) ≡ length (encode c)) × ((j : ℕ) → Matches j text → j ≡ k)
one-row c text b =
    let (k, m, l) = row-of c b.character b.rest (form c) in
    let n : Matches k text = rw b.bytes m in
    (k, n, l, λ j o. only-match j k text n o)

-- a text that begins with no character matches no row
pub no_row : (text : List ℕ) → ((c : ℕ) → Begins c text → ⊥) → (k : ℕ) → Matches k text → ⊥
no_row text h k m = let (c, b, l) = row-character k text m in h c b
