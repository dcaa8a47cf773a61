-- "The starred readings are one table under one statement about the definitions" (docs/TRACE.md, "Sample readings"); they "gain their ends".
use Rattle.std.specs.Prelude.{ℕ, ◌≡◌, refl, List, [], ◌∷◌, map, replicate}
use Rattle.utf8.specs.Ascii.{ascii}
use Rattle.sheets.specs.Laid.{Answer, laid, refused, answer}
use Rattle.sheets.proofs.Examples.{lays, minimal}

-- a text, and what the lister answers for it
abbrev pub Reading : Type 0
Reading = List ℕ × Answer

unfoldable pub starred : List Reading
unfolding ascii minimal
starred =
    ([], refused 3 0 0)
    ∷ (ascii "tru", refused 3 3 3)
    ∷ (ascii "01", refused 3 1 1)
    ∷ (0xFF ∷ [], refused 2 0 0)
    ∷ (replicate 32 91, refused 3 32 32)
    ∷ (replicate 33 91, refused 4 32 32)
    ∷ (ascii "\"\\uD800\"", refused 5 1 1)
    ∷ (ascii "{\"type\":1,\"type\":1}", refused 6 10 16)
    ∷ (ascii "{\"\\u0061\":1,\"a\":2}", refused 6 12 15)
    ∷ (ascii "{\"type\":1}", refused 7 8 9)
    ∷ (ascii "[]", refused 7 0 2)
    ∷ (ascii " {}", refused 8 1 3)
    -- 003's minimal CityJSON object
    ∷ (minimal, laid 78 0)
    ∷ []

-- the lister's room has 65,536 bytes
pub starred-readings : map (λ r. answer r.0 65536) starred ≡ map (λ r. r.1) starred
unfolding lays starred
starred-readings = refl
