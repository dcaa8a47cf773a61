-- The lines of the sample readings (docs/TRACE.md), and others, computed.
use Rattle.std.specs.Prelude.{◌≡◌, refl, List, [], ◌∷◌, ◌++◌, ℕ}
use Prim.Native.String.{String}
use Rattle.utf8.specs.Ascii.{ascii}
use Rattle.sheets.specs.Laid.{laid, refused}
use Rattle.listing.specs.Line.{line_of}

-- a line and its line feed
ended : String → List ℕ
unfolding ascii
ended line = ascii line ++ (10 ∷ [])

-- for the minimal object
minimal : line_of (laid 78 0) ≡ ended "laid 78 bytes, objects 0"
unfolding line_of ended
minimal = refl

-- for `{}`
empty-object : line_of (refused 8 0 2) ≡ ended "refused 8 at 0 to 2"
unfolding line_of ended
empty-object = refl

-- for `{"a":1,"a":2}`
repeated-name : line_of (refused 6 7 10) ≡ ended "refused 6 at 7 to 10"
unfolding line_of ended
repeated-name = refl

-- for a text that is too long
too_long : line_of (refused 1 65535 65535) ≡ ended "refused 1 at 65535 to 65535"
unfolding line_of ended
too_long = refl

-- zeros within and at the end of a number
zeros : line_of (laid 10203 1000) ≡ ended "laid 10203 bytes, objects 1000"
unfolding line_of ended
zeros = refl
