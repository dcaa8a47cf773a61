-- The line that the lister prints for an answer of lay.
use Rattle.std.specs.Prelude.{ℕ, zero, suc, ◌+◌, ◌/◌, ◌%◌, true, false, List, [], ◌∷◌, ◌++◌, ltb}
use Rattle.utf8.specs.Ascii.{ascii}
use Rattle.sheets.specs.Laid.{Answer, laid, refused}

-- the decimal digits of n with no zero in front, one more than `more` at most
unfoldable pub spelled : ℕ → ℕ → List ℕ
spelled zero n = (48 + n % 10) ∷ []
spelled (suc more) n = elim (ltb n 10) [ true ↦ (48 + n) ∷ [] | false ↦ spelled more (n / 10) ++ ((48 + n % 10) ∷ []) ]

-- a number has no more digits than its value and one
unfoldable pub decimal_digits : ℕ → List ℕ
unfolding spelled
decimal_digits n = spelled n n

-- "prints exactly `laid 78 bytes, objects 0` and a line feed"; with the end of a refusal, "`refused 6 at 7 to 10` for `{"a":1,"a":2}` and
-- `refused 8 at 0 to 2` for `{}`"
unfoldable pub line_of : Answer → List ℕ
unfolding ascii decimal_digits
line_of (laid size objects) = ascii "laid " ++ decimal_digits size ++ ascii " bytes, objects " ++ decimal_digits objects ++ (10 ∷ [])
line_of (refused rule place end) =
    ascii "refused " ++ decimal_digits rule ++ ascii " at " ++ decimal_digits place ++ ascii " to " ++ decimal_digits end ++ (10 ∷ [])
