-- JSON numerals by their value (RFC 8259, section 6; docs/RULES.md, rules 12 and 13). The definitions take any bytes; what they make of bytes
-- that are no numeral matters nowhere.
use Rattle.std.specs.Prelude.{ℕ, zero, suc, ◌+◌, ◌-◌, ◌*◌, ◌^◌, Bool, true, false, cond, not, ◌&&◌, ◌||◌, List, [], ◌∷◌, ◌++◌, length, get_or, eqb, leb, ltb, ℤ, pos, negsuc, neg_ℤ, nat_abs, ◌+ℤ◌, ◌-ℤ◌, ◌*ℤ◌}
use Rattle.std.proofs.Math.Option.{Option, none, some}
use Rattle.utf8.specs.Ascii.{is_digit}

-- m times ten to the e
pub record Decimal : Type 0 where
  pub m : ℤ
  pub e : ℤ

-- the bytes before the first that a test names, and those after it
unfoldable pub before : (ℕ → Bool) → List ℕ → List ℕ
before test [] = []
before test (b ∷ s) = elim (test b) [ true ↦ [] | false ↦ b ∷ before test s ]

unfoldable pub after : (ℕ → Bool) → List ℕ → List ℕ
after test [] = []
after test (b ∷ s) = elim (test b) [ true ↦ s | false ↦ after test s ]

-- a decimal point; the letter before an exponent
unfoldable pub is_point : ℕ → Bool
is_point b = eqb b 46

unfoldable pub is_letter : ℕ → Bool
is_letter b = eqb b 101 || eqb b 69

-- the values of the digits among the bytes
unfoldable pub digits : List ℕ → List ℕ
unfolding is_digit
digits [] = []
digits (b ∷ s) = cond (is_digit b) ((b - 48) ∷ []) [] ++ digits s

-- the number that digits write, after the number so far
unfoldable pub natural : ℕ → List ℕ → ℕ
natural n [] = n
natural n (d ∷ ds) = natural (n * 10 + d) ds

-- does a minus sign come first?
unfoldable pub negative : List ℕ → Bool
negative raw = eqb (get_or raw 0 0) 45

unfoldable pub signed : Bool → ℕ → ℤ
signed true n = neg_ℤ (pos n)
signed false n = pos n

-- ---- integers

-- rule 12: "An integer is a JSON number with no fraction and no exponent part"
unfoldable pub is_integer : List ℕ → Bool
unfolding is_point is_letter
is_integer [] = true
is_integer (b ∷ s) = not (is_point b || is_letter b) && is_integer s

-- the value of an integer; -0 is 0
unfoldable pub integer : List ℕ → ℤ
unfolding digits natural negative signed
integer raw = signed (negative raw) (natural 0 (digits raw))

-- does an integer lie from -2^31 to 2^31 - 1, as 32 signed bits hold it?
unfoldable pub fits32 : ℤ → Bool
fits32 (pos n) = ltb n (2 ^ 31)
fits32 (negsuc n) = ltb n (2 ^ 31)

-- is an integer "at least 0 and below" the count (rule 13)?
unfoldable pub is_below : ℕ → ℤ → Bool
is_below count (pos n) = ltb n count
is_below count (negsuc n) = false

-- ---- pairs

-- the digits read so far, as a number that is no multiple of ten, or zero, and how many zeros follow it
pub record Trimmed : Type 0 where
  pub m : ℕ
  pub zeros : ℕ

abbrev pub more : Trimmed → ℕ → Trimmed
more t zero = record { m = t.m; zeros = t.zeros + 1 }
more t (suc d) = record { m = t.m * 10 ^ (t.zeros + 1) + suc d; zeros = 0 }

unfoldable pub trimmed : Trimmed → List ℕ → Trimmed
trimmed t [] = t
trimmed t (d ∷ ds) = trimmed (more t d) ds

-- the parts of a numeral: its digits before the exponent, how many of those stand after the point, and the exponent
unfoldable pub mantissa : List ℕ → List ℕ
unfolding before is_letter
mantissa raw = before is_letter raw

unfoldable pub places : List ℕ → ℕ
unfolding mantissa after is_point digits
places raw = length (digits (after is_point (mantissa raw)))

unfoldable pub exponent : List ℕ → ℤ
unfolding after is_letter digits natural negative signed
exponent raw = signed (negative (after is_letter raw)) (natural 0 (digits (after is_letter raw)))

abbrev pub none_yet : Trimmed
none_yet = record { m = 0; zeros = 0 }

-- the pair of trimmed digits with a sign and an exponent
unfoldable pub scaled : Bool → Trimmed → ℤ → Decimal
unfolding signed
scaled neg t e = cond (eqb t.m 0) (record { m = pos 0; e = pos 0 }) (record { m = signed neg t.m; e = pos t.zeros +ℤ e })

-- rule 13: "a pair (m, e), meaning m times ten to the e: zero is (0, 0); otherwise m isn't a multiple of ten"
unfoldable pub decimal : List ℕ → Decimal
unfolding scaled trimmed digits mantissa negative exponent places
decimal raw = scaled (negative raw) (trimmed none_yet (digits (mantissa raw))) (exponent raw -ℤ pos (places raw))

-- rule 13: "The absolute value of m is below 10^15 and e lies from -22 to 22"
unfoldable pub in_range : Decimal → Bool
in_range d = ltb (nat_abs d.m) (10 ^ 15) && leb (nat_abs d.e) 22

-- the pair of a numeral, or none if it cannot be read as such a pair
unfoldable pub pair_of : List ℕ → Option Decimal
unfolding decimal in_range
pair_of raw = cond (in_range (decimal raw)) (some (decimal raw)) none

-- ---- a pair as an integer

-- m times ten to the e; 0 for a negative e
unfoldable pub times_ten : ℤ → ℤ → ℤ
times_ten m (pos k) = m *ℤ pos (10 ^ k)
times_ten m (negsuc k) = pos 0

unfoldable pub whole_of : Decimal → ℤ
unfolding times_ten
whole_of d = times_ten d.m d.e
