-- What the functions of the crate say of one another: the answer of `pair`, numbers that stop at the greatest that a machine word holds, and the digits of a
-- numeral read one byte at a time.
use Rattle.std.specs.Prelude.{ℕ, zero, suc, ◌+◌, ◌-◌, ◌*◌, ◌^◌, ◌≤◌, ◌<◌, min, ◌≡◌, Bool, true, false, cond, ◌&&◌, ◌||◌, Option, Some, None, List, [], ◌∷◌, length, drop, eqb, ltb, ℤ, pos, negsuc, nat_abs, ◌+ℤ◌, ◌-ℤ◌}
use Rattle.std.proofs.Math.Option.{none, some}
use Rattle.std.proofs.Math.Option as plain
use Rattle.utf8.specs.Ascii.{is_digit}
use Rattle.numerals.specs.Numerals.{Decimal, is_point, is_letter, is_integer, integer, fits32, digits, natural, negative, signed, mantissa, after}
use Rattle.numerals.specs.declared.Whole.{Whole}
use Rattle.numerals.specs.declared.Sum.{Sum}

-- the pair that an answer holds, if it holds one
unfoldable pub pair_in : Option (ℤ × ℤ) → plain.Option Decimal
pair_in (Some p) = some (record { m = p.0; e = p.1 })
pair_in None = none

-- the number that the digits among the bytes write, or 2^64 - 1 if it is greater
unfoldable pub saturated : List ℕ → ℕ
unfolding digits natural
saturated raw = min (natural 0 (digits raw)) (2 ^ 64 - 1)

-- an integer as sign and magnitude, the magnitude being at most 2^64 - 1
pub record IsWhole (raw : List ℕ) (w : Whole) : Type 0 where
  pub sign : w.negative ≡ negative raw
  pub size : w.magnitude ≡ saturated raw

-- does an integer lie from -low to high - 1?
unfoldable pub within : ℕ → ℕ → ℤ → Bool
within low high (pos n) = ltb n high
within low high (negsuc n) = ltb n low

-- no byte but digits
unfoldable pub all_digits : List ℕ → Bool
all_digits [] = true
all_digits (b ∷ s) = is_digit b && all_digits s

-- the number that at most nine digits write; none for other bytes
unfoldable pub quick_of : List ℕ → Option ℕ
unfolding all_digits digits natural
quick_of raw = cond (ltb (length raw) 10 && all_digits raw) (Some (natural 0 (digits raw))) None

-- is it a minus sign, or none, and digits, at most nine bytes in all?
unfoldable pub is_short : List ℕ → Bool
unfolding all_digits
is_short [] = false
is_short (b ∷ s) = ltb (length (b ∷ s)) 10 && cond (eqb b 45) (all_digits s) (all_digits (b ∷ s))

-- r is that number, and if there is one, the bytes are an integer of that value
pub record Quick (raw : List ℕ) (r : Option ℕ) : Type 0 where
  pub is : r ≡ quick_of raw
  pub whole : (n : ℕ) → r ≡ Some n → is_integer raw ≡ true
  pub value : (n : ℕ) → r ≡ Some n → integer raw ≡ pos n

-- r tells whether the bytes are short, and if they are, they are an integer that lies within 32 signed bits
pub record Short (raw : List ℕ) (r : Bool) : Type 0 where
  pub is : r ≡ is_short raw
  pub whole : r ≡ true → is_integer raw ≡ true
  pub fits : r ≡ true → fits32 (integer raw) ≡ true

-- the digits read so far and one more: as `more` of `Numerals`, and counted if the point was read
unfoldable pub digit : Sum → ℕ → Sum
digit s zero = record { m = s.m; zeros = s.zeros + 1; places = s.places + cond s.point 1 0; point = s.point }
digit s (suc d) = record { m = s.m * 10 ^ (s.zeros + 1) + suc d; zeros = 0; places = s.places + cond s.point 1 0; point = s.point }

-- and one more byte
unfoldable pub taken : Sum → ℕ → Sum
taken s b = cond (is_digit b) (digit s (b - 48)) (record { m = s.m; zeros = s.zeros; places = s.places; point = s.point || is_point b })

-- and many
unfoldable pub sums : Sum → List ℕ → Sum
sums s [] = s
sums s (b ∷ bs) = sums (taken s b) bs

abbrev pub nothing : Sum
nothing = record { m = 0; zeros = 0; places = 0; point = false }

-- m stops at 10^15
unfoldable pub capped : Sum → Sum
capped s = record { m = min s.m (10 ^ 15); zeros = s.zeros; places = s.places; point = s.point }

-- m is below 10^15, and both counts leave room for one more
pub record Room (s : Sum) : Type 0 where
  pub m : s.m < 10 ^ 15
  pub zeros : s.zeros < 2 ^ 63
  pub places : s.places < 2 ^ 63

-- the bytes up to the letter were read, and the exponent stands from next on
pub record IsRead (raw : List ℕ) (s : Sum) (next : ℕ) : Type 0 where
  pub sum : s ≡ sums nothing (mantissa raw)
  pub room : Room s
  pub high : next ≤ length raw
  pub rest : drop next raw ≡ after is_letter raw

unfoldable pub Reads : List ℕ → Option (Sum × ℕ) → Type 0
Reads raw (Some r) = IsRead raw r.0 r.1
Reads raw None = 10 ^ 15 ≤ (sums nothing (mantissa raw)).m

-- an integer is within 22 of 0, and is this one; or is not
unfoldable pub Reaches : ℤ → Option ℤ → Type 0
Reaches z (Some e) = (e ≡ z) × (nat_abs z ≤ 22)
Reaches z None = 22 < nat_abs z

-- the power of ten of a pair: zeros that were dropped, an exponent by its sign and magnitude, places after the point
unfoldable pub power_of : ℕ → ℕ → Bool → ℕ → ℤ
power_of zeros places neg n = pos zeros +ℤ (signed neg n -ℤ pos places)
