-- A numeral by its parts, as RFC 8259, section 6, writes it: number = [ minus ] int [ frac ] [ exp ].
use Rattle.std.specs.Prelude.{ℕ, ◌+◌, Bool, cond, List, [], ◌∷◌, ◌++◌, map, ℤ, pos, ◌-ℤ◌}
use Rattle.std.proofs.Math.Bool.{true, false}
use Rattle.std.proofs.Math.ListN.{length}
use Rattle.numerals.specs.Laws.{Below10}
use Rattle.numerals.specs.Numerals.{Decimal, natural, signed}

-- one digit or more, each as its value
pub record Digits : Type 0 where
  pub first : ℕ
  pub others : List ℕ

-- frac = decimal-point 1*DIGIT, or none
pub data Fraction : Type 0 where
  no_fraction : Fraction
  point : Digits → Fraction

-- the sign of an exponent
pub data Sign : Type 0 where
  minus : Sign
  plus : Sign
  no_sign : Sign

-- exp = e [ minus / plus ] 1*DIGIT, or none; e is written small or as a capital
pub data Exponent : Type 0 where
  no-exponent : Exponent
  power : (capital : Bool) → Sign → Digits → Exponent

pub record Parts : Type 0 where
  pub negative : Bool
  pub int : Digits
  pub frac : Fraction
  pub exp : Exponent

abbrev pub values_of : Digits → List ℕ
values_of d = d.first ∷ d.others

unfoldable pub digit_bytes : Digits → List ℕ
digit_bytes d = map (λ v. 48 + v) (values_of d)

unfoldable pub minus_bytes : Bool → List ℕ
minus_bytes true = 45 ∷ []
minus_bytes false = []

unfoldable pub fraction_bytes : Fraction → List ℕ
unfolding digit_bytes
fraction_bytes no_fraction = []
fraction_bytes (point d) = 46 ∷ digit_bytes d

unfoldable pub sign_bytes : Sign → List ℕ
sign_bytes minus = 45 ∷ []
sign_bytes plus = 43 ∷ []
sign_bytes no_sign = []

unfoldable pub exponent_bytes : Exponent → List ℕ
unfolding sign_bytes digit_bytes
exponent_bytes no-exponent = []
exponent_bytes (power capital s d) = cond capital 69 101 ∷ sign_bytes s ++ digit_bytes d

unfoldable pub bytes_of : Parts → List ℕ
unfolding minus_bytes digit_bytes fraction_bytes exponent_bytes
bytes_of p = minus_bytes p.negative ++ digit_bytes p.int ++ fraction_bytes p.frac ++ exponent_bytes p.exp

abbrev pub fraction_values : Fraction → List ℕ
fraction_values no_fraction = []
fraction_values (point d) = values_of d

abbrev pub is_minus : Sign → Bool
is_minus minus = true
is_minus plus = false
is_minus no_sign = false

abbrev pub exponent_value : Exponent → ℤ
exponent_value no-exponent = pos 0
exponent_value (power capital s d) = signed (is_minus s) (natural 0 (values_of d))

-- all digits before the exponent as one number, times ten to the exponent less the digits after the point
unfoldable pub worth : Parts → Decimal
unfolding natural signed
worth p =
    record {
      m = signed p.negative (natural 0 (values_of p.int ++ fraction_values p.frac));
      e = exponent_value p.exp -ℤ pos (length (fraction_values p.frac));
    }

-- the digits are digits
abbrev pub ExponentDigits : Exponent → Type 0
ExponentDigits no-exponent = Unit {0}
ExponentDigits (power capital s d) = Below10 (values_of d)

pub record Sound (p : Parts) : Type 0 where
  pub int : Below10 (values_of p.int)
  pub frac : Below10 (fraction_values p.frac)
  pub exp : ExponentDigits p.exp
