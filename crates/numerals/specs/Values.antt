-- Numbers by value (proofs/Values.antt).
use Rattle.std.specs.Prelude.{ℕ, ◌^◌, ◌≡◌, List, pos, ◌+ℤ◌, ◌-ℤ◌, ◌*ℤ◌}
use Rattle.numerals.specs.Numerals.{Decimal, natural, digits, mantissa, places, exponent, negative, signed}

-- a numeral is its digits before the exponent, as one number with its sign, times ten to the exponent less the places after the point (RFC 8259, section 6)
unfoldable pub as_written : List ℕ → Decimal
unfolding signed negative natural digits mantissa exponent places
as_written raw = record { m = signed (negative raw) (natural 0 (digits (mantissa raw))); e = exponent raw -ℤ pos (places raw) }

-- two pairs have one value: times one power of ten, 10^k, that makes both whole they are the same integer
pub record SameValue (a b : Decimal) : Type 0 where
  pub k : ℕ
  pub i : ℕ
  pub j : ℕ
  pub left : a.e +ℤ pos k ≡ pos i
  pub right : b.e +ℤ pos k ≡ pos j
  pub same : a.m *ℤ pos (10 ^ i) ≡ b.m *ℤ pos (10 ^ j)
