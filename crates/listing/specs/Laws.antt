-- The decimal digits of a number write its value.
use Rattle.std.specs.Prelude.{◌≡◌, refl, Bool, true, false, List, [], ◌∷◌, ◌++◌, ℕ, zero, suc, ◌+◌, ◌*◌, ◌-◌, ◌/◌, ◌%◌, ◌≤◌, ltb}
use Rattle.std.proofs.Common.{◌∙◌, arith, ltb-false}
use Rattle.listing.specs.Line.{spelled, decimal_digits}

-- the number that digits write, read after a number
unfoldable pub digits_value : ℕ → List ℕ → ℕ
digits_value n [] = n
digits_value n (b ∷ s) = digits_value (n * 10 + (b - 48)) s

digits_value-append : (n : ℕ) (a b : List ℕ) → digits_value n (a ++ b) ≡ digits_value (digits_value n a) b
unfolding digits_value
digits_value-append n [] b = refl
digits_value-append n (x ∷ a) b = digits_value-append (n * 10 + (x - 48)) a b

digits_value-spelled : (more n : ℕ) → n ≤ more → digits_value 0 (spelled more n) ≡ n
unfolding digits_value spelled
digits_value-spelled zero n h = omega arith
digits_value-spelled (suc more) n h = by-test (ltb n 10) refl (λ l. digits_value-spelled more (n / 10) l)
  where
    by-test : (y : Bool) → ltb n 10 ≡ y → (n / 10 ≤ more → digits_value 0 (spelled more (n / 10)) ≡ n / 10)
        → digits_value 0 (elim y [ true ↦ (48 + n) ∷ [] | false ↦ spelled more (n / 10) ++ ((48 + n % 10) ∷ []) ]) ≡ n
    by-test true e tens = omega arith
    by-test false e tens =
        let high = ltb-false n 10 e in
        let rest : n / 10 ≤ more = omega arith in
        digits_value-append 0 (spelled more (n / 10)) ((48 + n % 10) ∷ []) ∙ rw (tens rest) (omega arith)

pub decimal-value : (n : ℕ) → digits_value 0 (decimal_digits n) ≡ n
unfolding decimal_digits
decimal-value n = digits_value-spelled n n (omega arith)
