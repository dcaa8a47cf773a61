-- Tests that are computed at each number of a range, and what they tell of one of the numbers.
use Rattle.std.specs.Prelude.{ℕ, zero, suc, ◌+◌, ◌<◌, ◌≡◌, refl, Bool, true, false, not, ◌&&◌}
use Rattle.std.proofs.Common.{arith, sym}
use Rattle.utf8.specs.Laws.{both_left, both_right}

-- does a test pass at each of the n numbers from i on?
abbrev pub all_from : (ℕ → Bool) → ℕ → ℕ → Bool
all_from f i zero = true
all_from f i (suc n) = f i && all_from f (suc i) n

-- then it passes at one of them
each_from : (f : ℕ → Bool) (i n k : ℕ) → all_from f i n ≡ true → k < n → f (i + k) ≡ true
each_from f i zero k e h = absurd (omega arith)
each_from f i (suc n) zero e h = let z : i + 0 ≡ i = omega arith in rw z (both_left (f i) _ e)
each_from f i (suc n) (suc k) e h = let z : i + suc k ≡ suc i + k = omega arith in rw z (each_from f (suc i) n k (both_right (f i) _ e) (omega arith))

pub each_below : (f : ℕ → Bool) (n k : ℕ) → all_from f 0 n ≡ true → k < n → f k ≡ true
each_below f n k e h = let z : k ≡ 0 + k = omega arith in rw z (each_from f 0 n k e h)

-- do two truth values agree?
abbrev pub agree : Bool → Bool → Bool
agree true b = b
agree false b = not b

pub agree-equal : (a b : Bool) → agree a b ≡ true → a ≡ b
agree-equal true b e = sym e
agree-equal false true e = e
agree-equal false false e = refl
