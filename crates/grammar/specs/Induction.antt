-- Induction on the levels of a value, and from the end of a text.
use Prim.{Unit}
use Rattle.std.specs.Prelude.{ℕ, zero, suc, ◌+◌, ◌≤◌, ◌<◌}
use Rattle.std.proofs.Common.{arith}

-- what holds of one level less, if there is one
abbrev pub Below : (ℕ → Type 0) → ℕ → Type 0
Below P zero = Unit
Below P (suc l) = P l

-- induction on levels
pub by-levels : (P : ℕ → Type 0) → ((l : ℕ) → Below P l → P l) → (l : ℕ) → P l
by-levels P law zero = law zero tt
by-levels P law (suc l) = law (suc l) (by-levels P law l)

-- what holds at n if it holds at each place after it up to the end of the text
pub backwards : (end : ℕ) (P : ℕ → Type 0) → ((n : ℕ) → ((n' : ℕ) → n < n' → n' ≤ end → P n') → P n) → (n : ℕ) → P n
backwards end P law n = by end n (omega arith)
  where
    by : (f n : ℕ) → end ≤ f + n → P n
    by zero n h = law n (λ n' l u. absurd (omega arith))
    by (suc f) n h = law n (λ n' l u. by f n' (omega arith))
