-- A set of pairs of numbers, as the bits of a list of bytes: a row of 128 bytes for each first number, and in it a bit for each second one.
use Rattle.std.specs.Prelude.{ℕ, ◌+◌, ◌*◌, ◌/◌, ◌%◌, ◌^◌, ◌≤◌, ◌<◌, ◌≡◌, Bool, cond, ◌&&◌, ◌||◌, List, length, get_or, set, eqb}

-- the bit k of a byte, from the lowest
unfoldable pub bit : ℕ → ℕ → Bool
bit w k = eqb (w / 2 ^ k % 2) 1

-- is the pair (row, column) in the set whose bits the bytes g are?
unfoldable pub holds : List ℕ → ℕ → ℕ → Bool
holds g row column = bit (get_or g (row * 128 + column / 8) 0) (column % 8)

-- a byte with its bit k set
unfoldable pub with_bit : ℕ → ℕ → ℕ
unfolding bit
with_bit w k = cond (bit w k) w (w + 2 ^ k)

-- the bytes g with the bit of the pair (row, column) set
unfoldable pub with_pair : List ℕ → ℕ → ℕ → List ℕ
unfolding with_bit
with_pair g row column = let at = row * 128 + column / 8 in set g at (with_bit (get_or g at 0) (column % 8))

-- g' are those bytes: they have the pair (row, column) besides those of g
pub record Puts (g g' : List ℕ) (row column : ℕ) : Type 0 where
  pub is : g' ≡ with_pair g row column
  pub room : length g' ≡ length g
  pub has : (a b : ℕ) → a * 128 + 128 ≤ length g → b < 1024 → holds g' a b ≡ ((eqb a row && eqb b column) || holds g a b)
