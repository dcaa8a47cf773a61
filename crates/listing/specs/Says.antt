-- What the functions that write a line tell.
use Rattle.std.specs.Prelude.{ℕ, ◌≤◌, ◌≡◌, List, ◌++◌, length, drop}
use Rattle.writer.specs.Writes.{Writes}
use Rattle.listing.specs.Line.{decimal_digits}

-- the number n was to be written from `to` on, in at most 20 digits, and the cursor is r afterwards; the room was d₀ and is d
pub record Spells (n : ℕ) (d₀ d : List ℕ) (to r : ℕ) : Type 0 where
  pub writes : Writes (decimal_digits n) d₀ d to r
  pub short : length (decimal_digits n) ≤ 20

-- the same of a number after some words
pub record Phrases (words : List ℕ) (n : ℕ) (d₀ d : List ℕ) (to r : ℕ) : Type 0 where
  pub writes : Writes (words ++ decimal_digits n) d₀ d to r
  pub short : length (decimal_digits n) ≤ 20

-- the room was d₀ and is d: the line ws, of r bytes, and after it what was there
pub record Lists (ws d₀ d : List ℕ) (r : ℕ) : Type 0 where
  pub size : r ≡ length ws
  pub bytes : d ≡ ws ++ drop r d₀
  pub within : r ≤ length d
