-- What the code's helper functions say of their results.
use Rattle.std.specs.Prelude.{ℕ, zero, suc, Option, Some, None, ◌+◌, ◌≤◌, ◌<◌, ◌≡◌, List, length, drop, get_or}
use Rattle.utf8.specs.Utf8.{whole_length}

-- the length of a character, if there is one: it is not 0
abbrev pub found : ℕ → Option ℕ
found zero = None
found (suc n) = Some (suc n)

-- none of the n bytes from this place on is above m
pub record Under (text : List ℕ) (at n m : ℕ) : Type 0 where
  pub most : (k : ℕ) → k < n → get_or text (at + k) 0 ≤ m

-- the whole characters from `at` on end where those from `next` on end, and where `next` is before `end` none stands there
pub record Passed (text : List ℕ) (at end next : ℕ) : Type 0 where
  pub inside : next ≤ length text
  pub on : at + whole_length (drop at text) ≡ next + whole_length (drop next text)
  pub stop : next < end → whole_length (drop next text) ≡ 0
