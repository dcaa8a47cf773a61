-- What `parse` tells of a text and of the node table that it writes. Definitions, and the theorem that they settle the answer.
use Rattle.std.specs.Prelude.{◌≡◌, ℕ, ◌+◌, ◌*◌, ◌<◌, ◌≤◌, cond, List, length, nat_lt, slice_index, Result, Ok, Err}
use Rattle.std.proofs.Common.{lt-ltb, le-ltb}
use Rattle.json_text.specs.Tree.{Json}
use Rattle.json_text.specs.Machine.{Outcome, read, reads, bad, too_deep}
use Rattle.json_text.specs.Table.{size, Sub}
use Rattle.json_text.specs.declared.Unread.{Unread}
use Rattle.json_text.specs.declared.Unread.TheVariants.{Bad, Deep, Long, Short}

-- the text x is read as a value, whose words are the first n of the table t, which was t₀; the others are as they were
pub record Stands (x t₀ t : List ℕ) (n : ℕ) : Type 0 where
  pub value : Json
  pub short : length x ≤ 65535
  pub room : 3 * length x + 99 ≤ 2 * length t₀
  pub reads : read x ≡ reads value
  pub stands : Sub x t 0 value
  pub ends : size value ≡ n
  pub long : length t ≡ length t₀
  pub rest : (k : ℕ) → n ≤ k → slice_index t k ≡ slice_index t₀ k

-- Long: the text has more than 65,535 bytes (docs/RULES.md, rule 1). Short: it has not, and the lent table has fewer words than a text of this length
-- may take. Neither writes anything. Otherwise what the machine says: the tree; or the place of the byte at which it stops (rule 3), or of the one
-- that opens a level too many (rule 4), and then the words of the table are free
unfoldable pub Tells : List ℕ → List ℕ → List ℕ → Result ℕ Unread → Type 0
Tells x t₀ t (Ok n) = Stands x t₀ t n
Tells x t₀ t (Err (Bad q)) = (length x ≤ 65535) × (read x ≡ bad q) × (3 * length x + 99 ≤ 2 * length t₀)
Tells x t₀ t (Err (Deep q)) = (length x ≤ 65535) × (read x ≡ too_deep q) × (3 * length x + 99 ≤ 2 * length t₀)
Tells x t₀ t (Err Long) = (65535 < length x) × (t ≡ t₀)
Tells x t₀ t (Err Short) = (length x ≤ 65535) × (2 * length t₀ < 3 * length x + 99) × (t ≡ t₀)

-- the machine's outcome as an answer
abbrev pub parsed_as : Outcome → Result ℕ Unread
parsed_as (reads v) = Ok (size v)
parsed_as (bad q) = Err (Bad q)
parsed_as (too_deep q) = Err (Deep q)

-- the answer for the text x and a table t₀
unfoldable pub answer : List ℕ → List ℕ → Result ℕ Unread
answer x t₀ = cond (nat_lt 65535 (length x)) (Err Long) (cond (nat_lt (2 * length t₀) (3 * length x + 99)) (Err Short) (parsed_as (read x)))

-- what is told settles the answer
pub settled : (x t₀ t : List ℕ) (r : Result ℕ Unread) → Tells x t₀ t r → r ≡ answer x t₀
unfolding Tells answer
settled x t₀ t (Ok n) h = rw (le-ltb 65535 (length x) h.short, le-ltb (2 * length t₀) (3 * length x + 99) h.room, h.reads, h.ends)
settled x t₀ t (Err (Bad q)) h = rw (le-ltb 65535 (length x) h.0, le-ltb (2 * length t₀) (3 * length x + 99) h.2, h.1)
settled x t₀ t (Err (Deep q)) h = rw (le-ltb 65535 (length x) h.0, le-ltb (2 * length t₀) (3 * length x + 99) h.2, h.1)
settled x t₀ t (Err Long) h = rw (lt-ltb 65535 (length x) h.0)
settled x t₀ t (Err Short) h = rw (le-ltb 65535 (length x) h.0, lt-ltb (2 * length t₀) (3 * length x + 99) h.1)
