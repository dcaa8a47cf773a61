-- What the code may read at a node, and in a loop over members.
use Rattle.std.specs.Prelude.{ℕ, ◌+◌, ◌*◌, ◌-◌, ◌^◌, ◌≤◌, ◌<◌, ◌≡◌, List, length, get_or}
use Rattle.std.proofs.Common.{arith, Fits}
use Rattle.std.specs.Int.{w64}
use Rattle.strings.specs.Spans.{Span}
use Rattle.json_text.specs.Tree.{Members}
use Rattle.json_text.specs.Table.{widths, Fields}
use Rattle.json_text.specs.Laws.{words, MembersLeft, MemberPast, member-past}
use Rattle.nodes.specs.Says.{Node}
use Rattle.nodes.specs.Laws.{StringAt, quoted-at}

-- a node's three words are there, and the index of what stands after them fits
module _ {x t : List ℕ} {i : ℕ} (d : Node x t i) where
  pub node-room : i + 2 < length t
  node-room = (words d.stands).room

  pub node-second : i + 1 < length t
  node-second = let w = words d.stands in omega (arith, w.room)

  pub node-first : i < length t
  node-first = let w = words d.stands in omega (arith, w.room)

  pub node-onward : length t * 4 < 2 ^ 63 → Fits w64 (i + 3)
  node-onward h = let w = words d.stands in record { fits = omega (arith, w.room) }

-- a string at a node, as the code reads it
module _ {x t : List ℕ} {k : ℕ} {raw : List ℕ} (s : StringAt x t k raw) where
  pub string-first : k < length t
  string-first = omega (arith, s.room)

  pub string-second : k + 1 < length t
  string-second = omega (arith, s.room)

  pub string-some : {e : ℕ} → e ≡ get_or t (k + 1) 0 → 1 ≤ e
  string-some q = rw q s.some

  pub string-fits : {p : ℕ} → p ≡ get_or t k 0 → length x * 1 < 2 ^ 63 → Fits w64 (p + 1)
  string-fits q h = record { fits = omega (arith, s.fits) }

  pub string-span : {p e : ℕ} → p ≡ get_or t k 0 → e ≡ get_or t (k + 1) 0 → Span x (p + 1) (e - 1)
  string-span q r = rw (q, r) s.span

  pub string-low : {p : ℕ} → length x ≤ 65535 → p ≡ get_or t k 0 → p ≤ 65535
  string-low h q = omega (arith, s.fits)

-- Loops over members: the words from k up to n are those of some members
pub record Walk (x t : List ℕ) (n k : ℕ) : Type 0 where
  pub members : Members
  pub stand : Fields x t k members
  pub ends : k + widths members ≡ n

pub walk_of : {x t : List ℕ} {n k : ℕ} {P : Members → Type 0} → MembersLeft x t k n P → Walk x t n k
walk_of l = record { members = l.members; stand = l.stand; ends = l.ends }

module _ {x t : List ℕ} {n k : ℕ} (c : Walk x t n k) where
  walk-past : k < n → MemberPast x t k n (λ ms. Unit)
  walk-past l = member-past (record { members = c.members; stand = c.stand; ends = c.ends; holds = tt }) l

  walk-string : (l : k < n) → StringAt x t k (walk-past l).key.raw
  walk-string l = quoted-at (walk-past l).quoted

  pub walk_first : k < n → k < length t
  walk_first l = string-first (walk-string l)

  pub walk-second : k < n → k + 1 < length t
  walk-second l = string-second (walk-string l)

  pub walk-room : k < n → k + 3 + 2 < length t
  walk-room l = (walk-past l).word.room

  -- the index of the member's value fits
  pub walk-onward : k < n → length t * 4 < 2 ^ 63 → Fits w64 (k + 3)
  walk-onward l h = record { fits = omega (arith, walk-room l) }

  pub walk-some : {e : ℕ} → k < n → e ≡ get_or t (k + 1) 0 → 1 ≤ e
  walk-some l q = string-some (walk-string l) q

  pub walk-fits : {p : ℕ} → k < n → p ≡ get_or t k 0 → length x * 1 < 2 ^ 63 → Fits w64 (p + 1)
  walk-fits l q h = string-fits (walk-string l) q h

  pub walk-span : {p e : ℕ} → k < n → p ≡ get_or t k 0 → e ≡ get_or t (k + 1) 0 → Span x (p + 1) (e - 1)
  walk-span l q r = string-span (walk-string l) q r

  pub walk-less : {m : ℕ} → k < n → m ≡ get_or t (k + 3 + 2) 0 → n - m < n - k
  walk-less l q = let u = walk-past l in omega (arith, u.more, u.within)

  pub walk-on : {m : ℕ} → k < n → m ≡ get_or t (k + 3 + 2) 0 → Walk x t n m
  walk-on l q = let u = walk-past l in record { members = u.others; stand = rw q u.then; ends = omega (arith, u.ends) }
