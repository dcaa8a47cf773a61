-- The verdict is the lowest broken rule (docs/RULES.md) at its earliest place, with the end of that place, and a text is accepted exactly if
-- it breaks no rule (promise 2 of README.md, for judge).
use Rattle.std.specs.Prelude.{ℕ, ◌+◌, ◌≤◌, ◌<◌, ◌≡◌, ◌⊎◌, length, take}
use mathlib.Core.List.{List, [], Memᴰ}
use Rattle.utf8.specs.Utf8.{whole_length}
use Rattle.json_text.specs.Tree.{Json}
use Rattle.json_text.specs.Machine.{reads, read}
use Rattle.json_text.specs.Grammar.{Text, Begins}
use Rattle.nodes.specs.Faults.{fault}
use Rattle.fields.specs.Fields.{objects_of}
use Rattle.everywhere.specs.Parts.{parts}
use Rattle.verdict.specs.EndLaws.{Alone}
use Rattle.verdict.specs.Verdict.{faults}

-- rules 3 and 4: "let n be the longest prefix that begins some JSON text and never has more than 32 levels open"
pub record Longest (x : List ℕ) (n : ℕ) : Type 0 where
  pub inside : n ≤ length x
  pub begins : Begins 32 (take n x)
  pub longest : (m : ℕ) → m ≤ length x → Begins 32 (take m x) → m ≤ n

-- the text breaks the rule at the place: rules 3 and 4 by the grammar alone, rules 5 to 17 in the tree of a text that is not too long.
-- "If n is short of the text, the place is n, with 4 when n+1 bytes still begin a deeper JSON text and 3 otherwise" (`too-deep`, `not-json`);
-- "If n is the whole length and the text is incomplete: 3 at n" (`incomplete`)
pub data Breaks (x : List ℕ) : ℕ → ℕ → Type 0 where
  too_long : 65535 < length x → Breaks x 1 65535
  not-utf8 : whole_length x < length x → Breaks x 2 (whole_length x)
  not-json : {n : ℕ} → Longest x n → n < length x → ((l : ℕ) → Begins l (take (n + 1) x) → ⊥) → Breaks x 3 n
  incomplete : {n : ℕ} → Longest x n → n ≡ length x → ((v : Json) → Text 32 x v → ⊥) → Breaks x 3 n
  too-deep : {n l : ℕ} → Longest x n → n < length x → Begins l (take (n + 1) x) → Breaks x 4 n
  in_tree : {r p : ℕ} (v : Json) → length x ≤ 65535 → Text 32 x v → p < 65536 → Memᴰ (fault r p) (faults v) → Breaks x r p

-- the end of a refusal by the rule at the place: "the place itself for 1 to 5", else "one past the last byte of the value or name at that place",
-- of which there is exactly one
pub data Ends (x : List ℕ) (r p : ℕ) : ℕ → Type 0 where
  itself : r < 6 → Ends x r p p
  part : {e : ℕ} (v : Json) → 6 ≤ r → Text 32 x v → Alone p (parts v) e → Ends x r p e

abbrev pub BreaksNone : List ℕ → Type 0
BreaksNone x = (r p : ℕ) → Breaks x r p → ⊥

-- the first is a lower rule than the second, or the same at a place that is no later
abbrev pub NoLater : ℕ → ℕ → ℕ → ℕ → Type 0
NoLater r p s q = (r < s) ⊎ ((r ≡ s) × (p ≤ q))

-- a text that is accepted: it is not too long, its characters are whole, it is JSON, and its tree has no fault
pub record Clean (x : List ℕ) (n : ℕ) : Type 0 where
  pub short : length x ≤ 65535
  pub whole : length x ≤ whole_length x
  pub value : Json
  pub reads : read x ≡ reads value
  pub clean : faults value ≡ []
  pub count : n ≡ length (objects_of value)

-- a text that is refused: it breaks the rule at the place, and none lower or earlier, and the end belongs to them
pub record Least (x : List ℕ) (r p e : ℕ) : Type 0 where
  pub broken : Breaks x r p
  pub least : (s q : ℕ) → Breaks x s q → NoLater r p s q
  pub ends : Ends x r p e
