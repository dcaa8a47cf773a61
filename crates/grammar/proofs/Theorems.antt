-- The machine of `json_text` and RFC 8259's grammar agree: what is read and as which tree, where the machine stops, and whether it says there
-- that a level too many is opened (docs/RULES.md, rules 3 and 4). The grammar alone decides each.
use Rattle.std.specs.Prelude.{ℕ, ◌+◌, ◌≤◌, ◌<◌, ◌≡◌, refl, List, [], ◌↔◌, length, take}
use Rattle.std.proofs.Common.{arith, sym, ◌∙◌, inl, inr}
use Rattle.json_text.specs.Tree.{Json}
use Rattle.json_text.specs.Machine.{reads, bad, too_deep, run, read}
use Rattle.json_text.specs.Machine.Mode.{want}
use Rattle.json_text.specs.Grammar.{Text, Begins}
use Rattle.grammar.specs.Order.{Spans}
use Rattle.grammar.specs.Accepts.{to-run, from-run}
use Rattle.grammar.specs.Derived.{derived}
use Rattle.grammar.specs.Parsed.{parsed}
use Rattle.grammar.specs.Reaches as reaches
use Rattle.grammar.proofs.Ordered as order
use Rattle.grammar.specs.Theorems.{Stopped}

-- the machine reads a text with at most l levels, as the tree v, exactly if the grammar derives it with at most l levels and the tree v
pub reads-text : (l : ℕ) (x : List ℕ) (v : Json) → (run l x want [] 0 x ≡ reads v) ↔ Text l x v
reads-text l x v = ((λ e. parsed (from-run x want [] 0 refl (omega arith) e)), (λ d. to-run (derived d)))

-- the same with at most 32 levels
pub read-text : (x : List ℕ) (v : Json) → (read x ≡ reads v) ↔ Text 32 x v
unfolding read
read-text x v = reads-text 32 x v

-- a text has one tree
pub one-tree : (l : ℕ) (x : List ℕ) (v w : Json) → Text l x v → Text l x w → v ≡ w
one-tree l x v w d e = let z : reads v ≡ reads w = sym ((reads-text l x v).1 d) ∙ (reads-text l x w).1 e in cc

-- which lies in order within the text
pub ordered : (l : ℕ) (x : List ℕ) (v : Json) → Text l x v → (p e : ℕ) × Spans v p e × (e ≤ length x)
ordered = order.ordered

-- where it stops, the bytes before begin some text of the grammar with at most 32 levels, and with one byte more they begin none
pub stops : (x : List ℕ) (n : ℕ) → Stopped x n → (n ≤ length x) × Begins 32 (take n x) × (n < length x → Begins 32 (take (n + 1) x) → ⊥)
unfolding read
stops x n (inl e) = reaches.bad-stops 32 x n (rw e at (reaches.halted 32 x))
stops x n (inr e) = reaches.deep-stops 32 x n (rw e at (reaches.halted 32 x))

-- where it says that a level too many is opened, one byte more begins a text of the grammar with at most 33 levels
pub deep-deeper : (x : List ℕ) (n : ℕ) → read x ≡ too_deep n → (n < length x) × Begins 33 (take (n + 1) x)
unfolding read
deep-deeper x n e = reaches.deep-deeper 32 x n (rw e at (reaches.halted 32 x))

-- where it says that the text is bad, one byte more begins no text of the grammar, with however many levels
pub bad-never : (x : List ℕ) (n : ℕ) → read x ≡ bad n → n < length x → (l : ℕ) → Begins l (take (n + 1) x) → ⊥
unfolding read
bad-never x n e = reaches.bad-never 32 x n (rw e at (reaches.halted 32 x))
