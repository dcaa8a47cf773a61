-- Where the machine stops, and that it says there that a level too many is opened, each exactly if: these follow from `Theorems`, and stand apart
-- from it so that an edit of one of those is refused by its own proof.
use Rattle.std.specs.Prelude.{ℕ, ◌+◌, ◌≤◌, ◌<◌, ◌≡◌, refl, List, ◌↔◌, length, take}
use Rattle.std.proofs.Common.{inl, inr}
use Rattle.utf8.specs.Laws.{clash}
use Rattle.json_text.specs.Tree.{Json}
use Rattle.json_text.specs.Machine.{Outcome, reads, bad, too_deep, read}
use Rattle.json_text.specs.Grammar.{Text, Begins}
use Rattle.grammar.specs.Reaches as reaches
use Rattle.grammar.specs.Theorems.{Stopped}
use Rattle.grammar.proofs.Theorems.{read-text, stops, deep-deeper, bad-never}

-- and it stops there exactly if besides the text is no text of the grammar with at most 32 levels
pub stops-exactly : (x : List ℕ) (n : ℕ)
    → Stopped x n ↔ (((v : Json) → Text 32 x v → ⊥) × ((n ≤ length x) × Begins 32 (take n x) × (n < length x → Begins 32 (take (n + 1) x) → ⊥)))
stops-exactly x n = ((λ s. ((λ v d. no s ((read-text x v).1 d)), stops x n s)), (λ (f, s). by (read x) refl f s))
  where
    no : {v : Json} → Stopped x n → read x ≡ reads v → ⊥
    no (inl e) q = clash cc
    no (inr e) q = clash cc

    by : (o : Outcome) → read x ≡ o → ((v : Json) → Text 32 x v → ⊥) → reaches.Stops 32 x n → Stopped x n
    by (reads v) e f s = absurd (f v ((read-text x v).0 e))
    by (bad k) e f s = let z = reaches.one_place 32 x n k s (stops x k (inl e)) in inl (cc)
    by (too_deep k) e f s = let z = reaches.one_place 32 x n k s (stops x k (inr e)) in inr (cc)

-- so where it stops, it says that a level too many is opened exactly if one byte more begins a text of the grammar with some number of levels
pub deep-exactly : (x : List ℕ) (n : ℕ) → Stopped x n → (read x ≡ too_deep n) ↔ ((n < length x) × ((l : ℕ) × Begins l (take (n + 1) x)))
deep-exactly x n s = ((λ e. ((deep-deeper x n e).0, (33, (deep-deeper x n e).1))), (λ (h, (l, b)). by s h l b))
  where
    by : Stopped x n → n < length x → (l : ℕ) → Begins l (take (n + 1) x) → read x ≡ too_deep n
    by (inl e) h l b = absurd (bad-never x n e h l b)
    by (inr e) h l b = e
