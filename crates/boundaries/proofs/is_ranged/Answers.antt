-- A number of few digits that is below the count.
use Rattle.std.proofs.Common.{ℕ, ◌<◌, ◌≡◌, Bool, true, false, Option, Some, None, MatchOption, refl, rules, tests}
use Rattle.std.proofs.lemmas.Bool.{not_from_true}
use Rattle.utf8.specs.Laws.{never}
use Rattle.boundaries.proofs.Outline.{clears-ranged}
use Rattle.boundaries.proofs.is_ranged.Goals as goal

-- what the test of the number says of it
told : (q : Option ℕ) (r : Bool) (count : ℕ) (P : ℕ → Type 0) → MatchOption q (r ≡ false) P → ((n : ℕ) → P n → r ≡ true → n < count)
    → r ≡ true → (n : ℕ) × (q ≡ Some n) × (n < count)
told None r count P m f e = absurd (never e m)
told (Some n) r count P m f e = (n, refl, f n m e)

pub returns : goal.returns
returns c =
    clears-ranged _ c.is_number.ensures (not_from_true _ c.if-not-is_number.false) c.start.ensures c.end.ensures c.quick.ensures _
    (told _ _ _ _ c.is_some_and.ensures (λ n p e. search (rules, tests)))
