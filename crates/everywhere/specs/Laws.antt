-- A law of chains.
use Rattle.std.specs.Prelude.{ℕ, ◌≡◌, refl, Bool, true, false, List}
use Rattle.std.proofs.Common.{ap}
use Rattle.utf8.specs.Utf8.{same}
use Rattle.utf8.specs.Laws.{same-equal}
use Rattle.everywhere.specs.Chains.{chain_of}

-- texts of other chains are other texts
pub other_text : (u w : List ℕ) (b : Bool) → same u w ≡ b → (chain_of u ≡ chain_of w → ⊥) → b ≡ false
other_text u w true e n = absurd (n (ap chain_of (same-equal u w e)))
other_text u w false e n = refl
