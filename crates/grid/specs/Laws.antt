-- Laws of the set: it begins empty, and has what was put in and nothing else.
use Rattle.std.specs.Prelude.{ℕ, ◌+◌, ◌*◌, ◌/◌, ◌%◌, ◌^◌, ◌≤◌, ◌<◌, ◌≡◌, refl, Bool, true, false, ◌&&◌, ◌||◌, List, ◌⊎◌, length, get_or, eqb}
use Rattle.std.proofs.Common.{◌∙◌, inl, inr, eq-eqb, ne_eqb, eqb-true}
use Rattle.std.proofs.Math.Bool.{or-true, and-false}
use Rattle.std.proofs.Math.Nat.{zero-div}
use Rattle.grid.specs.Grid.{bit, holds, Puts}

-- no pair is in a set of zeroes
pub empty : (g : List ℕ) → ((i : ℕ) → get_or g i 0 ≡ 0) → (a b : ℕ) → holds g a b ≡ false
unfolding holds bit
empty g z a b = rw (z (a * 128 + b / 8), zero-div (2 ^ (b % 8)))

put-or-held : (c d t : Bool) (A B : Type 0) → (c ≡ true → A) → (d ≡ true → B) → ((c && d) || t) ≡ true → (A × B) ⊎ (t ≡ true)
put-or-held true true t A B f g e = inl (f refl, g refl)
put-or-held true false t A B f g e = inr e
put-or-held false d t A B f g e = inr e

module _ {g g' : List ℕ} {row column : ℕ} (p : Puts g g' row column) where
  -- the pair is in the set
  pub put_in : row * 128 + 128 ≤ length g → column < 1024 → holds g' row column ≡ true
  put_in r c = p.has row column r c ∙ rw (eq-eqb row row refl, eq-eqb column column refl)

  module _ (a b : ℕ) (r : a * 128 + 128 ≤ length g) (c : b < 1024) where
    -- what was in it still is
    pub put_keeps : holds g a b ≡ true → holds g' a b ≡ true
    put_keeps h = p.has a b r c ∙ rw h (or-true (eqb a row && eqb b column))

    -- pairs of another row or another column are as before
    pub put-other-row : (a ≡ row → ⊥) → holds g' a b ≡ holds g a b
    put-other-row n = p.has a b r c ∙ rw (ne_eqb a row n)

    pub put-other-column : (b ≡ column → ⊥) → holds g' a b ≡ holds g a b
    put-other-column n = p.has a b r c ∙ rw (ne_eqb b column n, and-false (eqb a row))

    -- a pair that is in the set is the one that was put, or was in it
    pub put_only : holds g' a b ≡ true → ((a ≡ row) × (b ≡ column)) ⊎ (holds g a b ≡ true)
    put_only h = put-or-held (eqb a row) (eqb b column) (holds g a b) (a ≡ row) (b ≡ column) (eqb-true a row) (eqb-true b column) (rw (p.has a b r c) at h)
