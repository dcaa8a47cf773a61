-- What the checks over a node table ask and tell.
use Rattle.std.specs.Prelude.{◌≡◌, Bool, true, not, ◌||◌, List, [], ◌⊎◌, ℕ, ℤ, Result, Ok, Err}
use Rattle.std.proofs.Math.Option.{Option}
use Rattle.std.proofs.Common.{inl, inr}
use Rattle.json_text.specs.Tree.{Json}
use Rattle.json_text.specs.Table.{Sub}
use Rattle.nodes.specs.Access.{is_object_value}
use Rattle.nodes.specs.Faults.{least}
use Rattle.nodes.specs.Says.{Finds}
use Rattle.nodes.specs.Says.{Found}
use Rattle.shapes.specs.Checks.{Check, unless, is_some}
use Rattle.numerals.specs.Numerals.{Decimal}
use Rattle.shapes.specs.Shapes.{is_integer_value, coordinate, pair_or_fault}

-- if r is true, the check finds no fault in the value that stands at the node i
pub record Clears (c : Check) (x t : List ℕ) (i : ℕ) (r : Bool) : Type 0 where
  pub none : r ≡ true → (v : Json) → Sub x t i v → c v ≡ []

-- if r is true, the value that stands at the node i is an integer that fits 32 signed bits
pub record IsSmall (x t : List ℕ) (i : ℕ) (r : Bool) : Type 0 where
  pub whole : r ≡ true → (v : Json) → Sub x t i v → is_integer_value v ≡ true
  pub fits : r ≡ true → (v : Json) → Sub x t i v → coordinate v ≡ []

-- r is the least of best and the fault of rule 8 at the value that stands at the node i, unless what was found is there
pub record Needs (x t : List ℕ) (found : Found) (i best r : ℕ) : Type 0 where
  pub is : (v : Json) (o : Option Json) → Sub x t i v → Finds x t o found → r ≡ least best (unless (not (is_object_value v) || is_some o) 8 v)

-- what `pair` answers, as the pair or the fault that it is
unfoldable pub paired_as : Result (ℤ × ℤ) ℕ → Decimal ⊎ ℕ
paired_as (Ok p) = inl (record { m = p.0; e = p.1 })
paired_as (Err f) = inr f

-- r is the pair of the number that stands at the node i, or its fault of rule 13
pub record GivesPair (x t : List ℕ) (i : ℕ) (r : Result (ℤ × ℤ) ℕ) : Type 0 where
  pub is : (v : Json) → Sub x t i v → paired_as r ≡ pair_or_fault v
