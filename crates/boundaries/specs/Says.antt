-- What the checks of values over a boundary ask and tell.
use Rattle.std.specs.Prelude.{◌≡◌, Bool, ◌&&◌, List, ℕ, length, eqb}
use Rattle.json_text.specs.Tree.{Json}
use Rattle.json_text.specs.Table.{Sub}
use Rattle.nodes.specs.Access.{is_array_value, elements}
use Rattle.nodes.specs.Says.{Node}

-- values stand at two nodes
pub record Nodes (x t : List ℕ) (i j : ℕ) : Type 0 where
  pub one : Node x t i
  pub two : Node x t j

-- r is what f gives for the values that stand at two nodes
pub record GivesTwo {A : Type 0} (f : Json → Json → A) (x t : List ℕ) (i j : ℕ) (r : A) : Type 0 where
  pub is : (v w : Json) → Sub x t i v → Sub x t j w → r ≡ f v w

-- the second is an array of as many elements as the first has
unfoldable pub agree : Json → Json → Bool
unfolding is_array_value elements
agree v w = is_array_value w && eqb (length (elements v)) (length (elements w))
