-- Laws of the numbers in rows.
use Rattle.std.specs.Prelude.{ℕ, suc, ◌≤◌, Bool, true, false, cond, List, [], ◌∷◌, length}
use Rattle.std.proofs.Common.{arith}
use Rattle.utf8.specs.Utf8.{same}
use Rattle.json_text.specs.Tree.{Json}
use Rattle.nodes.specs.Access.{is_string_value, text_of}
use Rattle.model.specs.Model.{object_number}
use Rattle.rows.specs.Rows.{link_number}

-- a number is at most the count of the objects
number-most : (names : List (List ℕ)) (u : List ℕ) → object_number names u ≤ length names
unfolding object_number
number-most [] u = omega arith
number-most (i ∷ names) u = of (same i u) (number-most names u)
  where
    of : (b : Bool) → object_number names u ≤ length names → cond b 0 (suc (object_number names u)) ≤ suc (length names)
    of true h = omega arith
    of false h = omega arith

pub link-most : (names : List (List ℕ)) (v : Json) → link_number names v ≤ length names
unfolding link_number
link-most names v = of (is_string_value v)
  where
    of : (b : Bool) → cond b (object_number names (text_of v)) (length names) ≤ length names
    of true = number-most names (text_of v)
    of false = omega arith
