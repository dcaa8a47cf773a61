-- What the first byte of a value tells, from what the code's tests say.
use Prim.Native.Nat.{ℕ, ◌≤◌, ◌<◌}
use mathlib.Core.Path.{◌≡◌, ap, ◌∙◌}
use mathlib.Core.Bool.{Bool, true, false}
use mathlib.Core.List.{List}
use native.Mathlib.Omega.{arith}
use lib.ListN.{length, get_or}
use lib.Dec.{eqb}
use borrow.Author.Rules.{rules}
use borrow.Author.Tests.{ne_eqb, le-leb, lt-leb}
use Rattle.utf8.specs.Ascii.{is_digit}
use Rattle.json_text.specs.Tree.{Json}
use Rattle.json_text.specs.Table.{is_numeric, Sub}
use Rattle.json_text.specs.Laws.{words}
use Rattle.nodes.specs.Access.{is_null_value, is_number_value, is_string_value, is_array_value, is_object_value}
use Rattle.nodes.specs.Says.{Node, Gives}
use Rattle.nodes.specs.Laws.{Kinds, kinds}
use Rattle.nodes.specs.Reads.{node-room, node-first}

-- a node starts within the text
pub node-inside : {x t : List ℕ} {i p : ℕ} → Node x t i → p ≡ get_or t i 0 → p < length x
node-inside d e = let w = words d.stands in omega (arith, w.start, w.some, w.inside)

pub first_byte : (x t : List ℕ) (i p : ℕ) → p ≡ get_or t i 0 → get_or x p 0 ≡ get_or x (get_or t i 0) 0
first_byte x t i p e = ap (λ (p : ℕ). get_or x p 0) e

-- the kinds that one byte tells
module _ {x t : List ℕ} {i b : ℕ} (e : b ≡ get_or x (get_or t i 0) 0) where
  first-kinds : (v : Json) → Sub x t i v → Kinds b v
  first-kinds v s = rw e (kinds s)

  pub gives-null : Gives is_null_value x t i (eqb b 110)
  gives-null = record { is = λ v s. (first-kinds v s).null }

  pub gives-string : Gives is_string_value x t i (eqb b 34)
  gives-string = record { is = λ v s. (first-kinds v s).string }

  pub gives_array : Gives is_array_value x t i (eqb b 91)
  gives_array = record { is = λ v s. (first-kinds v s).array }

  pub gives-object : Gives is_object_value x t i (eqb b 123)
  gives-object = record { is = λ v s. (first-kinds v s).object }

  -- a numeral's
  gives-number : {r : Bool} → r ≡ is_numeric b → Gives is_number_value x t i r
  gives-number q = record { is = λ v s. q ∙ (first-kinds v s).number }

  pub number-minus : b ≡ 45 → Gives is_number_value x t i true
  unfolding is_numeric is_digit
  number-minus q = gives-number (rw q)

  pub number-digit : 48 ≤ b → b < 58 → Gives is_number_value x t i true
  unfolding is_numeric is_digit
  number-digit l h = gives-number (rw (ne_eqb b 45 (λ q. omega arith), le-leb 48 b l, le-leb b 57 (omega arith)))

  pub number-low : (b ≡ 45 → ⊥) → b < 48 → Gives is_number_value x t i false
  unfolding is_numeric is_digit
  number-low n l = gives-number (rw (ne_eqb b 45 n, lt-leb 48 b l))

  pub number-high : 58 ≤ b → Gives is_number_value x t i false
  unfolding is_numeric is_digit
  number-high h = gives-number (rw (ne_eqb b 45 (λ q. omega arith), le-leb 48 b (omega arith), lt-leb b 57 (omega arith)))

pub ruleset firsts = (rules, node-room, node-first, node-inside, first_byte, gives-null, gives-string, gives_array, gives-object, number-minus, number-digit, number-low, number-high)
