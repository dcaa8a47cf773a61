-- What the functions over sets and rows ask and tell.
use Rattle.std.specs.Prelude.{ℕ, ◌+◌, ◌*◌, ◌<◌, ◌≤◌, ◌≡◌, Bool, not, ◌&&◌, List, [], ◌∷◌, length, get_or, ltb}
use Rattle.utf8.specs.Finite.{all_from}
use Rattle.grid.specs.Grid.{holds}
use Rattle.words.specs.Words.{has}
use Rattle.marks.specs.Marks.{row_of, once}

-- the row of the set g has just these numbers of objects
pub record Row (count : ℕ) (g : List ℕ) (row : ℕ) (ns : List ℕ) : Type 0 where
  pub is : (n : ℕ) → n < count → holds g row n ≡ has ns n

-- the sets g and g' differ in one row at most
pub record Beside (g g' : List ℕ) (row : ℕ) : Type 0 where
  pub room : length g' ≡ length g
  pub others : (a b : ℕ) → a * 128 + 128 ≤ length g → b < 1024 → (a ≡ row → ⊥) → holds g' a b ≡ holds g a b

-- the set g consists of whole rows
pub record Whole (g : List ℕ) : Type 0 where
  pub rows : ℕ
  pub all : length g ≡ rows * 128

-- a number was put into the row; r tells whether it is below the count and was not there
pub record MarkGives (g g' : List ℕ) (row number count : ℕ) (r : Bool) : Type 0 where
  pub beside : Beside g g' row
  pub puts : (earlier : List ℕ) → Row count g row earlier → Row count g' row (number ∷ earlier)
  pub is : r ≡ (ltb number count && not (holds g row number))

-- the numbers of a row of the table were put into a row of the set, which was empty; r tells whether each is there once
pub record RowGives (g g' : List ℕ) (row : ℕ) (ns : List ℕ) (count : ℕ) (r : Bool) : Type 0 where
  pub beside : Beside g g' row
  pub puts : Row count g row [] → Row count g' row ns
  pub is : Row count g row [] → r ≡ once count [] ns

-- the table has a row k
pub record RowAt (rows : List ℕ) (k : ℕ) : Type 0 where
  pub room : k + 1 < length rows
  pub ordered : get_or rows k 0 ≤ get_or rows (k + 1) 0
  pub within : get_or rows (k + 1) 0 ≤ length rows

-- the table has a row for each object
pub record Table (rows : List ℕ) (count : ℕ) : Type 0 where
  pub row : (k : ℕ) → k < count → RowAt rows k

-- the rows of the set before the k-th are those of the table, the others are empty
pub record SetTo (rows g : List ℕ) (count k : ℕ) : Type 0 where
  pub done : (j : ℕ) → j < k → Row count g j (row_of rows j)
  pub left : (j : ℕ) → k ≤ j → j < count → Row count g j []

-- all rows of the table were put into the set, which was empty; r tells whether each number is in its row once
pub record AllGive (rows g g' : List ℕ) (count : ℕ) (r : Bool) : Type 0 where
  pub room : length g' ≡ length g
  pub set : SetTo rows g count 0 → SetTo rows g' count count
  pub is : SetTo rows g count 0 → r ≡ all_from (λ k. once count [] (row_of rows k)) 0 count
