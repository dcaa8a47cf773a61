-- Rows of objects' numbers, and sets of pairs that have them.
use Rattle.std.specs.Prelude.{ℕ, ◌+◌, ◌*◌, Bool, true, not, ◌&&◌, List, [], ◌∷◌, length, get_or, ltb}
use Rattle.std.proofs.Math.Seq.{slice}
use Rattle.grid.specs.Grid.{holds}
use Rattle.words.specs.Words.{has}

-- the row k of a flat table: the word k says where it begins, the word k + 1 where it ends
unfoldable pub row_of : List ℕ → ℕ → List ℕ
row_of rows k = slice (get_or rows k 0) (get_or rows (k + 1) 0) rows

-- each number of a row is below the count, and none is among the earlier ones
unfoldable pub once : ℕ → List ℕ → List ℕ → Bool
unfolding has
once count earlier [] = true
once count earlier (n ∷ ns) = (ltb n count && not (has earlier n)) && once count (n ∷ earlier) ns

-- the set g, which has a row for each object, has the pair (n, own)
unfoldable pub answers : List ℕ → ℕ → ℕ → Bool
unfolding holds
answers g own n = ltb (n * 128) (length g) && holds g n own

-- for each number n of a row
unfoldable pub answered : List ℕ → ℕ → List ℕ → Bool
unfolding answers
answered g own [] = true
answered g own (n ∷ ns) = answers g own n && answered g own ns
