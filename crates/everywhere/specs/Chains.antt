-- A number of a text's bytes, and the chain of texts that it goes to by it.
use Rattle.std.specs.Prelude.{List, [], ◌∷◌, ℕ, ◌+◌, ◌*◌, ◌%◌}

-- a number of some bytes, where those before them have the number h
unfoldable pub hash_from : ℕ → List ℕ → ℕ
hash_from h [] = h
hash_from h (b ∷ l) = hash_from ((h * 59 + b) % 67108864) l

-- the chain that a text goes to
unfoldable pub chain_of : List ℕ → ℕ
unfolding hash_from
chain_of l = hash_from 0 l % 4096
