-- Quoted text as bytes, and the bytes that are digits.
use Rattle.std.specs.Prelude.{ℕ, Bool, ◌&&◌, List, [], ◌∷◌, leb}
use Prim.Native.Char.{code}
use Prim.Native.String.{String, [] as nil, ◌∷◌ as cons}

-- the bytes of a text of ASCII characters
unfoldable pub ascii : String → List ℕ
ascii nil = []
ascii (cons c s) = code c ∷ ascii s

-- an ASCII digit
unfoldable pub is_digit : ℕ → Bool
is_digit b = leb 48 b && leb b 57
