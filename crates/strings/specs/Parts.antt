-- What the inner functions tell of the escape at an offset.
use Rattle.std.specs.Prelude.{ℕ, ◌+◌, ◌*◌, ◌≤◌, ◌<◌, ◌≡◌, Bool, false, List, [], ◌∷◌, ◌++◌, Option, Some, None, length, get_or, take, drop}
use Rattle.std.proofs.Math.Seq.{slice}
use Rattle.utf8.specs.Utf8.{encode}
use Rattle.strings.specs.Strings.{decode, Piece, byte, unit, plain, pieces, hex_value, is_low, alone}
use Rattle.strings.specs.Spans.{decode_at, unpaired_at}
use Rattle.strings.specs.declared.Escape.{Escape}
use Rattle.strings.specs.declared.Escape.TheVariants.{Short, Long}

-- the number that the four hexadecimal digits from at on name
unfoldable pub unit_at : List ℕ → ℕ → ℕ
unfolding hex_value
unit_at x at = ((hex_value (get_or x at 0) * 16 + hex_value (get_or x (at + 1) 0)) * 16 + hex_value (get_or x (at + 2) 0)) * 16 + hex_value (get_or x (at + 3) 0)

-- the pieces of the bytes of x from at up to end
unfoldable pub parts_at : List ℕ → ℕ → ℕ → List Piece
unfolding pieces
parts_at x at end = pieces plain at (slice at end x)

-- do the pieces begin with a low surrogate?
unfoldable pub low_first : List Piece → Bool
unfolding is_low
low_first [] = false
low_first (byte b ∷ ps) = false
low_first (unit q w ∷ ps) = is_low w

-- an escape \uXXXX stands at at, for the low surrogate w
pub record IsHalf (x : List ℕ) (at end w : ℕ) : Type 0 where
  pub within : at + 6 ≤ end
  pub least : 0xDC00 ≤ w
  pub most : w ≤ 0xDFFF
  pub parts : parts_at x at end ≡ unit at w ∷ parts_at x (at + 6) end

-- what is told of the second half of a pair at at
unfoldable pub Halves : List ℕ → ℕ → ℕ → Option ℕ → Type 0
Halves x at end (Some w) = IsHalf x at end w
Halves x at end None = low_first (parts_at x at end) ≡ false

-- an escape of two bytes stands at at, for the byte b
pub record IsShort (x : List ℕ) (at end b : ℕ) : Type 0 where
  pub within : at + 2 ≤ end
  pub stands : decode_at x at end ≡ b ∷ decode_at x (at + 2) end
  pub places : unpaired_at x at end ≡ unpaired_at x (at + 2) end

-- an escape \uXXXX, or two that are a pair, stands from at up to to, for the character u
pub record IsLong (x : List ℕ) (at end u to : ℕ) : Type 0 where
  pub past : at + 6 ≤ to
  pub within : to ≤ end
  pub small : u < 0x110000
  pub stands : decode_at x at end ≡ encode u ++ decode_at x to end
  pub places : unpaired_at x at end ≡ alone at u ++ unpaired_at x to end

-- no whole escape stands at at, so the rest stands for nothing
pub record IsCut (x : List ℕ) (at end : ℕ) : Type 0 where
  pub stands : decode_at x at end ≡ []
  pub places : unpaired_at x at end ≡ []

-- what a backslash at at begins
unfoldable pub Escapes : List ℕ → ℕ → ℕ → Option Escape → Type 0
Escapes x at end None = IsCut x at end
Escapes x at end (Some (Short b)) = IsShort x at end b
Escapes x at end (Some (Long u to)) = IsLong x at end u to

-- the first n bytes of a string stand for themselves, and then comes a backslash or the end
pub record Plain (raw : List ℕ) (n : ℕ) : Type 0 where
  pub within : n ≤ length raw
  pub stands : decode raw ≡ take n raw ++ decode (drop n raw)
  pub then : n < length raw → get_or raw n 0 ≡ 92
