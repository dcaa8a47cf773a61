-- What the public functions tell of a string of a text. A string is given by the text x and two offsets: at, just after its opening quote, and end, its
-- closing quote.
use Rattle.std.specs.Prelude.{ℕ, ◌+◌, ◌≤◌, ◌≡◌, Bool, false, not, ◌&&◌, ◌||◌, List, [], ◌∷◌, ◌++◌, Option, Some, None, length, get_or, take, drop, eqb, ltb}
use Rattle.std.proofs.Math.Seq.{slice}
use Rattle.strings.specs.Strings.{decode, unpaired_from}

-- the offsets lie in the text, in order
pub record Span (x : List ℕ) (at end : ℕ) : Type 0 where
  pub low : at ≤ end
  pub high : end ≤ length x

-- the bytes that the bytes of x from at up to end stand for
unfoldable pub decode_at : List ℕ → ℕ → ℕ → List ℕ
unfolding decode
decode_at x at end = decode (slice at end x)

-- the places of the unpaired surrogate escapes among the bytes of x from at up to end (docs/RULES.md, rule 5)
unfoldable pub unpaired_at : List ℕ → ℕ → ℕ → List ℕ
unfolding unpaired_from
unpaired_at x at end = unpaired_from at (slice at end x)

-- what a writer tells: the bytes ws stand in d from to on and end at r, and the other bytes are those of d₀
pub record Copied (ws d₀ d : List ℕ) (to r : ℕ) : Type 0 where
  pub answer : r ≡ to + length ws
  pub contents : d ≡ take to d₀ ++ ws ++ drop (to + length ws) d₀

-- the first of some places, if there is one
unfoldable pub first_of : List ℕ → Option ℕ
first_of [] = None
first_of (p ∷ ps) = Some p

-- is one of the bytes b?
unfoldable pub has_byte : ℕ → List ℕ → Bool
has_byte b [] = false
has_byte b (a ∷ l) = eqb a b || has_byte b l

-- do two strings of the text begin with different bytes, neither of them a backslash?
unfoldable pub begin_apart : List ℕ → ℕ → ℕ → ℕ → ℕ → Bool
begin_apart x at end at2 end2 = ltb at end && ltb at2 end2 && not (eqb (get_or x at 0) (get_or x at2 0)) && not (eqb (get_or x at 0) 92) && not (eqb (get_or x at2 0) 92)
