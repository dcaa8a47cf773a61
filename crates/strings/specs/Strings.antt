-- JSON strings decoded (RFC 8259, section 7): from the bytes between the quotes to the UTF-8 bytes that they stand for.
-- The definitions take any bytes; what they make of bytes that no JSON string has matters nowhere.
use Rattle.std.specs.Prelude.{ℕ, zero, suc, ◌+◌, ◌-◌, ◌*◌, Bool, true, false, cond, ◌&&◌, List, [], ◌∷◌, ◌++◌, eqb, leb}
use Rattle.utf8.specs.Utf8.{encode}

-- a piece of a string: a byte, as it stands or as an escape of two bytes names it; or the 16-bit unit that \uXXXX names, with the offset of its backslash
pub data Piece : Type 0 where
  byte : ℕ → Piece
  unit : (p u : ℕ) → Piece

-- where in a piece the next byte stands: at its start; after a backslash; in \uXXXX, with so many digits to come after it and the number so far
pub data Mark : Type 0 where
  plain slash : Mark
  hex : ℕ → ℕ → Mark

-- the value of a hexadecimal digit
unfoldable pub hex_value : ℕ → ℕ
hex_value b = cond (leb b 57) (b - 48) (cond (leb b 70) (b - 55) (b - 87))

-- what a backslash and this byte stand for: \b \f \n \r \t; \" \\ \/ are the byte itself
unfoldable pub escaped : ℕ → ℕ
escaped b = cond (eqb b 98) 8 (cond (eqb b 102) 12 (cond (eqb b 110) 10 (cond (eqb b 114) 13 (cond (eqb b 116) 9 b))))

unfoldable pub next : Mark → ℕ → Mark
unfolding hex_value
next plain b = cond (eqb b 92) slash plain
next slash b = cond (eqb b 117) (hex 3 0) plain
next (hex zero u) b = plain
next (hex (suc j) u) b = hex j (u * 16 + hex_value b)

-- the piece that the byte b at n ends
unfoldable pub ended : Mark → ℕ → ℕ → List Piece
unfolding hex_value escaped
ended plain n b = cond (eqb b 92) [] (byte b ∷ [])
ended slash n b = cond (eqb b 117) [] (byte (escaped b) ∷ [])
ended (hex zero u) n b = unit (n - 5) (u * 16 + hex_value b) ∷ []
ended (hex (suc j) u) n b = []

-- the pieces of the bytes from offset n on
unfoldable pub pieces : Mark → ℕ → List ℕ → List Piece
unfolding next ended
pieces k n [] = []
pieces k n (b ∷ s) = ended k n b ++ pieces (next k b) (n + 1) s

-- surrogates: the high ones D800 to DBFF, the low ones DC00 to DFFF
unfoldable pub is_high : ℕ → Bool
is_high u = leb 0xD800 u && leb u 0xDBFF

unfoldable pub is_low : ℕ → Bool
is_low u = leb 0xDC00 u && leb u 0xDFFF

-- the character that a high and a low surrogate, one after the other, name
unfoldable pub paired : ℕ → ℕ → ℕ
paired u w = 0x10000 + (u - 0xD800) * 0x400 + (w - 0xDC00)

-- the bytes that the pieces stand for; a surrogate that is not paired is refused by rule 5, so what it stands for here matters nowhere
unfoldable pub decoded : List Piece → List ℕ
unfolding encode is_high is_low paired
decoded [] = []
decoded (byte b ∷ ps) = b ∷ decoded ps
decoded (unit p u ∷ []) = encode u
decoded (unit p u ∷ byte b ∷ ps) = encode u ++ b ∷ decoded ps
decoded (unit p u ∷ unit q w ∷ ps) = elim (is_high u && is_low w) [ true ↦ encode (paired u w) ++ decoded ps | false ↦ encode u ++ decoded (unit q w ∷ ps) ]

-- the bytes that a string stands for
unfoldable pub decode : List ℕ → List ℕ
unfolding pieces decoded
decode raw = decoded (pieces plain 0 raw)

-- where a unit is a surrogate that is not paired
unfoldable pub alone : ℕ → ℕ → List ℕ
alone p u = cond (leb 0xD800 u && leb u 0xDFFF) (p ∷ []) []

unfoldable pub unpaired : List Piece → List ℕ
unfolding is_high is_low alone
unpaired [] = []
unpaired (byte b ∷ ps) = unpaired ps
unpaired (unit p u ∷ []) = alone p u
unpaired (unit p u ∷ byte b ∷ ps) = alone p u ++ unpaired ps
unpaired (unit p u ∷ unit q w ∷ ps) = elim (is_high u && is_low w) [ true ↦ unpaired ps | false ↦ alone p u ++ unpaired (unit q w ∷ ps) ]

-- docs/RULES.md, rule 5: "unpaired surrogate escape" at "its backslash", in a string whose bytes between the quotes begin at n
unfoldable pub unpaired_from : ℕ → List ℕ → List ℕ
unfolding pieces unpaired
unpaired_from n raw = unpaired (pieces plain n raw)
