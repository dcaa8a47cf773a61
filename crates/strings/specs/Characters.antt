-- A string that stands for characters (proofs/Characters.antt).
use Rattle.std.specs.Prelude.{ℕ, ◌<◌, ◌≡◌, List, [], ◌∷◌}
use Rattle.strings.specs.Strings.{hex_value}

-- a byte that can be a hexadecimal digit
abbrev pub Digit : ℕ → Type 0
Digit b = (b < 128) × (hex_value b < 16)

-- the bytes between the quotes of a string are whole escapes, and bytes that are no backslash
pub data Escaped : List ℕ → Type 0 where
  end : Escaped []
  unescaped : {b : ℕ} {s : List ℕ} → (b ≡ 92 → ⊥) → Escaped s → Escaped (b ∷ s)
  short : {b : ℕ} {s : List ℕ} → b < 128 → (b ≡ 117 → ⊥) → Escaped s → Escaped (92 ∷ b ∷ s)
  long : {a b c d : ℕ} {s : List ℕ} → Digit a → Digit b → Digit c → Digit d → Escaped s → Escaped (92 ∷ 117 ∷ a ∷ b ∷ c ∷ d ∷ s)
