-- Worked examples of decoding.
use Rattle.std.specs.Prelude.{◌≡◌, refl, [], ◌∷◌}
use Rattle.strings.specs.Strings.{decode, unpaired_from}

-- a\n\u00e9
short-and-long : decode (97 ∷ 92 ∷ 110 ∷ 92 ∷ 117 ∷ 48 ∷ 48 ∷ 101 ∷ 57 ∷ []) ≡ 97 ∷ 10 ∷ 0xC3 ∷ 0xA9 ∷ []
unfolding decode
short-and-long = refl

-- \uD83D\uDE00, a pair
pair : decode (92 ∷ 117 ∷ 68 ∷ 56 ∷ 51 ∷ 68 ∷ 92 ∷ 117 ∷ 68 ∷ 69 ∷ 48 ∷ 48 ∷ []) ≡ 0xF0 ∷ 0x9F ∷ 0x98 ∷ 0x80 ∷ []
unfolding decode
pair = refl

pair-is-paired : unpaired_from 1 (92 ∷ 117 ∷ 68 ∷ 56 ∷ 51 ∷ 68 ∷ 92 ∷ 117 ∷ 68 ∷ 69 ∷ 48 ∷ 48 ∷ []) ≡ []
unfolding unpaired_from
pair-is-paired = refl

-- the sample reading "\uD800": 5 at 1
high-alone : unpaired_from 1 (92 ∷ 117 ∷ 68 ∷ 56 ∷ 48 ∷ 48 ∷ []) ≡ 1 ∷ []
unfolding unpaired_from
high-alone = refl

-- \uD800\uD800\uDC00: the first is alone, the other two are a pair
high-high-low : unpaired_from 1 (92 ∷ 117 ∷ 68 ∷ 56 ∷ 48 ∷ 48 ∷ 92 ∷ 117 ∷ 68 ∷ 56 ∷ 48 ∷ 48 ∷ 92 ∷ 117 ∷ 68 ∷ 67 ∷ 48 ∷ 48 ∷ []) ≡ 1 ∷ []
unfolding unpaired_from
high-high-low = refl

-- \uDC00a: a low surrogate alone
low-alone : unpaired_from 4 (92 ∷ 117 ∷ 68 ∷ 67 ∷ 48 ∷ 48 ∷ 97 ∷ []) ≡ 4 ∷ []
unfolding unpaired_from
low-alone = refl
