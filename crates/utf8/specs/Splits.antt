-- Sequences of characters joined, and taken apart at a byte below 128, which is a character by itself.
use Rattle.std.specs.Prelude.{ℕ, suc, ◌+◌, ◌≤◌, ◌<◌, ◌≡◌, refl, true, List, [], ◌∷◌, ◌++◌, ◌⊎◌, length, take, drop, get_or}
use Rattle.std.proofs.Common.{add-one, arith, sym, ◌∙◌, ap, subst, append_assoc, inl, inr, take_all, length-take-le, get_or-take, le-leb}
use Rattle.std.proofs.Math.Seq.{split_at, slice}
use Rattle.std.proofs.lemmas.Bool.{lt-leb}
use Rattle.utf8.specs.Utf8.{is_character, encode, Whole, whole_length}
use Rattle.utf8.specs.Utf8.Whole.{nil, next}
use Rattle.utf8.specs.Laws.{clash, Form, form, encode_one}
use Rattle.utf8.specs.Laws.Form.{one, two, three, four}
use Rattle.utf8.specs.Meaning.{whole-prefix}

-- a text that rule 2 of docs/RULES.md lets through is a sequence of characters
pub whole-text : (x : List ℕ) → length x ≤ whole_length x → Whole x
whole-text x h = rw (take_all (whole_length x) x h) at (whole-prefix x)

-- ---- joined

-- two sequences of characters, one after the other, are one
pub whole_append : {x y : List ℕ} → Whole x → Whole y → Whole (x ++ y)
whole_append nil v = v
whole_append {y = y} (next c {s} h e w) v = next c {s = s ++ y} h (ap (λ (l : List ℕ). l ++ y) e ∙ append_assoc (encode c) s y) (whole_append w v)

-- a number below the surrogates is a character
pub character-below : (c : ℕ) → c < 0xD800 → is_character c ≡ true
unfolding is_character
character-below c h = rw (le-leb c 0x10FFFF (omega arith), lt-leb 0xD800 c h)

-- and so is one above them up to U+10FFFF
pub character-above : (c : ℕ) → 0xDFFF < c → c ≤ 0x10FFFF → is_character c ≡ true
unfolding is_character
character-above c l h = rw (le-leb c 0x10FFFF h, le-leb 0xD800 c (omega arith), lt-leb c 0xDFFF l)

-- a byte below 128 is a character
pub whole-cons : (b : ℕ) → b < 128 → {s : List ℕ} → Whole s → Whole (b ∷ s)
whole-cons b h {s} w = next b (character-below b (omega arith)) (ap (λ (l : List ℕ). l ++ s) (sym (encode_one b h))) w

-- ---- taken apart

-- none of the bytes is below 128
unfoldable High : List ℕ → Type 0
High [] = Unit
High (b ∷ s) = (128 ≤ b) × High s

-- a character is one byte below 128, or has none
abbrev OneOrHigh : ℕ → Type 0
OneOrHigh c = (encode c ≡ c ∷ []) ⊎ High (encode c)

one-or-high : (c : ℕ) → Form c → OneOrHigh c
unfolding High
one-or-high c (one h e) = inl e
one-or-high c (two l h e) = inr (rw e (omega arith, (omega arith, tt)))
one-or-high c (three l h e) = inr (rw e (omega arith, (omega arith, (omega arith, tt))))
one-or-high c (four l e) = inr (rw e (omega arith, (omega arith, (omega arith, (omega arith, tt)))))

-- a byte below 128 in a list that begins with others stands after them
past : (e t a s : List ℕ) (b : ℕ) → High e → b < 128 → e ++ t ≡ a ++ b ∷ s → (r : List ℕ) × (a ≡ e ++ r) × (t ≡ r ++ b ∷ s)
unfolding High
past [] t a s b g h q = (a, refl, q)
past (c ∷ e) t [] s b g h q = let z : c ≡ b = cc in absurd (omega (arith, g.0))
past (c ∷ e) t (d ∷ a) s b g h q =
    let z : c ≡ d = cc in
    let (r, p, k) = past e t a s b g.1 h (cc) in
    (r, cc, k)

-- wherever the byte b stands in t before s, what is before it is whole, and so is s
abbrev Splits : List ℕ → ℕ → List ℕ → Type 0
Splits t b s = (a : List ℕ) → t ≡ a ++ b ∷ s → Whole a × Whole s

-- a character more
split-on : (c : ℕ) → is_character c ≡ true → {t : List ℕ} → Whole t → (s : List ℕ) (b : ℕ) → b < 128 → Splits t b s → OneOrHigh c → Splits (encode c ++ t) b s
split-on c i {t} w s b h f (inl e) [] q =
    let z : c ∷ t ≡ b ∷ s = rw e at q in
    let y : t ≡ s = cc in
    (nil, subst Whole y w)
split-on c i {t} w s b h f (inl e) (d ∷ a) q =
    let z : c ∷ t ≡ d ∷ (a ++ b ∷ s) = rw e at q in
    let y = f a (cc) in
    let g : d ∷ a ≡ c ∷ a = cc in
    (next c i (g ∙ ap (λ (l : List ℕ). l ++ a) (sym e)) y.0, y.1)
split-on c i {t} w s b h f (inr g) a q =
    let (r, p, k) = past (encode c) t a s b g h q in
    let z = f r k in
    (next c i p z.0, z.1)

splits : {t : List ℕ} → Whole t → (s : List ℕ) (b : ℕ) → b < 128 → Splits t b s
splits nil s b h [] q = clash cc
splits nil s b h (d ∷ a) q = clash cc
splits (next c i e w) s b h a q = split-on c i w s b h (splits w s b h) (one-or-high c (form c)) a (sym e ∙ q)

-- what stands before a byte below 128 is a sequence of characters, and so is what stands after it
pub whole_split : (a s : List ℕ) (b : ℕ) → b < 128 → Whole (a ++ b ∷ s) → Whole a × Whole s
whole_split a s b h w = splits w s b h a refl

-- the same by the byte's offset
module _ {x : List ℕ} (w : Whole x) (n : ℕ) (l : n < length x) (h : get_or x n 0 < 128) where
  parts : Whole (take n x) × Whole (drop (suc n) x)
  parts = splits w (drop (suc n) x) (get_or x n 0) h (take n x) (split_at x n 0 l)

  pub whole_before : Whole (take n x)
  whole_before = parts.0

  pub whole-after : Whole (drop (n + 1) x)
  whole-after = rw (add-one n) parts.1

-- what stands between two bytes below 128 is a sequence of characters
pub whole-between : {x : List ℕ} → Whole x → (p q : ℕ) → p < q → q < length x → get_or x p 0 < 128 → get_or x q 0 < 128 → Whole (slice (p + 1) q x)
whole-between {x} w p q l k g h = whole-after (whole_before w q k h) p (rw (length-take-le q x (omega arith)) l) (rw (get_or-take q x p 0 l) g)
