-- Strings that were found, a lod and a surface's type, from what the code's tests and callees say.
use Prim.Native.Nat.{ℕ, ◌+◌, ◌-◌, ◌*◌, ◌≤◌, ◌<◌}
use native.Mathlib.Omega.{arith}
use mathlib.Core.Path.{◌≡◌, refl, sym, ap, ◌∙◌}
use mathlib.Core.Bool.{Bool, true, false, not, ◌&&◌}
use mathlib.Core.List.{List, [], ◌∷◌, ◌++◌}
use lib.ListN.{length, get_or}
use lib.Dec.{leb, eqb}
use borrow.Author.Tests.{leb-true}
use mir.Val.{Fits}
use mir.Syntax.{w64}
use Rattle.utf8.specs.Ascii.{is_digit}
use Rattle.utf8.specs.Laws.{both_left, both_right, never}
use Rattle.strings.specs.Strings.{decode}
use Rattle.strings.specs.Spans.{Span, decode_at, Copied}
use Rattle.words.specs.Words.{surface_words, code_of, is_added, is_lod}
use Rattle.nodes.specs.Access.{is_string_value}
use Rattle.nodes.specs.Says.{Gives, GivesFound}
use Rattle.nodes.specs.Says.{Found}
use Rattle.std.specs.Prelude.{Some, None}
use Rattle.fields.specs.Fields.{text_in}
use Rattle.fields.specs.Says.{StringNode}
use Rattle.fields.specs.Laws.{of_none, of_some, string-span, string-text, other_text}
use Rattle.utf8.specs.Bytes.{le}
use Rattle.model.specs.Model.{lay_surface, lod_code, minor_code}
use Rattle.model.specs.Read.{surface_named, lod_of, minor_of}
use Rattle.writer.specs.Writes.{Writes}
use Rattle.writer.specs.Laws.{then}
use Rattle.geometry_records.specs.Says.{Quotes}

-- ---- a string that was found

decode-none : (x : List ℕ) → [] ≡ decode_at x 0 0
unfolding decode_at decode
decode-none x = refl

module _ {x t : List ℕ} {found : Found} where
  quotes-by : {p e : ℕ} → Span x p e → GivesFound text_in x t found (decode_at x p e) → Quotes x t found (record { from = p; to = e })
  quotes-by s g = record { span = s; text = g.is }

  -- no bytes
  quotes-empty : GivesFound text_in x t found [] → Quotes x t found (record { from = 0; to = 0 })
  quotes-empty g = quotes-by (record { low = omega arith; high = omega arith }) (rw (← decode-none x) g)

  pub quotes-none : found ≡ None → Quotes x t found (record { from = 0; to = 0 })
  unfolding text_in
  quotes-none e = quotes-empty (of_none text_in e refl)

  pub quotes-other : {k : ℕ} {b : Bool} → found ≡ Some k → Gives is_string_value x t k b → not b ≡ true → Quotes x t found (record { from = 0; to = 0 })
  unfolding text_in
  quotes-other e g h = quotes-empty (of_some text_in e (other_text (λ l. l) g h refl))

  pub quotes-string : {k p e : ℕ} → found ≡ Some k → StringNode x t k → p ≡ get_or t k 0 + 1 → e ≡ get_or t (k + 1) 0 - 1 → Quotes x t found (record { from = p; to = e })
  unfolding text_in
  quotes-string f d q r = quotes-by (string-span d q r) (of_some text_in f (string-text d (λ l. l) q r refl))

-- ---- a lod

-- a digit's byte
digit-byte : (b : ℕ) → is_digit b ≡ true → (48 ≤ b) × (b ≤ 57)
unfolding is_digit
digit-byte b e = (leb-true 48 b (both_left _ (leb b 57) e), leb-true b 57 (both_right (leb 48 b) _ e))

-- the bytes l begin with those of the lod w
record Begins (w l : List ℕ) : Type 0 where
  few : length w ≤ 3
  major : (48 ≤ get_or l 0 0) × (get_or l 0 0 ≤ 57)
  minor : 3 ≤ length w → (48 ≤ get_or l 2 0) × (get_or l 2 0 ≤ 57)
  whole : length w < 3 → (get_or l 0 0 - 48) * 16 + 15 ≡ lod_code (lod_of w)
  parted : 3 ≤ length w → (get_or l 0 0 - 48) * 16 + (get_or l 2 0 - 48) ≡ lod_code (lod_of w)

begins : (w l : List ℕ) → is_lod w ≡ true → Begins w (w ++ l)
unfolding is_lod lod_of minor_of lod_code minor_code
begins [] l e = absurd (never e refl)
begins (a ∷ []) l e = record { few = omega arith; major = digit-byte a e; minor = λ h. absurd (omega arith); whole = λ h. refl; parted = λ h. absurd (omega arith) }
begins (a ∷ b ∷ []) l e = absurd (never e refl)
begins (a ∷ b ∷ c ∷ []) l e = record {
  few = omega arith;
  major = digit-byte a (both_left _ _ (both_left _ (is_digit c) e));
  minor = λ h. digit-byte c (both_right (is_digit a && eqb b 46) _ e);
  whole = λ h. absurd (omega arith);
  parted = λ h. refl;
}
begins (a ∷ b ∷ c ∷ d ∷ w) l e = absurd (never e refl)

pub lod-room : (w : List ℕ) → is_lod w ≡ true → 0 + length w ≤ 4
lod-room w e = omega (arith, (begins w [] e).few)

module _ {w d₀ d : List ℕ} {n : ℕ} (e : is_lod w ≡ true) (c : Copied w d₀ d 0 n) where
  copied : Begins w d
  copied = rw c.contents (begins w _ e)

  pub major-low : 48 ≤ get_or d 0 0
  major-low = copied.major.0

  module _ {m : ℕ} (q : m ≡ get_or d 0 0 - 48) where
    major-small : m ≤ 9
    major-small = omega (arith, copied.major.1)

    pub lod-product : Fits w64 (m * 16)
    lod-product = record { fits = omega (arith, major-small) }

    pub lod-sum : (k : ℕ) → k ≤ 15 → Fits w64 (m * 16 + k)
    lod-sum k h = record { fits = omega (arith, major-small) }

    pub lod-whole : n < 3 → m * 16 + 15 ≡ lod_code (lod_of w)
    lod-whole h = ap (λ k. k * 16 + 15) q ∙ copied.whole (omega (arith, c.answer))

  module _ (h : 3 ≤ n) where
    pub minor-low : 48 ≤ get_or d 2 0
    minor-low = (copied.minor (omega (arith, c.answer))).0

    module _ {m k : ℕ} (q : m ≡ get_or d 0 0 - 48) (o : k ≡ get_or d 2 0 - 48) where
      pub lod-both : Fits w64 (m * 16 + k)
      lod-both = record { fits = omega (arith, major-small q, (copied.minor (omega (arith, c.answer))).1) }

      pub lod-parted : m * 16 + k ≡ lod_code (lod_of w)
      lod-parted = (λ i. q i * 16 + o i) ∙ copied.parted (omega (arith, c.answer))

-- ---- a surface's type

module _ (w : List ℕ) {d₀ : List ℕ} {b : Bool} {at : ℕ} (q : b ≡ is_added w) where
  pub surface-added : {d₁ d₂ : List ℕ} {m r : ℕ} → b ≡ true → Writes (le 2 19) d₀ d₁ at m → Writes w d₁ d₂ m r → Writes (lay_surface (surface_named w)) d₀ d₂ at r
  unfolding is_added surface_named lay_surface
  surface-added e f g = let z : is_added w ≡ true = sym q ∙ e in rw z (then f g)

  pub surface-listed : {d : List ℕ} {code r : ℕ} → b ≡ false → code ≡ code_of surface_words w → Writes (le 2 code) d₀ d at r → Writes (lay_surface (surface_named w)) d₀ d at r
  unfolding is_added surface_named lay_surface
  surface-listed e c f = let z : is_added w ≡ false = sym q ∙ e in rw (z, ← c) f
