-- What the functions say of the machine, and of the table.
use Rattle.std.specs.Prelude.{◌≡◌, ℕ, zero, suc, ◌+◌, ◌/◌, ◌%◌, ◌<◌, ◌≤◌, Bool, true, false, T, List, [], ◌∷◌, length, drop, slice_index, slice_index_or, Option, IfSome, Result, Ok, Err}
use Rattle.std.proofs.Math.Option as maybe
use Rattle.std.specs.Int.Count.{count_trailing_zeros}
use Rattle.utf8.specs.Ascii.{ascii}
use Rattle.json_text.specs.Tree.{Json}
use Rattle.json_text.specs.Machine.{Frame, Role, Mode, Outcome, bad, run, is_blank, closed, numeral, literal}
use Rattle.json_text.specs.Machine.Mode.{want, first, name0, name1, colon, got, chars, esc, hex, neg, nought, int, dot, frac, mant, exp, sign, exps, lit}
use Rattle.json_text.specs.Table.{size, Sub}
use Rattle.json_text.specs.declared.BadByte.{BadByte}

-- what a part of a text is found to be: it ends before an offset, or no JSON text has the byte at an offset
abbrev pub Scan : Type 0
Scan = Result ℕ BadByte

-- what `byte` tells: the byte that stands at the offset, or that none does
abbrev pub Found : List ℕ → ℕ → Scan → Type 0
Found text at (Ok b) = (at < length text) × (slice_index text at ≡ b)
Found text at (Err e) = (length text ≤ at) × (e.at ≡ at)

-- the machine on the text from an offset on
unfoldable pub from : List ℕ → Mode → List Frame → ℕ → Outcome
from text m ks at = run 32 text m ks at (drop at text)

-- what the machine makes of the text after a part that was found to be r: it goes on in the mode that m gives for the part's end
abbrev pub land : List ℕ → (ℕ → Mode) → List Frame → Scan → Outcome
land text m ks (Ok e) = from text (m e) ks e
land text m ks (Err b) = bad b.at

-- the end that was found, if any, lies from lo to hi
abbrev pub Within : ℕ → ℕ → Scan → Type 0
Within lo hi (Ok e) = (lo ≤ e) × (e ≤ hi)
Within lo hi (Err b) = Unit

-- the modes that white space does not change
abbrev pub blanks : Mode → Bool
blanks want = true
blanks (first p) = true
blanks (name0 p) = true
blanks (name1 p ms) = true
blanks (colon p ms k) = true
blanks (got v) = true
blanks (chars k p) = false
blanks (esc k p) = false
blanks (hex k p j) = false
blanks (neg p) = false
blanks (nought p) = false
blanks (int p) = false
blanks (dot p) = false
blanks (frac p) = false
blanks (mant p) = false
blanks (exp p) = false
blanks (sign p) = false
blanks (exps p) = false
blanks (lit p l ws) = false

-- the modes that digits do not change
abbrev pub digital : Mode → Bool
digital want = false
digital (first p) = false
digital (name0 p) = false
digital (name1 p ms) = false
digital (colon p ms k) = false
digital (got v) = false
digital (chars k p) = false
digital (esc k p) = false
digital (hex k p j) = false
digital (neg p) = false
digital (nought p) = false
digital (int p) = true
digital (dot p) = false
digital (frac p) = true
digital (mant p) = false
digital (exp p) = false
digital (sign p) = false
digital (exps p) = true
digital (lit p l ws) = false

-- the bytes from at up to i change none of the modes that ok names
pub record Stays (ok : Mode → Bool) (text : List ℕ) (at i : ℕ) : Type 0 where
  pub low : at ≤ i
  pub high : i ≤ length text
  pub same : (m : Mode) → T (ok m) → (ks : List Frame) → from text m ks at ≡ from text m ks i

-- and the byte at r, if there is one, is not of the kind that test names
pub record Skips (ok : Mode → Bool) (test : ℕ → Bool) (text : List ℕ) (at r : ℕ) : Type 0 where
  pub stays : Stays ok text at r
  pub stop : r < length text → false ≡ test (slice_index text r)

-- For each a of A: from the mode m a at the offset at, the machine comes to the mode that m' a gives for the end, as r says
pub record Reads {A : Type 0} (text : List ℕ) (m : A → Mode) (m' : A → ℕ → Mode) (at : ℕ) (r : Scan) : Type 0 where
  pub within : Within at (length text) r
  pub same : (a : A) (ks : List Frame) → from text (m a) ks at ≡ land text (m' a) ks r

-- the mode m a, wherever the part ends
unfoldable pub to : {A : Type 0} → (A → Mode) → A → ℕ → Mode
to m a e = m a

-- a numeral that began at p is whole
unfoldable pub numbered : List ℕ → ℕ → ℕ → Mode
numbered text p e = got (numeral 32 text p e)

-- a string that is being read: what it is, and where it began
pub record StringAt : Type 0 where
  pub role : Role
  pub begun : ℕ

-- the modes in a string: more of it; what follows a backslash
unfoldable pub chars_of : StringAt → Mode
chars_of s = chars s.role s.begun

unfoldable pub esc_of : StringAt → Mode
esc_of s = esc s.role s.begun

-- so many hexadecimal digits are still to come
unfoldable pub hex_of : ℕ → StringAt → Mode
hex_of zero s = chars_of s
hex_of (suc j) s = hex s.role s.begun j

-- the mode after a string that ends before e
unfoldable pub closed_of : List ℕ → StringAt → ℕ → Mode
closed_of text s e = closed 32 text s.role s.begun e

-- a string, whose end lies past the offset
pub record ReadsString (text : List ℕ) (at : ℕ) (r : Scan) : Type 0 where
  pub reads : Reads text chars_of (closed_of text) at r
  pub past : Within (at + 1) (length text) r

-- a byte that a string has as it stands
pub record Unescaped (b : ℕ) : Type 0 where
  pub no-quote : b ≡ 34 → ⊥
  pub no-backslash : b ≡ 92 → ⊥
  pub no-control : 32 ≤ b

-- a byte of a number; the lowest has the index 0
unfoldable pub byte_at : ℕ → ℕ → ℕ
byte_at zero x = x % 256
byte_at (suc j) x = byte_at j (x / 256)

-- what `eight` tells: the eight bytes of x are those of the text from i on
pub record Eight (text : List ℕ) (i x : ℕ) : Type 0 where
  pub same : (j : ℕ) → j < 8 → byte_at j x ≡ slice_index text (i + j)

-- what `marks` tells: a string has the bytes of x below the lowest bit that is set in m as they stand
pub record Marked (x m : ℕ) : Type 0 where
  pub below : (j : ℕ) → j < count_trailing_zeros 64 m / 8 → Unescaped (byte_at j x)

-- what `plain_end` tells: a string that is being read at the offset at is still being read at r
pub record Passes (text : List ℕ) (at r : ℕ) : Type 0 where
  pub high : r ≤ length text
  pub reads : Reads text chars_of (to chars_of) at (Ok r)

-- the bytes that `is_type` looks for: a name, its colon, and the quote of a string
abbrev pub type_start : List ℕ
type_start = ascii "\"type\":\""

-- what `is_type` tells: if it is so, they stand in the text from the offset at on
pub record Typed (text : List ℕ) (at : ℕ) (r : Bool) : Type 0 where
  pub inside : r ≡ true → at + 8 ≤ length text
  pub same : r ≡ true → (j : ℕ) → j < 8 → slice_index text (at + j) ≡ slice_index type_start j

-- a word that is being read: where it began, and what it stands for
pub record WordAt : Type 0 where
  pub begun : ℕ
  pub meant : maybe.Option Bool

-- the mode where the bytes ws of a word are still to come at e, and after the word where none are
unfoldable pub literal_of : List ℕ → WordAt → ℕ → Mode
literal_of [] s e = got (literal s.meant s.begun e)
literal_of (w ∷ ws) s e = lit s.begun s.meant (w ∷ ws)

-- the bytes of a word, from its first byte at the offset at
pub record ReadsWord (text word : List ℕ) (at : ℕ) (r : Scan) : Type 0 where
  pub reads : Reads text (λ s. literal_of word s at) (literal_of []) at r

-- the three words at i of the table t are p, e and n
pub record Placed (t : List ℕ) (i p e n : ℕ) : Type 0 where
  pub room : i + 2 < length t
  pub start : slice_index_or t i 0 ≡ p
  pub end : slice_index_or t (i + 1) 0 ≡ e
  pub next : slice_index_or t (i + 2) 0 ≡ n

-- the byte at the offset is no blank and opens nothing
pub record Plain (x : List ℕ) (at : ℕ) : Type 0 where
  pub there : at < length x
  pub no-blank : false ≡ is_blank (slice_index x at)
  pub no-array : slice_index_or x at 0 ≡ 91 → ⊥
  pub no-object : slice_index_or x at 0 ≡ 123 → ⊥

-- what stands from p to before e is a value that holds no other: three words are its table
pub record Leaf (x : List ℕ) (p e : ℕ) : Type 0 where
  pub value : Json
  pub more : p < e
  pub inside : e ≤ length x
  pub width : size value ≡ 3
  pub stands : (t : List ℕ) (i : ℕ) → Placed t i p e (i + 3) → Sub x t i value
  pub goes : (ks : List Frame) → from x want ks p ≡ from x (got value) ks e

-- what `scalar` tells of a value at p that opens no level
unfoldable pub Scalar : List ℕ → ℕ → Scan → Type 0
Scalar x p (Ok e) = Leaf x p e
Scalar x p (Err b) = (ks : List Frame) → from x want ks p ≡ bad b.at

-- what `digits_end` tells: where an end was found, a value that holds no other stands up to it
pub record Digits (x : List ℕ) (p : ℕ) (r : Option ℕ) : Type 0 where
  pub leaf : IfSome r (λ e. Leaf x p e)
