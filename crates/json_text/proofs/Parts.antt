-- How a part of a text is put together from parts.
use Rattle.std.proofs.Common.{◌≡◌, ℕ, zero, suc, ◌+◌, ◌-◌, ◌/◌, ◌<◌, ◌≤◌, true, false, T, List, [], ◌∷◌, length, get_or, drop, refl, ◌∙◌, subst, add-zero, add-one, arith, drop_of_length-le, drop-cons, w64, Fits}
use lib.Count.{count_trailing_zeros, trailing_le, trailing_of_zero}
use Rattle.utf8.specs.Ascii.{is_digit}
use Rattle.json_text.specs.Machine.{Frame, Mode, step, go, dead, bad, ending, is_hex, is_escape}
use Rattle.json_text.specs.Machine.Mode.{nought, int, frac, mant, exps}
use Rattle.json_text.specs.Says.{Scan, Within, Reads, Skips, digital, to, numbered, StringAt, chars_of, esc_of, hex_of, closed_of, ReadsString, Unescaped, Eight, Marked, Passes, WordAt, literal_of, ReadsWord}
use Rattle.json_text.specs.declared.BadByte.{BadByte}
use Rattle.std.specs.Prelude.{Ok, Err}
use Rattle.std.specs.Char.{is_ascii_hexdigit}
use Rattle.json_text.specs.Steps.{mant-else, int-else, frac-else, exps-else, esc-u, esc-yes, esc-no, hex-yes, hex-no, chars-quote, chars-esc, chars-no, chars-more, lit-last, lit-more, lit-no}
use Rattle.json_text.proofs.Moves.{moves, dies, alike, short, settles}

pub within-less : (lo lo' hi : ℕ) (r : Scan) → lo ≤ lo' → Within lo' hi r → Within lo hi r
within-less lo lo' hi (Ok e) l w = (omega (arith, w.0), w.1)
within-less lo lo' hi (Err b) l w = tt

module _ {A : Type 0} {text : List ℕ} {at : ℕ} where
  -- nothing is passed yet
  pub here : (m : A → Mode) → at ≤ length text → Reads text m (to m) at (Ok at)
  unfolding to
  here m h = record { within = (omega arith, h); same = λ a ks. refl }

  -- the text ends, or the byte is wrong
  pub ends-bad : {b : BadByte} (m : A → Mode) (m' : A → ℕ → Mode) → ((a : A) → ending 32 text (m a) at ≡ bad at) → length text ≤ at → b.at ≡ at → Reads text m m' at (Err b)
  ends-bad m m' w h e = record { within = tt; same = λ a ks. rw e (short text (m a) ks at (w a) h) }

  pub stops : (m : A → Mode) (m' : A → ℕ → Mode) → at < length text → ((a : A) (ks : List Frame) → step 32 text (m a) ks at (get_or text at 0) ≡ dead) → Reads text m m' at (Err (record { at = at }))
  stops m m' h e = record { within = tt; same = λ a ks. dies text (m a) ks at h (e a ks) }

  -- a byte is passed
  pub passes : {r : Scan} (m m' : A → Mode) (m'' : A → ℕ → Mode) → at < length text → ((a : A) (ks : List Frame) → step 32 text (m a) ks at (get_or text at 0) ≡ go (m' a) ks)
      → Reads text m' m'' (at + 1) r → Reads text m m'' at r
  passes {r} m m' m'' h e p = record { within = within-less at (at + 1) (length text) r (omega arith) p.within; same = λ a ks. moves text (m a) ks at (m' a) ks h (e a ks) ∙ p.same a ks }

  pub passes-end : (m : A → Mode) (m' : A → ℕ → Mode) → at < length text → ((a : A) (ks : List Frame) → step 32 text (m a) ks at (get_or text at 0) ≡ go (m' a (at + 1)) ks)
      → Reads text m m' at (Ok (at + 1))
  passes-end m m' h e = record { within = (omega arith, omega arith); same = λ a ks. moves text (m a) ks at (m' a (at + 1)) ks h (e a ks) }

  -- a byte is looked at
  pub looks : {r : Scan} (m m' : A → Mode) (m'' : A → ℕ → Mode) → at < length text → ((a : A) (ks : List Frame) → step 32 text (m a) ks at (get_or text at 0) ≡ step 32 text (m' a) ks at (get_or text at 0))
      → Reads text m' m'' at r → Reads text m m'' at r
  looks m m' m'' h e p = record { within = p.within; same = λ a ks. alike text (m a) ks at (m' a) ks h (e a ks) ∙ p.same a ks }

  -- one part, and another after it
  pub chains : {r' : Scan} {e : ℕ} (m : A → Mode) (m' m'' : A → ℕ → Mode) → Reads text m m' at (Ok e) → Reads text (λ a. m' a e) m'' e r' → Reads text m m'' at r'
  chains {r'} {e} m m' m'' p p' = record { within = within-less _ _ _ r' p.within.0 p'.within; same = λ a ks. p.same a ks ∙ p'.same a ks }

  pub joins : {r' : Scan} {e : ℕ} (m m' : A → Mode) (m'' : A → ℕ → Mode) → Reads text m (to m') at (Ok e) → Reads text m' m'' e r' → Reads text m m'' at r'
  unfolding to
  joins m m' m'' p p' = chains m (λ a n. m' a) m'' p p'

  -- one part that finds no end
  pub breaks : {b : BadByte} (m : A → Mode) (m' m'' : A → ℕ → Mode) → Reads text m m' at (Err b) → Reads text m m'' at (Err b)
  breaks m m' m'' p = record { within = tt; same = λ a ks. p.same a ks }

-- where the end that was found lies
pub end-high : {A : Type 0} {text : List ℕ} {m : A → Mode} {m' : A → ℕ → Mode} {at e : ℕ} → Reads text m m' at (Ok e) → e ≤ length text
end-high p = p.within.1

-- digits, and the mode that goes on after them
pub digits-end : {text : List ℕ} {at e : ℕ} (m : ℕ → Mode) (m' : ℕ → ℕ → Mode) → ((p : ℕ) → T (digital (m p))) → ((p : ℕ) → ending 32 text (m p) e ≡ ending 32 text (m' p e) e)
    → ((b : ℕ) → false ≡ is_digit b → (p : ℕ) (ks : List Frame) → step 32 text (m p) ks e b ≡ step 32 text (m' p e) ks e b)
    → Skips digital is_digit text at e → Reads text m m' at (Ok e)
digits-end {text} {at} {e} m m' o w law h = record {
  within = (h.stays.low, h.stays.high);
  same = λ p ks. h.stays.same (m p) (o p) ks ∙ settles text e (m p) (m' p e) ks (w p) (λ l. law (get_or text e 0) (h.stop l) p ks);
}

module _ {text : List ℕ} {at e : ℕ} (h : Skips digital is_digit text at e) where
  pub frac-digits : Reads text frac (to mant) at (Ok e)
  unfolding to
  frac-digits = digits-end frac (λ p n. mant p) (λ p. tt) (λ p. refl) (λ b. frac-else 32 text e b) h

  pub exps-digits : Reads text exps (numbered text) at (Ok e)
  unfolding numbered
  exps-digits = digits-end exps (numbered text) (λ p. tt) (λ p. refl) (λ b. exps-else 32 text e b) h

  pub int-digits : {r : Scan} → Reads text nought (numbered text) e r → Reads text int (numbered text) at r
  int-digits p = chains int (λ q n. nought q) (numbered text) (digits-end int (λ q n. nought q) (λ q. tt) (λ q. refl) (λ b. int-else 32 text e b) h) p

-- a numeral ends
module _ {text : List ℕ} {at : ℕ} where
  pub mant-out : at ≤ length text → length text ≤ at → Reads text mant (numbered text) at (Ok at)
  unfolding numbered
  mant-out l h = record { within = (omega arith, l); same = λ p ks. settles text at (mant p) (numbered text p at) ks refl (λ n. absurd (omega arith)) }

  pub nought-out : at ≤ length text → length text ≤ at → Reads text nought (numbered text) at (Ok at)
  unfolding numbered
  nought-out l h = record { within = (omega arith, l); same = λ p ks. settles text at (nought p) (numbered text p at) ks refl (λ n. absurd (omega arith)) }

  pub mant-done : at < length text → (get_or text at 0 ≡ 101 → ⊥) → (get_or text at 0 ≡ 69 → ⊥) → Reads text mant (numbered text) at (Ok at)
  unfolding numbered
  mant-done l h m = record { within = (omega arith, omega arith); same = λ p ks. settles text at (mant p) (numbered text p at) ks refl (λ n. mant-else 32 text at _ h m p ks) }

-- words: k bytes of ws are passed
pub record Spells (text ws : List ℕ) (at k i : ℕ) : Type 0 where
  pub reads : Reads text (λ s. literal_of ws s at) (literal_of (drop k ws)) at (Ok i)

pub word-start : {text ws : List ℕ} {at : ℕ} → at ≤ length text → Spells text ws at 0 at
word-start h = record { reads = record { within = (omega arith, h); same = λ s ks. refl } }

module _ {text ws : List ℕ} {at k i : ℕ} (p : Spells text ws at k i) where
  pub word-short : {b : BadByte} → k < length ws → length text ≤ i → b.at ≡ i → ReadsWord text ws at (Err b)
  unfolding literal_of
  word-short l h e = record { reads = chains _ _ (literal_of []) (rw (drop-cons ws k 0 l) at p.reads) (ends-bad _ (literal_of []) (λ s. refl) h e) }

  pub word-wrong : k < length ws → i < length text → (get_or text i 0 ≡ get_or ws k 0 → ⊥) → ReadsWord text ws at (Err (record { at = i }))
  unfolding literal_of
  word-wrong l h n = record { reads = chains _ _ (literal_of []) (rw (drop-cons ws k 0 l) at p.reads) (stops _ (literal_of []) h (λ s ks. lit-no 32 text i _ _ _ n _ _ ks)) }

  pub word_more : k < length ws → i < length text → get_or text i 0 ≡ get_or ws k 0 → Spells text ws at (k + 1) (i + 1)
  unfolding literal_of
  word_more l h e = record { reads = rw (add-one k) (chains _ _ _ (rw (drop-cons ws k 0 l) at p.reads) (passes-end _ _ h (λ s ks. spells (drop (suc k) ws) s ks))) }
    where
      spells : (vs : List ℕ) (s : WordAt) (ks : List Frame) → step 32 text (literal_of (get_or ws k 0 ∷ vs) s i) ks i (get_or text i 0) ≡ go (literal_of vs s (i + 1)) ks
      spells [] s ks = lit-last 32 text i _ _ e _ _ ks
      spells (v ∷ vs) s ks = lit-more 32 text i _ _ v vs e _ _ ks

  pub word-done : length ws ≤ k → ReadsWord text ws at (Ok i)
  word-done l = record { reads = rw (drop_of_length-le ws l) at p.reads }

-- hexadecimal digits: those up to i are passed, and the others of the four are to come
abbrev pub Hexes : List ℕ → ℕ → ℕ → Type 0
Hexes text at i = Reads text (hex_of 4) (to (hex_of (at + 4 - i))) at (Ok i)

pub hexes-start : {text : List ℕ} {at : ℕ} → at ≤ length text → Hexes text at at
hexes-start {text} {at} h = let e : at + 4 - at ≡ 4 = omega arith in rw e (here (hex_of 4) h)

module _ {text : List ℕ} {at i : ℕ} (p : Hexes text at i) where
  module _ (l : i < at + 4) where
    -- so many digits are to come, after the next
    left : ℕ
    left = at + 4 - i - 1

    left-is : at + 4 - i ≡ suc left
    unfolding left
    left-is = omega arith

    pub hex-short : {b : BadByte} → length text ≤ i → b.at ≡ i → Reads text (hex_of 4) (to chars_of) at (Err b)
    unfolding hex_of
    hex-short h e = joins (hex_of 4) (hex_of (suc left)) (to chars_of) (rw left-is at p) (ends-bad (hex_of (suc left)) (to chars_of) (λ s. refl) h e)

    pub hex-wrong : i < length text → false ≡ is_hex (get_or text i 0) → Reads text (hex_of 4) (to chars_of) at (Err (record { at = i }))
    unfolding hex_of
    hex-wrong h e = joins (hex_of 4) (hex_of (suc left)) (to chars_of) (rw left-is at p) (stops (hex_of (suc left)) (to chars_of) h (λ s ks. hex-no 32 text i _ e _ _ left ks))

    pub hex-more : i < length text → true ≡ is_hex (get_or text i 0) → Hexes text at (i + 1)
    unfolding hex_of to chars_of
    hex-more h e =
        let z : at + 4 - (i + 1) ≡ left = let q = left-is in omega arith in
        rw z (joins (hex_of 4) (hex_of (suc left)) (to (hex_of left)) (rw left-is at p) (passes-end (hex_of (suc left)) (to (hex_of left)) h (goes left)))
      where
        goes : (n : ℕ) (s : StringAt) (ks : List Frame) → step 32 text (hex_of (suc n) s) ks i (get_or text i 0) ≡ go (to (hex_of n) s (i + 1)) ks
        goes zero s ks = hex-yes 32 text i _ e _ _ zero ks
        goes (suc j) s ks = hex-yes 32 text i _ e _ _ (suc j) ks

pub hex_of-test : (b : ℕ) → is_ascii_hexdigit b ≡ is_hex b
unfolding is_hex
hex_of-test b = refl

pub hex-done : {text : List ℕ} {at : ℕ} → Hexes text at (at + 4) → Reads text (hex_of 4) (to chars_of) at (Ok (at + 4))
unfolding hex_of
hex-done {text} {at} p = let e : at + 4 - (at + 4) ≡ 0 = omega arith in rw e at p

-- escapes
module _ {text : List ℕ} {at : ℕ} where
  pub escape-out : {b : BadByte} → length text ≤ at → b.at ≡ at → Reads text esc_of (to chars_of) at (Err b)
  unfolding esc_of
  escape-out h e = ends-bad esc_of (to chars_of) (λ s. refl) h e

  pub escape-u : {r : Scan} → at < length text → get_or text at 0 ≡ 117 → Reads text (hex_of 4) (to chars_of) (at + 1) r → Reads text esc_of (to chars_of) at r
  unfolding esc_of hex_of
  escape-u h e p = passes esc_of (hex_of 4) (to chars_of) h (λ s ks. esc-u 32 text at _ e _ _ ks) p

  pub escape-one : at < length text → true ≡ is_escape (get_or text at 0) → Reads text esc_of (to chars_of) at (Ok (at + 1))
  unfolding esc_of to chars_of
  escape-one h e = passes-end esc_of (to chars_of) h (λ s ks. esc-yes 32 text at _ e _ _ ks)

  pub escape-no : at < length text → (get_or text at 0 ≡ 117 → ⊥) → false ≡ is_escape (get_or text at 0) → Reads text esc_of (to chars_of) at (Err (record { at = at }))
  unfolding esc_of
  escape-no h n e = stops esc_of (to chars_of) h (λ s ks. esc-no 32 text at _ n e _ _ ks)

-- strings
pub string-start : {text : List ℕ} {at : ℕ} → at ≤ length text → Reads text chars_of (to chars_of) at (Ok at)
string-start h = here chars_of h

module _ {text : List ℕ} {at i : ℕ} (h : Reads text chars_of (to chars_of) at (Ok i)) where
  pub string-out : {b : BadByte} → length text ≤ i → b.at ≡ i → ReadsString text at (Err b)
  unfolding chars_of
  string-out l e = record { reads = joins chars_of chars_of (closed_of text) h (ends-bad chars_of (closed_of text) (λ s. refl) l e); past = tt }

  pub string-shut : i < length text → get_or text i 0 ≡ 34 → ReadsString text at (Ok (i + 1))
  unfolding chars_of closed_of
  string-shut l e = record {
    reads = joins chars_of chars_of (closed_of text) h (passes-end chars_of (closed_of text) l (λ s ks. chars-quote 32 text i _ e _ _ ks));
    past = (omega (arith, h.within.0), omega arith);
  }

  pub string-bad : i < length text → get_or text i 0 < 32 → ReadsString text at (Err (record { at = i }))
  unfolding chars_of
  string-bad l b = record {
    reads = joins chars_of chars_of (closed_of text) h (stops chars_of (closed_of text) l (λ s ks. chars-no 32 text i _ (λ e. omega arith) (λ e. omega arith) b _ _ ks));
    past = tt;
  }

  pub string-plain : i < length text → (get_or text i 0 ≡ 34 → ⊥) → (get_or text i 0 ≡ 92 → ⊥) → 32 ≤ get_or text i 0 → Reads text chars_of (to chars_of) at (Ok (i + 1))
  unfolding chars_of to
  string-plain l n m b = joins chars_of chars_of (to chars_of) h (passes-end chars_of (to chars_of) l (λ s ks. chars-more 32 text i _ n m b _ _ ks))

  -- the rest of the string is read from i on
  pub string-rest : {r : Scan} → ReadsString text i r → ReadsString text at r
  string-rest {r} s = record { reads = joins chars_of chars_of (closed_of text) h s.reads; past = within-less (at + 1) (i + 1) (length text) r (omega (arith, h.within.0)) s.past }

  module _ {r : Scan} (l : i < length text) (b : get_or text i 0 ≡ 92) (p : Reads text esc_of (to chars_of) (i + 1) r) where
    escaped : Reads text chars_of (to chars_of) i r
    unfolding chars_of esc_of
    escaped = passes chars_of esc_of (to chars_of) l (λ s ks. chars-esc 32 text i _ b _ _ ks) p

  module _ (l : i < length text) (b : get_or text i 0 ≡ 92) where
    pub string-break : {q : BadByte} → Reads text esc_of (to chars_of) (i + 1) (Err q) → ReadsString text at (Err q)
    string-break p = record { reads = joins chars_of chars_of (closed_of text) h (breaks chars_of (to chars_of) (closed_of text) (escaped l b p)); past = tt }

    pub string-escaped : {e : ℕ} → Reads text esc_of (to chars_of) (i + 1) (Ok e) → Reads text chars_of (to chars_of) at (Ok e)
    string-escaped p = joins chars_of chars_of (to chars_of) h (escaped l b p)

pub escape-less : {text : List ℕ} (i : ℕ) {e : ℕ} → Reads text esc_of (to chars_of) (i + 1) (Ok e) → length text - e < length text - i
escape-less i p = let w = p.within in omega (arith, w.0, w.1)

-- several bytes that a string has as they stand
pub string-run : {text : List ℕ} {at i : ℕ} → Reads text chars_of (to chars_of) at (Ok i) → (k : ℕ) → i + k ≤ length text → ((j : ℕ) → j < k → Unescaped (get_or text (i + j) 0))
    → Reads text chars_of (to chars_of) at (Ok (i + k))
string-run {i = i} h zero l u = rw (add-zero i) h
string-run {i = i} h (suc k) l u =
    let b = u k (omega arith) in
    let e : i + k + 1 ≡ i + suc k = omega arith in
    rw e at (string-plain (string-run h k (omega arith) (λ j z. u j (omega arith))) (omega arith) b.no-quote b.no-backslash b.no-control)

-- `plain_end`
pub passes-start : {text : List ℕ} {at : ℕ} → at ≤ length text → Passes text at at
passes-start h = record { high = h; reads = string-start h }

-- the mark is in one of eight bytes
marks-high : (m : ℕ) → count_trailing_zeros 64 m / 8 ≤ 8
marks-high m = let h = trailing_le 64 m in omega arith

-- where the mark is, as a number of 64 bits
pub mark-fits : (m : ℕ) → Fits w64 (count_trailing_zeros 64 m / 8)
mark-fits m = let h = marks-high m in omega arith

pub part-fits : (i m : ℕ) → Fits w64 (i + 8) → Fits w64 (i + count_trailing_zeros 64 m / 8)
part-fits i m f = let h = marks-high m in let l = f.fits in omega arith

module _ {text : List ℕ} {at i x m : ℕ} (p : Passes text at i) (e : Eight text i x) (k : Marked x m) (l : 8 ≤ length text - i) where
  pub passes-part : Passes text at (i + count_trailing_zeros 64 m / 8)
  passes-part =
      let h = marks-high m in
      let r : i + count_trailing_zeros 64 m / 8 ≤ length text = omega arith in
      record { high = r; reads = string-run p.reads (count_trailing_zeros 64 m / 8) r (λ j z. subst Unescaped (e.same j (omega arith)) (k.below j z)) }

  pub passes-all : m ≡ 0 → Passes text at (i + 8)
  passes-all z = let t : count_trailing_zeros 64 m ≡ 64 = rw z (trailing_of_zero 64) in rw t at passes-part
