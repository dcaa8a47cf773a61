-- A numeral by its parts, as RFC 8259, section 6, writes it: number = [ minus ] int [ frac ] [ exp ].
-- What `as_written` makes of its bytes is what the parts say. Zeros in front of int, which the RFC does not allow, change nothing in that.
use Rattle.std.specs.Prelude.{ℕ, ◌+◌, ◌-◌, ◌<◌, ◌≡◌, Bool, cond, List, [], ◌∷◌, ◌++◌, map, eqb, negsuc}
use Rattle.std.proofs.Math.Path.{refl, ap}
use Rattle.std.proofs.Common.{sym, ◌∙◌, append_assoc, append-nil, arith, le-leb, ne_eqb}
use Rattle.std.proofs.Math.Bool.{true, false}
use Rattle.std.proofs.Math.Nat.{add-sub_cancel_left}
use Rattle.std.proofs.Math.ListN.{length}
use Rattle.utf8.specs.Ascii.{ascii, is_digit}
use Rattle.numerals.specs.Numerals.{before, after, is_point, is_letter, digits, natural, negative, signed, integer, mantissa, places, exponent}
use Rattle.numerals.specs.Laws.{Below10}
use Rattle.numerals.proofs.Laws.{Lacks, before-past, after-past}
use Rattle.numerals.proofs.Laws.Lacks.{lacks-nil, lacks-more}
use Rattle.numerals.specs.Values.{as_written}
use Rattle.numerals.specs.Parts.{Digits, Fraction, Sign, Exponent, Parts, values_of, digit_bytes, minus_bytes, fraction_bytes, sign_bytes, exponent_bytes, bytes_of, fraction_values, is_minus, exponent_value, worth, ExponentDigits, Sound, no_fraction, point, minus, plus, no_sign, no-exponent, power}

-- ---- their bytes

-- ---- and their value

-- ---- the bytes write the value

-- no digit passes a test
abbrev NoDigit : (ℕ → Bool) → Type 0
NoDigit test = (v : ℕ) → v < 10 → test (48 + v) ≡ false

module _ {test : ℕ → Bool} where
  lacks-++ : {l s : List ℕ} → Lacks test l → Lacks test s → Lacks test (l ++ s)
  lacks-++ lacks-nil k = k
  lacks-++ (lacks-more e h) k = lacks-more e (lacks-++ h k)

  -- digits, and a minus sign before them, for a test that passes neither
  lacks-digits : NoDigit test → (l : List ℕ) → Below10 l → Lacks test (map (λ v. 48 + v) l)
  lacks-digits k [] h = lacks-nil
  lacks-digits k (v ∷ l) h = lacks-more (k v h.0) (lacks-digits k l h.1)

  lacks-whole : test 45 ≡ false → NoDigit test → (n : Bool) (d : Digits) → Below10 (values_of d) → Lacks test (minus_bytes n ++ digit_bytes d)
  unfolding minus_bytes digit_bytes
  lacks-whole e k true d h = lacks-more e (lacks-digits k (values_of d) h)
  lacks-whole e k false d h = lacks-digits k (values_of d) h

-- a digit is no minus sign, no point and no letter
not-minus : (v : ℕ) → eqb (48 + v) 45 ≡ false
not-minus v = ne_eqb (48 + v) 45 (λ e. omega arith)

not-point : NoDigit is_point
unfolding is_point
not-point v h = ne_eqb (48 + v) 46 (λ e. omega arith)

not-letter : NoDigit is_letter
unfolding is_letter
not-letter v h = rw (ne_eqb (48 + v) 101 (λ e. omega arith), ne_eqb (48 + v) 69 (λ e. omega arith))

lacks-fraction : (f : Fraction) → Below10 (fraction_values f) → Lacks is_letter (fraction_bytes f)
unfolding fraction_bytes is_letter
lacks-fraction no_fraction h = lacks-nil
lacks-fraction (point d) h = lacks-more refl (lacks-digits not-letter (values_of d) h)

-- the digits among the bytes of each part
digits-++ : (a b : List ℕ) → digits (a ++ b) ≡ digits a ++ digits b
unfolding digits
digits-++ [] b = refl
digits-++ (c ∷ a) b = rw (digits-++ a b) (sym (append_assoc (cond (is_digit c) ((c - 48) ∷ []) []) (digits a) (digits b)))

digits-map : (l : List ℕ) → Below10 l → digits (map (λ v. 48 + v) l) ≡ l
unfolding digits
digits-map [] h = refl
digits-map (v ∷ l) h = rw (le-leb 48 (48 + v) (omega arith), le-leb (48 + v) 57 (omega arith), add-sub_cancel_left 48 v, digits-map l h.1)

digits-whole : (n : Bool) (d : Digits) → Below10 (values_of d) → digits (minus_bytes n ++ digit_bytes d) ≡ values_of d
unfolding digits minus_bytes digit_bytes
digits-whole true d h = digits-map (values_of d) h
digits-whole false d h = digits-map (values_of d) h

digits-fraction : (f : Fraction) → Below10 (fraction_values f) → digits (fraction_bytes f) ≡ fraction_values f
unfolding digits fraction_bytes
digits-fraction no_fraction h = refl
digits-fraction (point d) h = digits-map (values_of d) h

-- those after the point
digits-point : (f : Fraction) → Below10 (fraction_values f) → digits (after is_point (fraction_bytes f)) ≡ fraction_values f
unfolding digits fraction_bytes after is_point
digits-point no_fraction h = refl
digits-point (point d) h = digits-map (values_of d) h

-- a minus sign comes first, or a digit
negative-whole : (n : Bool) (d : Digits) (f x : List ℕ) → negative (minus_bytes n ++ digit_bytes d ++ f ++ x) ≡ n
unfolding negative minus_bytes digit_bytes
negative-whole true d f x = refl
negative-whole false d f x = not-minus d.first

-- an exponent begins with its letter, and its digits with their sign follow
before-exponent : (x : Exponent) → before is_letter (exponent_bytes x) ≡ []
unfolding before is_letter exponent_bytes
before-exponent no-exponent = refl
before-exponent (power true s d) = refl
before-exponent (power false s d) = refl

integer-sign : (s : Sign) (d : Digits) → Below10 (values_of d) → integer (sign_bytes s ++ digit_bytes d) ≡ signed (is_minus s) (natural 0 (values_of d))
unfolding integer sign_bytes digit_bytes
integer-sign minus d h = ap (λ l. signed true (natural 0 l)) (digits-map (values_of d) h)
integer-sign plus d h = ap (λ l. signed false (natural 0 l)) (digits-map (values_of d) h)
integer-sign no_sign d h = rw (not-minus d.first) (ap (λ l. signed false (natural 0 l)) (digits-map (values_of d) h))

exponent-alone : (x : Exponent) → ExponentDigits x → exponent (exponent_bytes x) ≡ exponent_value x
unfolding exponent integer exponent_bytes
exponent-alone no-exponent h = refl
exponent-alone (power true s d) h = integer-sign s d h
exponent-alone (power false s d) h = integer-sign s d h

-- the parts of the bytes, as `Numerals` finds them
module _ (p : Parts) (h : Sound p) where
  no-letter : Lacks is_letter (minus_bytes p.negative ++ digit_bytes p.int ++ fraction_bytes p.frac)
  unfolding is_letter
  no-letter = lacks-++ (lacks-whole refl not-letter p.negative p.int h.int) (lacks-fraction p.frac h.frac)

  mantissa-is : mantissa (bytes_of p) ≡ minus_bytes p.negative ++ digit_bytes p.int ++ fraction_bytes p.frac
  unfolding mantissa bytes_of
  mantissa-is = before-past no-letter (exponent_bytes p.exp) ∙ rw (before-exponent p.exp) (append-nil _)

  digits_are : digits (mantissa (bytes_of p)) ≡ values_of p.int ++ fraction_values p.frac
  digits_are = rw (mantissa-is, digits-++, digits-whole p.negative p.int h.int, digits-fraction p.frac h.frac)

  places-are : places (bytes_of p) ≡ length (fraction_values p.frac)
  unfolding places is_point
  places-are =
      ap (λ l. length (digits (after is_point l))) mantissa-is
      ∙ ap (λ l. length (digits l)) (after-past (lacks-whole refl not-point p.negative p.int h.int) (fraction_bytes p.frac))
      ∙ ap length (digits-point p.frac h.frac)

  exponent-is : exponent (bytes_of p) ≡ exponent_value p.exp
  unfolding exponent integer bytes_of
  exponent-is = ap integer (after-past no-letter (exponent_bytes p.exp)) ∙ exponent-alone p.exp h.exp

  negative-is : negative (bytes_of p) ≡ p.negative
  unfolding bytes_of
  negative-is = negative-whole p.negative p.int (fraction_bytes p.frac) (exponent_bytes p.exp)

-- what the bytes write is what the parts say
pub written-parts : (p : Parts) → Sound p → as_written (bytes_of p) ≡ worth p
unfolding as_written worth
written-parts p h = rw (negative-is p h, digits_are p h, exponent-is p h, places-are p h)

-- ---- an example

-- -120.50E+1 is -12050 times ten to the 1 less 2
abbrev sample : Parts
sample =
    record {
      negative = true;
      int = record { first = 1; others = 2 ∷ 0 ∷ [] };
      frac = point (record { first = 5; others = 0 ∷ [] });
      exp = power true plus (record { first = 1; others = [] });
    }

sample-sound : Sound sample
sample-sound = record { int = (omega arith, (omega arith, (omega arith, tt))); frac = (omega arith, (omega arith, tt)); exp = (omega arith, tt) }

sample-bytes : bytes_of sample ≡ ascii "-120.50E+1"
unfolding bytes_of ascii
sample-bytes = refl

sample-worth : worth sample ≡ record { m = negsuc 12049; e = negsuc 0 }
unfolding worth
sample-worth = refl
