-- What `search` is handed to close what the functions leave.
use Rattle.std.proofs.Common.{◌≡◌, ℕ, ◌+◌, ◌<◌, ◌≤◌, List, length, true, get_or, refl, ◌∙◌, rules}
use Rattle.std.specs.Char.{is_ascii_digit}
use Rattle.utf8.specs.Ascii.{is_digit}
use Rattle.json_text.specs.Machine.Mode.{nought, dot, mant}
use Rattle.json_text.specs.Says.{Scan, Stays, Reads, digital, to, numbered}
use Rattle.std.specs.Prelude.{Ok, Err}
use Rattle.json_text.specs.declared.BadByte.{BadByte}
use Rattle.json_text.specs.Steps.{dot-yes, dot-no, sign-yes, sign-no, exp-plus, exp-minus, exp-else, mant-e, mant-E, nought-dot, nought-else, neg-0, neg-digit, neg-no}
use Rattle.json_text.proofs.Moves.{stays-none, stays-more, digit-stays, settles}
use Rattle.json_text.proofs.Parts.{ends-bad, stops, passes, looks, joins, breaks, end-high, frac-digits, exps-digits, int-digits, mant-out, nought-out, mant-done, word-start, word-short, word-wrong, word_more, word-done}
use Rattle.scalars.proofs.Leaves.{scalar-string, scalar-minus, scalar-0, scalar-digit, scalar-true, scalar-false, scalar-null, scalar-low, scalar-high, digits-no, digits-yes}
use Rattle.json_text.proofs.Rules.{flags}

-- a loop over digits
pub digits-none : (text : List ℕ) (at : ℕ) → at ≤ length text → Stays digital text at at
digits-none text at h = stays-none digital text at h

pub digits-more : {text : List ℕ} {at i : ℕ} → Stays digital text at i → i < length text → true ≡ is_digit (get_or text i 0) → Stays digital text at (i + 1)
digits-more {text} {at} {i} h l e = stays-more digital is_digit digit-stays text at i h l e

-- std's test for a digit
pub digit_of-test : (b : ℕ) → is_ascii_digit b ≡ is_digit b
unfolding is_digit
digit_of-test b = refl

-- a fraction, after its point
module _ {text : List ℕ} {at : ℕ} (l : at < length text) (b : get_or text at 0 ≡ 46) where
  pub fraction-break : {q : BadByte} → Reads text dot (to mant) (at + 1) (Err q) → Reads text nought (numbered text) at (Err q)
  fraction-break p = passes nought dot (numbered text) l (nought-dot 32 text at _ b) (breaks dot (to mant) (numbered text) p)

  pub fraction-part : {e : ℕ} {r : Scan} → Reads text dot (to mant) (at + 1) (Ok e) → Reads text mant (numbered text) e r → Reads text nought (numbered text) at r
  fraction-part p p' = passes nought dot (numbered text) l (nought-dot 32 text at _ b) (joins dot mant (numbered text) p p')

-- no fraction
pub no-fraction : {text : List ℕ} {at : ℕ} {r : Scan} → (at < length text → get_or text at 0 ≡ 46 → ⊥) → Reads text mant (numbered text) at r → Reads text nought (numbered text) at r
no-fraction {text} {at} n p = record { within = p.within; same = λ q ks. settles text at (nought q) (mant q) ks refl (λ l. nought-else 32 text at _ (n l) q ks) ∙ p.same q ks }

-- numerals: their whole parts and fractions
pub ruleset fractions = (fraction-break, fraction-part, frac-digits, int-digits, nought-out, dot-yes, dot-no, nought-dot, nought-else, neg-0, neg-digit, neg-no)

-- and their exponents
pub ruleset exponents = (exps-digits, mant-out, mant-done, sign-yes, sign-no, exp-plus, exp-minus, exp-else, mant-e, mant-E)

-- the words
pub ruleset literals = (word-start, word-short, word-wrong, word_more, word-done)

pub ruleset lexes = (rules, flags, fractions, exponents, literals, ends-bad, stops, passes, looks, end-high)

-- values that hold no other
pub ruleset scalars = (rules, scalar-string, scalar-minus, scalar-0, scalar-digit, scalar-true, scalar-false, scalar-null, scalar-low, scalar-high, digits-no, digits-yes)
