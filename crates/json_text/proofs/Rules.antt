-- What `search` is handed to close what the functions leave.
use Rattle.std.proofs.Common.{◌≡◌, ℕ, ◌+◌, ◌<◌, ◌≤◌, Bool, true, false, not, List, length, get_or, sym, ◌∙◌, rules}
use denote.Ref.{Bor}
use Rattle.std.specs.Prelude.{Option, Some, None}
use Rattle.std.specs.Slice.{IsItemAt}
use borrow.Author.Tests.{not-true, not-false}
use Rattle.json_text.specs.Machine.{is_blank}
use Rattle.json_text.specs.Says.{Stays, blanks}
use Rattle.json_text.proofs.Moves.{stays-none, stays-more, stops-at, stops-out, blank-stays}
use Rattle.json_text.proofs.Parts.{ends-bad, stops, passes, looks, end-high, hexes-start, hex-short, hex-wrong, hex-more, hex-done, escape-out, escape-u, escape-one, escape-no, string-start, string-out, string-shut, string-bad, string-plain, string-rest, string-break, string-escaped, escape-less, passes-start, passes-part, passes-all}

-- what a test of a flag that a call gave says of the call's own test
pub flag-yes : (r t : Bool) → r ≡ true → r ≡ t → true ≡ t
flag-yes r t e q = sym e ∙ q

pub flag-no : (r t : Bool) → r ≡ false → r ≡ t → false ≡ t
flag-no r t e q = sym e ∙ q

pub flag-not-yes : (r t : Bool) → not r ≡ false → r ≡ t → true ≡ t
flag-not-yes r t e q = sym (not-false r e) ∙ q

pub flag-not-no : (r t : Bool) → not r ≡ true → r ≡ t → false ≡ t
flag-not-no r t e q = sym (not-true r e) ∙ q

-- what `get` gives
pub got-some : (text : List ℕ) (at : ℕ) {r : Option (Bor ℕ)} {b : Bor ℕ} → IsItemAt text at r → r ≡ Some b → (at < length text) × (get_or text at 0 ≡ b.now)
got-some text at h e = let g = rw e at h in (g.3.0, sym (g.3.1 0))

pub got-none : (text : List ℕ) (at : ℕ) {r : Option (Bor ℕ)} → IsItemAt text at r → r ≡ None → length text ≤ at
got-none text at h e = let g = rw e at h in g.3

-- a loop over blanks
pub blanks-none : (text : List ℕ) (at : ℕ) → at ≤ length text → Stays blanks text at at
blanks-none text at h = stays-none blanks text at h

pub blanks-more : {text : List ℕ} {at i : ℕ} → Stays blanks text at i → i < length text → true ≡ is_blank (get_or text i 0) → Stays blanks text at (i + 1)
blanks-more {text} {at} {i} h l e = stays-more blanks is_blank blank-stays text at i h l e

-- tests of flags
pub ruleset flags = (flag-yes, flag-no, flag-not-yes, flag-not-no)

-- white space
pub ruleset skips = (blanks-none, blanks-more, stops-at, stops-out)

-- an escape
pub ruleset escapes = (hexes-start, hex-short, hex-wrong, hex-more, hex-done, escape-out, escape-u, escape-one, escape-no, escape-less)

-- the other bytes of a string
pub ruleset strings = (string-start, string-out, string-shut, string-bad, string-plain, string-rest, string-break, string-escaped, passes-start, passes-part, passes-all)

pub ruleset lexes = (rules, flags, skips, escapes, strings, ends-bad, stops, passes, looks, end-high)
