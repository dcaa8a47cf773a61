-- What a look at strings as they stand tells, before they are decoded.
use Rattle.std.specs.Prelude.{ℕ, ◌≡◌, ◌≤◌, Bool, List, length, drop}
use Rattle.utf8.specs.Utf8.{same}
use Rattle.strings.specs.Strings.{decode}

-- r tells whether the bytes m stand for the bytes l, and whether both stand for the same
pub record TellsSame (l m : List ℕ) (r : Bool) : Type 0 where
  pub word : r ≡ same l (decode m)
  pub string : r ≡ same (decode l) (decode m)

-- two strings that are alike before k, with no backslash there: what comes from k on tells whether they are the same
pub record Alike (l m : List ℕ) (k : ℕ) : Type 0 where
  pub first : k ≤ length l
  pub second : k ≤ length m
  pub word : same l (decode m) ≡ same (drop k l) (decode (drop k m))
  pub string : same (decode l) (decode m) ≡ same (decode (drop k l)) (decode (drop k m))
