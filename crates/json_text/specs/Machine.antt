-- JSON texts (RFC 8259) read one byte at a time, by a machine with a stack of the containers that are open.
-- It stops at the first byte that no JSON text has there (docs/RULES.md, rule 3) and at the byte that opens a level too many (rule 4).
use Rattle.std.specs.Prelude.{ℕ, zero, suc, ◌+◌, ◌-◌, Bool, true, false, cond, ◌&&◌, ◌||◌, List, [], ◌∷◌, length, ◌==◌, nat_le, nat_lt}
use Rattle.std.proofs.Math.Option.{Option, some}
use Rattle.std.proofs.Math.Option as option
use Rattle.std.proofs.Math.Seq.{slice}
use Rattle.utf8.specs.Ascii.{ascii, is_digit}
use Rattle.json_text.specs.Tree.{Json, null, bool, num, str, arr, obj, Items, no_items, ◌◂◌, Members, empty, with, Name}

-- the kinds of byte: white space; a hexadecimal digit; what may follow the backslash of an escape of two bytes
unfoldable pub is_blank : ℕ → Bool
is_blank b = b == 32 || b == 10 || b == 13 || b == 9

unfoldable pub is_hex : ℕ → Bool
is_hex b = nat_le 48 b && nat_le b 57 || nat_le 65 b && nat_le b 70 || nat_le 97 b && nat_le b 102

unfoldable pub is_escape : ℕ → Bool
is_escape b = b == 34 || b == 47 || b == 92 || b == 98 || b == 102 || b == 110 || b == 114 || b == 116

-- a container in which a value is being read, with its place: an array and its elements so far; an object, its members so far and the name of the present one
pub data Frame : Type 0 where
  array : ℕ → Items → Frame
  object : ℕ → Members → Name → Frame

-- what a string is: a value, or a name in the object that began at a place, after the members that it has so far
pub data Role : Type 0 where
  value : Role
  name : ℕ → Members → Role

-- what may come next; a number is the place at which the present container, string or numeral began
pub data Mode : Type 0 where
  want : Mode  -- a value
  first : ℕ → Mode  -- the first element of an array, or its end
  name0 : ℕ → Mode  -- the first name of an object, or its end
  name1 : ℕ → Members → Mode  -- a name, after a comma
  colon : ℕ → Members → Name → Mode  -- the colon after a name
  got : Json → Mode  -- what follows a value
  chars : Role → ℕ → Mode  -- more of a string
  esc : Role → ℕ → Mode  -- what follows a backslash
  hex : Role → ℕ → ℕ → Mode  -- a hexadecimal digit, and then as many as the last number says
  neg : ℕ → Mode  -- what follows a minus sign
  nought : ℕ → Mode  -- what follows a whole part that takes no more digits
  int : ℕ → Mode  -- more of a whole part
  dot : ℕ → Mode  -- the first digit of a fraction
  frac : ℕ → Mode  -- more of a fraction
  mant : ℕ → Mode  -- what follows a fraction that takes no more digits
  exp : ℕ → Mode  -- the sign or the first digit of an exponent
  sign : ℕ → Mode  -- the first digit of an exponent
  exps : ℕ → Mode  -- more of an exponent
  lit : ℕ → Option Bool → List ℕ → Mode  -- the rest of true, false (some) or null

-- what a byte does: the machine goes on; no JSON text has it there; it opens a level too many
pub data Step : Type 0 where
  go : Mode → List Frame → Step
  dead deep : Step

-- what a text is: the tree that it is read as; or the machine stopped, or the text ended too early, at a place; or a level too many was opened there
pub data Outcome : Type 0 where
  reads : Json → Outcome
  bad : ℕ → Outcome
  too_deep : ℕ → Outcome

abbrev pub literal : Option Bool → (p e : ℕ) → Json
literal option.none p e = null p e
literal (some b) p e = bool p e b

-- at most so many levels, in this text
module _ (most : ℕ) (text : List ℕ) where
  -- a string that began at p ends before e
  abbrev pub closed : Role → ℕ → ℕ → Mode
  closed value p e = got (str p e (slice (p + 1) (e - 1) text))
  closed (name o ms) p e = colon o ms (record { place = p; end = e; raw = slice (p + 1) (e - 1) text })

  -- a numeral that began at p ends before e
  abbrev pub numeral : ℕ → ℕ → Json
  numeral p e = num p e (slice p e text)

  -- a container is opened: "the root array or object is level 1"
  abbrev pub opened : Mode → List Frame → Step
  opened m ks = cond (nat_lt (length ks) most) (go m ks) deep

  -- the byte b at n, where a value begins
  unfoldable pub want_step : List Frame → ℕ → ℕ → Step
  unfolding ascii
  want_step ks n b =
      cond (b == 91) (opened (first n) ks)
      (cond (b == 123) (opened (name0 n) ks)
      (cond (b == 34) (go (chars value n) ks)
      (cond (b == 45) (go (neg n) ks)
      (cond (b == 48) (go (nought n) ks)
      (cond (is_digit b) (go (int n) ks)
      (cond (b == 116) (go (lit n (some true) (ascii "rue")) ks)
      (cond (b == 102) (go (lit n (some false) (ascii "alse")) ks)
      (cond (b == 110) (go (lit n option.none (ascii "ull")) ks)
      dead))))))))

  -- the byte b at n, after a value in what is open
  unfoldable pub next_step : Json → List Frame → ℕ → ℕ → Step
  next_step v [] n b = dead
  next_step v (array p vs ∷ ks) n b =
      cond (b == 44) (go want (array p (vs ◂ v) ∷ ks))
      (cond (b == 93) (go (got (arr p (n + 1) (vs ◂ v))) ks) dead)
  next_step v (object p ms k ∷ ks) n b =
      cond (b == 44) (go (name1 p (with ms k v)) ks)
      (cond (b == 125) (go (got (obj p (n + 1) (with ms k v))) ks) dead)

  unfoldable pub got_step : Json → List Frame → ℕ → ℕ → Step
  got_step v ks n b = cond (is_blank b) (go (got v) ks) (next_step v ks n b)

  -- the byte b at n, where a name begins in the object at p
  unfoldable pub name_step : ℕ → Members → List Frame → ℕ → ℕ → Step
  name_step p ms ks n b = cond (b == 34) (go (chars (name p ms) n) ks) dead

  -- after a fraction, and after a whole part, that takes no more digits
  unfoldable pub mant_step : ℕ → List Frame → ℕ → ℕ → Step
  mant_step p ks n b = cond (b == 101 || b == 69) (go (exp p) ks) (got_step (numeral p n) ks n b)

  unfoldable pub nought_step : ℕ → List Frame → ℕ → ℕ → Step
  nought_step p ks n b = cond (b == 46) (go (dot p) ks) (mant_step p ks n b)

  -- the byte b of a word that is still to come
  abbrev pub lit_step : ℕ → Option Bool → List ℕ → List Frame → ℕ → ℕ → Step
  lit_step p l [] ks n b = dead
  lit_step p l (w ∷ []) ks n b = cond (b == w) (go (got (literal l p (n + 1))) ks) dead
  lit_step p l (w ∷ w' ∷ ws) ks n b = cond (b == w) (go (lit p l (w' ∷ ws)) ks) dead

  abbrev pub hexed : Role → ℕ → ℕ → Mode
  hexed k p zero = chars k p
  hexed k p (suc j) = hex k p j

  -- the byte b at n
  unfoldable pub step : Mode → List Frame → ℕ → ℕ → Step
  step want ks n b = cond (is_blank b) (go want ks) (want_step ks n b)
  step (first p) ks n b =
      cond (is_blank b) (go (first p) ks)
      (cond (b == 93) (go (got (arr p (n + 1) no_items)) ks) (want_step (array p no_items ∷ ks) n b))
  step (name0 p) ks n b =
      cond (is_blank b) (go (name0 p) ks)
      (cond (b == 125) (go (got (obj p (n + 1) empty)) ks) (name_step p empty ks n b))
  step (name1 p ms) ks n b = cond (is_blank b) (go (name1 p ms) ks) (name_step p ms ks n b)
  step (colon p ms k) ks n b = cond (is_blank b) (go (colon p ms k) ks) (cond (b == 58) (go want (object p ms k ∷ ks)) dead)
  step (got v) ks n b = got_step v ks n b
  step (chars k p) ks n b =
      cond (b == 34) (go (closed k p (n + 1)) ks)
      (cond (b == 92) (go (esc k p) ks) (cond (nat_lt b 32) dead (go (chars k p) ks)))
  step (esc k p) ks n b = cond (is_escape b) (go (chars k p) ks) (cond (b == 117) (go (hex k p 3) ks) dead)
  step (hex k p j) ks n b = cond (is_hex b) (go (hexed k p j) ks) dead
  step (neg p) ks n b = cond (b == 48) (go (nought p) ks) (cond (is_digit b) (go (int p) ks) dead)
  step (nought p) ks n b = nought_step p ks n b
  step (int p) ks n b = cond (is_digit b) (go (int p) ks) (nought_step p ks n b)
  step (dot p) ks n b = cond (is_digit b) (go (frac p) ks) dead
  step (frac p) ks n b = cond (is_digit b) (go (frac p) ks) (mant_step p ks n b)
  step (mant p) ks n b = mant_step p ks n b
  step (exp p) ks n b = cond (b == 43 || b == 45) (go (sign p) ks) (cond (is_digit b) (go (exps p) ks) dead)
  step (sign p) ks n b = cond (is_digit b) (go (exps p) ks) dead
  step (exps p) ks n b = cond (is_digit b) (go (exps p) ks) (got_step (numeral p n) ks n b)
  step (lit p l ws) ks n b = lit_step p l ws ks n b

  -- the value that is whole where the text ends at n, if nothing is open
  abbrev pub ending : Mode → ℕ → Outcome
  ending want n = bad n
  ending (first p) n = bad n
  ending (name0 p) n = bad n
  ending (name1 p ms) n = bad n
  ending (colon p ms k) n = bad n
  ending (got v) n = reads v
  ending (chars k p) n = bad n
  ending (esc k p) n = bad n
  ending (hex k p j) n = bad n
  ending (neg p) n = bad n
  ending (nought p) n = reads (numeral p n)
  ending (int p) n = reads (numeral p n)
  ending (dot p) n = bad n
  ending (frac p) n = reads (numeral p n)
  ending (mant p) n = reads (numeral p n)
  ending (exp p) n = bad n
  ending (sign p) n = bad n
  ending (exps p) n = reads (numeral p n)
  ending (lit p l ws) n = bad n

  abbrev pub finish : Mode → List Frame → ℕ → Outcome
  finish m [] n = ending m n
  finish m (k ∷ ks) n = bad n

  abbrev pub follow : Step → ℕ → (Mode → List Frame → Outcome) → Outcome
  follow (go m ks) n f = f m ks
  follow dead n f = bad n
  follow deep n f = too_deep n

  -- the bytes from n on, in the mode m with the containers ks open
  unfoldable pub run : Mode → List Frame → ℕ → List ℕ → Outcome
  run m ks n [] = finish m ks n
  run m ks n (b ∷ bs) = follow (step m ks n b) n (λ m' ks'. run m' ks' (n + 1) bs)

-- what a text is read as: "a nesting of at most 32 levels"
unfoldable pub read : List ℕ → Outcome
unfolding run
read text = run 32 text want [] 0 text

-- the tree of a text; what it is for a text that is not JSON matters nowhere
unfoldable pub tree_in : Outcome → Json
tree_in (reads v) = v
tree_in (bad n) = null 0 0
tree_in (too_deep n) = null 0 0

unfoldable pub tree_of : List ℕ → Json
unfolding tree_in read
tree_of text = tree_in (read text)
