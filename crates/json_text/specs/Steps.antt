-- What a byte does in each mode.
use Rattle.std.specs.Prelude.{◌≡◌, ℕ, ◌+◌, ◌<◌, ◌≤◌, Bool, true, false, List, [], ◌∷◌, length, ◌≢◌}
use Rattle.std.proofs.Math.Path.{sym}
use Rattle.std.proofs.Math.Option.{Option, some}
use Rattle.std.proofs.Math.Option as option
use Rattle.std.proofs.Common.{arith}
use borrow.Author.Tests.{eq-eqb, ne_eqb, lt-ltb, le-ltb}
use Rattle.utf8.specs.Ascii.{ascii, is_digit}
use Rattle.json_text.specs.Tree.{Json, arr, obj, Items, no_items, ◌◂◌, Members, empty, with, Name}
use Rattle.json_text.specs.Machine.{Frame, array, object, Role, value, go, dead, deep, step, want_step, got_step, next_step, name_step, mant_step, nought_step, is_blank, is_hex, is_escape, hexed, closed, numeral, literal}
use Rattle.json_text.specs.Machine.Role.{name}
use Rattle.json_text.specs.Machine.Mode.{want, first, name0, name1, colon, got, chars, esc, hex, neg, nought, int, dot, frac, mant, exp, sign, exps, lit}

module _ (most : ℕ) (text : List ℕ) (n b : ℕ) where
  -- numerals
  pub dot-yes : true ≡ is_digit b → (p : ℕ) (ks : List Frame) → step most text (dot p) ks n b ≡ go (frac p) ks
  unfolding step
  dot-yes e p ks = rw (sym e)

  pub dot-no : false ≡ is_digit b → (p : ℕ) (ks : List Frame) → step most text (dot p) ks n b ≡ dead
  unfolding step
  dot-no e p ks = rw (sym e)

  pub sign-yes : true ≡ is_digit b → (p : ℕ) (ks : List Frame) → step most text (sign p) ks n b ≡ go (exps p) ks
  unfolding step
  sign-yes e p ks = rw (sym e)

  pub sign-no : false ≡ is_digit b → (p : ℕ) (ks : List Frame) → step most text (sign p) ks n b ≡ dead
  unfolding step
  sign-no e p ks = rw (sym e)

  pub exp-plus : b ≡ 43 → (p : ℕ) (ks : List Frame) → step most text (exp p) ks n b ≡ go (sign p) ks
  unfolding step
  exp-plus e p ks = rw e

  pub exp-minus : b ≡ 45 → (p : ℕ) (ks : List Frame) → step most text (exp p) ks n b ≡ go (sign p) ks
  unfolding step
  exp-minus e p ks = rw e

  pub exp-else : (b ≢ 43) → (b ≢ 45) → (p : ℕ) (ks : List Frame) → step most text (exp p) ks n b ≡ step most text (sign p) ks n b
  unfolding step
  exp-else h m p ks = rw (ne_eqb b 43 h, ne_eqb b 45 m)

  pub mant-e : b ≡ 101 → (p : ℕ) (ks : List Frame) → step most text (mant p) ks n b ≡ go (exp p) ks
  unfolding step mant_step
  mant-e e p ks = rw e

  pub mant-E : b ≡ 69 → (p : ℕ) (ks : List Frame) → step most text (mant p) ks n b ≡ go (exp p) ks
  unfolding step mant_step
  mant-E e p ks = rw e

  pub mant-else : (b ≢ 101) → (b ≢ 69) → (p : ℕ) (ks : List Frame)
      → step most text (mant p) ks n b ≡ step most text (got (numeral most text p n)) ks n b
  unfolding step mant_step
  mant-else h m p ks = rw (ne_eqb b 101 h, ne_eqb b 69 m)

  pub nought-dot : b ≡ 46 → (p : ℕ) (ks : List Frame) → step most text (nought p) ks n b ≡ go (dot p) ks
  unfolding step nought_step
  nought-dot e p ks = rw e

  pub nought-else : (b ≢ 46) → (p : ℕ) (ks : List Frame) → step most text (nought p) ks n b ≡ step most text (mant p) ks n b
  unfolding step nought_step
  nought-else h p ks = rw (ne_eqb b 46 h)

  pub int-else : false ≡ is_digit b → (p : ℕ) (ks : List Frame) → step most text (int p) ks n b ≡ step most text (nought p) ks n b
  unfolding step
  int-else e p ks = rw (sym e)

  pub frac-else : false ≡ is_digit b → (p : ℕ) (ks : List Frame) → step most text (frac p) ks n b ≡ step most text (mant p) ks n b
  unfolding step
  frac-else e p ks = rw (sym e)

  pub exps-else : false ≡ is_digit b → (p : ℕ) (ks : List Frame) → step most text (exps p) ks n b ≡ step most text (got (numeral most text p n)) ks n b
  unfolding step
  exps-else e p ks = rw (sym e)

  pub neg-0 : b ≡ 48 → (p : ℕ) (ks : List Frame) → step most text (neg p) ks n b ≡ go (nought p) ks
  unfolding step
  neg-0 e p ks = rw e

  pub neg-digit : (b ≢ 48) → true ≡ is_digit b → (p : ℕ) (ks : List Frame) → step most text (neg p) ks n b ≡ go (int p) ks
  unfolding step
  neg-digit h e p ks = rw (ne_eqb b 48 h, sym e)

  pub neg-no : (b ≢ 48) → false ≡ is_digit b → (p : ℕ) (ks : List Frame) → step most text (neg p) ks n b ≡ dead
  unfolding step
  neg-no h e p ks = rw (ne_eqb b 48 h, sym e)

  -- strings
  pub hex-no : false ≡ is_hex b → (k : Role) (p j : ℕ) (ks : List Frame) → step most text (hex k p j) ks n b ≡ dead
  unfolding step
  hex-no e k p j ks = rw (sym e)

  pub hex-yes : true ≡ is_hex b → (k : Role) (p j : ℕ) (ks : List Frame) → step most text (hex k p j) ks n b ≡ go (hexed most text k p j) ks
  unfolding step
  hex-yes e k p j ks = rw (sym e)

  pub esc-u : b ≡ 117 → (k : Role) (p : ℕ) (ks : List Frame) → step most text (esc k p) ks n b ≡ go (hex k p 3) ks
  unfolding step is_escape
  esc-u e k p ks = rw e

  pub esc-yes : true ≡ is_escape b → (k : Role) (p : ℕ) (ks : List Frame) → step most text (esc k p) ks n b ≡ go (chars k p) ks
  unfolding step
  esc-yes e k p ks = rw (sym e)

  pub esc-no : (b ≢ 117) → false ≡ is_escape b → (k : Role) (p : ℕ) (ks : List Frame) → step most text (esc k p) ks n b ≡ dead
  unfolding step
  esc-no h e k p ks = rw (sym e, ne_eqb b 117 h)

  pub chars-quote : b ≡ 34 → (k : Role) (p : ℕ) (ks : List Frame) → step most text (chars k p) ks n b ≡ go (closed most text k p (n + 1)) ks
  unfolding step
  chars-quote e k p ks = rw e

  pub chars-esc : b ≡ 92 → (k : Role) (p : ℕ) (ks : List Frame) → step most text (chars k p) ks n b ≡ go (esc k p) ks
  unfolding step
  chars-esc e k p ks = rw e

  pub chars-no : (b ≢ 34) → (b ≢ 92) → b < 32 → (k : Role) (p : ℕ) (ks : List Frame) → step most text (chars k p) ks n b ≡ dead
  unfolding step
  chars-no h q l k p ks = rw (ne_eqb b 34 h, ne_eqb b 92 q, lt-ltb b 32 l)

  pub chars-more : (b ≢ 34) → (b ≢ 92) → 32 ≤ b → (k : Role) (p : ℕ) (ks : List Frame) → step most text (chars k p) ks n b ≡ go (chars k p) ks
  unfolding step
  chars-more h q l k p ks = rw (ne_eqb b 34 h, ne_eqb b 92 q, le-ltb b 32 l)

  -- words
  pub lit-last : (w : ℕ) → b ≡ w → (p : ℕ) (l : Option Bool) (ks : List Frame) → step most text (lit p l (w ∷ [])) ks n b ≡ go (got (literal l p (n + 1))) ks
  unfolding step
  lit-last w e p l ks = rw (eq-eqb b w e)

  pub lit-more : (w w' : ℕ) (ws : List ℕ) → b ≡ w → (p : ℕ) (l : Option Bool) (ks : List Frame)
      → step most text (lit p l (w ∷ w' ∷ ws)) ks n b ≡ go (lit p l (w' ∷ ws)) ks
  unfolding step
  lit-more w w' ws e p l ks = rw (eq-eqb b w e)

  pub lit-no : (w : ℕ) (ws : List ℕ) → (b ≢ w) → (p : ℕ) (l : Option Bool) (ks : List Frame) → step most text (lit p l (w ∷ ws)) ks n b ≡ dead
  unfolding step
  lit-no w [] h p l ks = rw (ne_eqb b w h)
  lit-no w (w' ∷ ws) h p l ks = rw (ne_eqb b w h)

  -- values
  pub want-quote : b ≡ 34 → (ks : List Frame) → step most text want ks n b ≡ go (chars value n) ks
  unfolding step want_step is_blank
  want-quote e ks = rw e

  pub want-minus : b ≡ 45 → (ks : List Frame) → step most text want ks n b ≡ go (neg n) ks
  unfolding step want_step is_blank
  want-minus e ks = rw e

  pub want-0 : b ≡ 48 → (ks : List Frame) → step most text want ks n b ≡ go (nought n) ks
  unfolding step want_step is_blank
  want-0 e ks = rw e

  pub want-t : b ≡ 116 → (ks : List Frame) → step most text want ks n b ≡ go (lit n (some true) (ascii "rue")) ks
  unfolding step want_step is_blank is_digit
  want-t e ks = rw e

  pub want-f : b ≡ 102 → (ks : List Frame) → step most text want ks n b ≡ go (lit n (some false) (ascii "alse")) ks
  unfolding step want_step is_blank is_digit
  want-f e ks = rw e

  pub want-n : b ≡ 110 → (ks : List Frame) → step most text want ks n b ≡ go (lit n option.none (ascii "ull")) ks
  unfolding step want_step is_blank is_digit
  want-n e ks = rw e

  pub want-digit : false ≡ is_blank b → (b ≢ 48) → true ≡ is_digit b → 48 ≤ b → b ≤ 57 → (ks : List Frame) → step most text want ks n b ≡ go (int n) ks
  unfolding step want_step
  want-digit w z d l h ks =
      rw (
        sym w,
        ne_eqb b 91 (λ e. omega arith),
        ne_eqb b 123 (λ e. omega arith),
        ne_eqb b 34 (λ e. omega arith),
        ne_eqb b 45 (λ e. omega arith),
        ne_eqb b 48 z,
        sym d,
      )

  pub want-no : false ≡ is_blank b → (b ≢ 91) → (b ≢ 123) → (b ≢ 34) → (b ≢ 45) → (b ≢ 48) → (b ≢ 116) → (b ≢ 102) → (b ≢ 110)
      → false ≡ is_digit b → (ks : List Frame) → step most text want ks n b ≡ dead
  unfolding step want_step
  want-no w h91 h123 h34 h45 h48 h116 h102 h110 d ks =
      rw (
        sym w,
        ne_eqb b 91 h91,
        ne_eqb b 123 h123,
        ne_eqb b 34 h34,
        ne_eqb b 45 h45,
        ne_eqb b 48 h48,
        sym d,
        ne_eqb b 116 h116,
        ne_eqb b 102 h102,
        ne_eqb b 110 h110,
      )

  -- containers
  pub open_array : b ≡ 91 → (ks : List Frame) → length ks < most → step most text want ks n b ≡ go (first n) ks
  unfolding step want_step is_blank
  open_array e ks h = rw (e, lt-ltb (length ks) most h)

  pub open-object : b ≡ 123 → (ks : List Frame) → length ks < most → step most text want ks n b ≡ go (name0 n) ks
  unfolding step want_step is_blank
  open-object e ks h = rw (e, lt-ltb (length ks) most h)

  pub deep-array : b ≡ 91 → (ks : List Frame) → most ≤ length ks → step most text want ks n b ≡ deep
  unfolding step want_step is_blank
  deep-array e ks h = rw (e, le-ltb (length ks) most h)

  pub deep-object : b ≡ 123 → (ks : List Frame) → most ≤ length ks → step most text want ks n b ≡ deep
  unfolding step want_step is_blank
  deep-object e ks h = rw (e, le-ltb (length ks) most h)

  pub first-close : b ≡ 93 → (p : ℕ) (ks : List Frame) → step most text (first p) ks n b ≡ go (got (arr p (n + 1) no_items)) ks
  unfolding step is_blank
  first-close e p ks = rw e

  pub first_else : false ≡ is_blank b → (b ≢ 93) → (p : ℕ) (ks : List Frame)
      → step most text (first p) ks n b ≡ step most text want (array p no_items ∷ ks) n b
  unfolding step
  first_else w h p ks = rw (sym w, ne_eqb b 93 h)

  pub name0-close : b ≡ 125 → (p : ℕ) (ks : List Frame) → step most text (name0 p) ks n b ≡ go (got (obj p (n + 1) empty)) ks
  unfolding step is_blank
  name0-close e p ks = rw e

  pub name0-else : false ≡ is_blank b → (b ≢ 125) → (p : ℕ) (ks : List Frame) → step most text (name0 p) ks n b ≡ step most text (name1 p empty) ks n b
  unfolding step
  name0-else w h p ks = rw (sym w, ne_eqb b 125 h)

  pub name-quote : b ≡ 34 → (p : ℕ) (ms : Members) (ks : List Frame) → step most text (name1 p ms) ks n b ≡ go (chars (name p ms) n) ks
  unfolding step is_blank name_step
  name-quote e p ms ks = rw e

  pub name-no : false ≡ is_blank b → (b ≢ 34) → (p : ℕ) (ms : Members) (ks : List Frame) → step most text (name1 p ms) ks n b ≡ dead
  unfolding step name_step
  name-no w h p ms ks = rw (sym w, ne_eqb b 34 h)

  pub colon-yes : b ≡ 58 → (p : ℕ) (ms : Members) (k : Name) (ks : List Frame) → step most text (colon p ms k) ks n b ≡ go want (object p ms k ∷ ks)
  unfolding step is_blank
  colon-yes e p ms k ks = rw e

  pub colon-no : false ≡ is_blank b → (b ≢ 58) → (p : ℕ) (ms : Members) (k : Name) (ks : List Frame) → step most text (colon p ms k) ks n b ≡ dead
  unfolding step
  colon-no w h p ms k ks = rw (sym w, ne_eqb b 58 h)

  pub got-end : false ≡ is_blank b → (v : Json) → step most text (got v) [] n b ≡ dead
  unfolding step got_step next_step
  got-end w v = rw (sym w)

  module _ (v : Json) (p : ℕ) (vs : Items) (ks : List Frame) where
    pub array-comma : b ≡ 44 → step most text (got v) (array p vs ∷ ks) n b ≡ go want (array p (vs ◂ v) ∷ ks)
    unfolding step got_step next_step is_blank
    array-comma e = rw e

    pub array-close : b ≡ 93 → step most text (got v) (array p vs ∷ ks) n b ≡ go (got (arr p (n + 1) (vs ◂ v))) ks
    unfolding step got_step next_step is_blank
    array-close e = rw e

    pub array-no : false ≡ is_blank b → (b ≢ 44) → (b ≢ 93) → step most text (got v) (array p vs ∷ ks) n b ≡ dead
    unfolding step got_step next_step
    array-no w h m = rw (sym w, ne_eqb b 44 h, ne_eqb b 93 m)

  module _ (v : Json) (p : ℕ) (ms : Members) (k : Name) (ks : List Frame) where
    pub object-comma : b ≡ 44 → step most text (got v) (object p ms k ∷ ks) n b ≡ go (name1 p (with ms k v)) ks
    unfolding step got_step next_step is_blank
    object-comma e = rw e

    pub object-close : b ≡ 125 → step most text (got v) (object p ms k ∷ ks) n b ≡ go (got (obj p (n + 1) (with ms k v))) ks
    unfolding step got_step next_step is_blank
    object-close e = rw e

    pub object-no : false ≡ is_blank b → (b ≢ 44) → (b ≢ 125) → step most text (got v) (object p ms k ∷ ks) n b ≡ dead
    unfolding step got_step next_step
    object-no w h m = rw (sym w, ne_eqb b 44 h, ne_eqb b 125 m)
