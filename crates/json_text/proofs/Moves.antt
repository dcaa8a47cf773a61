-- The machine's moves on a text at an offset.
use Rattle.std.proofs.Common.{◌≡◌, ℕ, ◌+◌, ◌<◌, ◌≤◌, Bool, true, false, T, List, [], ◌∷◌, length, get_or, sym, refl, ◌∙◌, add-one, arith, drop_of_length-le, drop-cons}
use native.Mathlib.Decide.{dec_lt}
use Rattle.utf8.specs.Ascii.{is_digit}
use Rattle.json_text.specs.Machine.{Frame, Mode, go, dead, deep, bad, too_deep, run, step, finish, ending, is_blank, got_step}
use Rattle.json_text.specs.Machine.Mode.{want, first, name0, name1, colon, got, chars, esc, hex, neg, nought, int, dot, frac, mant, exp, sign, exps, lit}
use Rattle.json_text.specs.Says.{from, blanks, digital, Stays, Skips}

module _ (text : List ℕ) (m : Mode) (ks : List Frame) (at : ℕ) where
  -- the end of the text
  pub at-end : length text ≤ at → from text m ks at ≡ finish 32 text m ks at
  unfolding from run
  at-end h = rw (drop_of_length-le text h)

  -- what the byte does
  pub moves : (m' : Mode) (ks' : List Frame) → at < length text → step 32 text m ks at (get_or text at 0) ≡ go m' ks' → from text m ks at ≡ from text m' ks' (at + 1)
  unfolding from run
  moves m' ks' h e = rw (drop-cons text at 0 h, add-one at, e)

  pub dies : at < length text → step 32 text m ks at (get_or text at 0) ≡ dead → from text m ks at ≡ bad at
  unfolding from run
  dies h e = rw (drop-cons text at 0 h, e)

  pub deepens : at < length text → step 32 text m ks at (get_or text at 0) ≡ deep → from text m ks at ≡ too_deep at
  unfolding from run
  deepens h e = rw (drop-cons text at 0 h, e)

  -- two states that do alike at the byte go on alike
  pub alike : (m' : Mode) (ks' : List Frame) → at < length text → step 32 text m ks at (get_or text at 0) ≡ step 32 text m' ks' at (get_or text at 0) → from text m ks at ≡ from text m' ks' at
  unfolding from run
  alike m' ks' h e = rw (drop-cons text at 0 h, e)

  -- the text ends where it may not
  pub short : ending 32 text m at ≡ bad at → length text ≤ at → from text m ks at ≡ bad at
  short w h = at-end h ∙ bads ks
    where
      bads : (ks' : List Frame) → finish 32 text m ks' at ≡ bad at
      bads [] = w
      bads (k ∷ ks') = refl

-- two modes that do alike at the byte, if there is one, and at the text's end
pub settles : (text : List ℕ) (e : ℕ) (m m' : Mode) (ks : List Frame) → ending 32 text m e ≡ ending 32 text m' e
    → (e < length text → step 32 text m ks e (get_or text e 0) ≡ step 32 text m' ks e (get_or text e 0)) → from text m ks e ≡ from text m' ks e
settles text e m m' ks w h = by (dec_lt e (length text))
  where
    ended : (ks' : List Frame) → finish 32 text m ks' e ≡ finish 32 text m' ks' e
    ended [] = w
    ended (k ∷ ks') = refl

    by : Dec (e < length text) → from text m ks e ≡ from text m' ks e
    by (yes l) = alike text m ks e m' ks l (h l)
    by (no n) = at-end text m ks e (omega arith) ∙ ended ks ∙ sym (at-end text m' ks e (omega arith))

-- blanks change nothing where they may stand
pub blank-stays : (text : List ℕ) (n : ℕ) (m : Mode) → T (blanks m) → (ks : List Frame) (b : ℕ) → true ≡ is_blank b → step 32 text m ks n b ≡ go m ks
unfolding step got_step
blank-stays text n want h ks b e = rw (sym e)
blank-stays text n (first p) h ks b e = rw (sym e)
blank-stays text n (name0 p) h ks b e = rw (sym e)
blank-stays text n (name1 p ms) h ks b e = rw (sym e)
blank-stays text n (colon p ms k) h ks b e = rw (sym e)
blank-stays text n (got v) h ks b e = rw (sym e)
blank-stays text n (chars k p) h ks b e = absurd h
blank-stays text n (esc k p) h ks b e = absurd h
blank-stays text n (hex k p j) h ks b e = absurd h
blank-stays text n (neg p) h ks b e = absurd h
blank-stays text n (nought p) h ks b e = absurd h
blank-stays text n (int p) h ks b e = absurd h
blank-stays text n (dot p) h ks b e = absurd h
blank-stays text n (frac p) h ks b e = absurd h
blank-stays text n (mant p) h ks b e = absurd h
blank-stays text n (exp p) h ks b e = absurd h
blank-stays text n (sign p) h ks b e = absurd h
blank-stays text n (exps p) h ks b e = absurd h
blank-stays text n (lit p l ws) h ks b e = absurd h

-- digits change nothing where any number of them may stand
pub digit-stays : (text : List ℕ) (n : ℕ) (m : Mode) → T (digital m) → (ks : List Frame) (b : ℕ) → true ≡ is_digit b → step 32 text m ks n b ≡ go m ks
unfolding step
digit-stays text n want h ks b e = absurd h
digit-stays text n (first p) h ks b e = absurd h
digit-stays text n (name0 p) h ks b e = absurd h
digit-stays text n (name1 p ms) h ks b e = absurd h
digit-stays text n (colon p ms k) h ks b e = absurd h
digit-stays text n (got v) h ks b e = absurd h
digit-stays text n (chars k p) h ks b e = absurd h
digit-stays text n (esc k p) h ks b e = absurd h
digit-stays text n (hex k p j) h ks b e = absurd h
digit-stays text n (neg p) h ks b e = absurd h
digit-stays text n (nought p) h ks b e = absurd h
digit-stays text n (int p) h ks b e = rw (sym e)
digit-stays text n (dot p) h ks b e = absurd h
digit-stays text n (frac p) h ks b e = rw (sym e)
digit-stays text n (mant p) h ks b e = absurd h
digit-stays text n (exp p) h ks b e = absurd h
digit-stays text n (sign p) h ks b e = absurd h
digit-stays text n (exps p) h ks b e = rw (sym e)
digit-stays text n (lit p l ws) h ks b e = absurd h

pub stays-none : (ok : Mode → Bool) (text : List ℕ) (at : ℕ) → at ≤ length text → Stays ok text at at
stays-none ok text at h = record { low = omega arith; high = h; same = λ m o ks. refl }

pub stays-more : (ok : Mode → Bool) (test : ℕ → Bool) → ((text : List ℕ) (n : ℕ) (m : Mode) → T (ok m) → (ks : List Frame) (b : ℕ) → true ≡ test b → step 32 text m ks n b ≡ go m ks)
    → (text : List ℕ) (at i : ℕ) → Stays ok text at i → i < length text → true ≡ test (get_or text i 0) → Stays ok text at (i + 1)
stays-more ok test law text at i h l e = record { low = omega arith; high = omega arith; same = λ m o ks. h.same m o ks ∙ moves text m ks i m ks l (law text i m o ks (get_or text i 0) e) }

-- and the byte that ends them, or the text's end
pub stops-at : (ok : Mode → Bool) (test : ℕ → Bool) (text : List ℕ) (at r : ℕ) → Stays ok text at r → false ≡ test (get_or text r 0) → Skips ok test text at r
stops-at ok test text at r h e = record { stays = h; stop = λ l. e }

pub stops-out : (ok : Mode → Bool) (test : ℕ → Bool) (text : List ℕ) (at r : ℕ) → Stays ok text at r → length text ≤ r → Skips ok test text at r
stops-out ok test text at r h e = record { stays = h; stop = λ l. absurd (omega arith) }
