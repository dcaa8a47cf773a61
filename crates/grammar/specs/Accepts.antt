-- The places of a text from which the machine reads it to its end.
use Rattle.std.specs.Prelude.{ℕ, ◌+◌, ◌≤◌, ◌<◌, ◌≡◌, Bool, true, false, ◌⊎◌, drop, eqb}
use native.Mathlib.Omega.{arith}
use Rattle.std.proofs.Math.Numerals.{add-one}
use Rattle.std.proofs.Math.Path.{refl, ap}
use Rattle.std.proofs.Common.{sym, ◌∙◌, inl, inr, drop_of_length-le, drop-cons, eqb-true}
use mathlib.Core.List.{List, [], ◌∷◌}
use Rattle.std.proofs.Math.ListN.{length, length-drop}
use Rattle.std.proofs.lemmas.Bool.{eqb-false}
use Rattle.utf8.specs.Ascii.{is_digit}
use Rattle.utf8.specs.Laws.{clash}
use Rattle.json_text.specs.Tree.{Json, Members, Name}
use Rattle.json_text.specs.Grammar.{At}
use Rattle.json_text.specs.Machine.{Frame, Mode, Step, go, dead, deep, reads, bad, too_deep, step, run, ending, finish, got_step, is_blank}
use Rattle.json_text.specs.Machine.Mode.{want, first, name0, name1, colon, got, int, frac, exps}

-- in the mode m with the containers ks open at n, the machine reads the text x to its end, as the tree t
pub data Acc (most : ℕ) (x : List ℕ) (t : Json) : Mode → List Frame → ℕ → Type 0 where
  done : {m : Mode} {n : ℕ} → n ≡ length x → ending most x m n ≡ reads t → Acc most x t m [] n
  pass : {m m' : Mode} {ks ks' : List Frame} {n b : ℕ} → At x n b → step most x m ks n b ≡ go m' ks' → Acc most x t m' ks' (n + 1) → Acc most x t m ks n

-- a place has one byte
pub same_byte : {x : List ℕ} {n b c : ℕ} → At x n b → At x n c → b ≡ c
same_byte p q = sym p.byte ∙ q.byte

-- the byte at a place, by an equation
pub at : {x : List ℕ} {n b c : ℕ} → b ≡ c → At x n b → At x n c
at e p = rw e at p

-- the machine passes the byte b at n
pub record Passed (most : ℕ) (x : List ℕ) (t : Json) (m : Mode) (ks : List Frame) (n b : ℕ) : Type 0 where
  pub mode : Mode
  pub stack : List Frame
  pub goes : step most x m ks n b ≡ go mode stack
  pub acc : Acc most x t mode stack (n + 1)

-- the text ends at n, or has a byte more
pub data Next (most : ℕ) (x : List ℕ) (t : Json) (m : Mode) (ks : List Frame) (n : ℕ) : Type 0 where
  ends : ks ≡ [] → n ≡ length x → ending most x m n ≡ reads t → Next most x t m ks n
  more : {b : ℕ} → At x n b → Next most x t m ks n

module _ {most : ℕ} {x : List ℕ} {t : Json} where
  pub to-run : {m : Mode} {ks : List Frame} {n : ℕ} → Acc most x t m ks n → run most x m ks n (drop n x) ≡ reads t
  unfolding run
  to-run {n = n} (done e r) = let h : length x ≤ n = omega arith in rw (drop_of_length-le x h) r
  to-run {n = n} (pass p e a) = rw (drop-cons x n 0 p.inside, p.byte, e, add-one n) (rw (add-one n) at (to-run a))

  -- the bytes bs from n on
  pub from-run : (bs : List ℕ) (m : Mode) (ks : List Frame) (n : ℕ) → drop n x ≡ bs → n ≤ length x → run most x m ks n bs ≡ reads t → Acc most x t m ks n
  unfolding run
  from-run [] m ks n q l h = by ks h
    where
      by : (ks : List Frame) → finish most x m ks n ≡ reads t → Acc most x t m ks n
      by [] r = let e : n ≡ length x = omega (arith, length-drop n x, ap length q) in done e r
      by (k ∷ ks) r = clash cc
  from-run (b ∷ bs) m ks n q l h = by (step most x m ks n b) refl (λ m' ks'. from-run bs m' ks' (n + 1))
    where
      low : n < length x
      low = omega (arith, length-drop n x, ap length q)

      here : At x n b
      here = record { inside = low; byte = cc (drop-cons x n 0 low) }

      by : (y : Step) → step most x m ks n b ≡ y
          → ((m' : Mode) (ks' : List Frame) → drop (n + 1) x ≡ bs → n + 1 ≤ length x → run most x m' ks' (n + 1) bs ≡ reads t → Acc most x t m' ks' (n + 1))
          → Acc most x t m ks n
      by (go m' ks') e ih = pass here e (ih m' ks' (rw (add-one n) (cc (drop-cons x n 0 low))) (omega (arith, low)) (rw e at h))
      by dead e ih = let p : bad n ≡ reads t = rw e at h in clash cc
      by deep e ih = let p : too_deep n ≡ reads t = rw e at h in clash cc

  -- a place from which the text is read is its end or has a byte
  pub next : {m : Mode} {ks : List Frame} {n : ℕ} → Acc most x t m ks n → Next most x t m ks n
  next (done e r) = ends refl e r
  next (pass p e a) = more p

  -- a byte at such a place is passed
  pub passed : {m : Mode} {ks : List Frame} {n b : ℕ} → At x n b → Acc most x t m ks n → Passed most x t m ks n b
  passed p (done q r) = absurd (omega (arith, p.inside))
  passed {b = b} p (pass {m' = m'} {ks' = ks'} {b = c} p' e a) = let z : c ≡ b = same_byte p' p in record { mode = m'; stack = ks'; goes = rw z at e; acc = a }

  -- what the byte at a place does
  module _ {m : Mode} {ks : List Frame} {n b : ℕ} (p : At x n b) where
    pub acc-go : {m' : Mode} {ks' : List Frame} → step most x m ks n b ≡ go m' ks' → Acc most x t m ks n → Acc most x t m' ks' (n + 1)
    acc-go {m'} {ks'} e a =
        let h = passed p a in
        let q : go h.mode h.stack ≡ go m' ks' = sym h.goes ∙ e in
        let em : h.mode ≡ m' = cc in
        let es : h.stack ≡ ks' = cc in
        rw (em, es) at h.acc

    pub acc-dead : {A : Type 0} → step most x m ks n b ≡ dead → Acc most x t m ks n → A
    acc-dead e a = let h = passed p a in let q : go h.mode h.stack ≡ dead = sym h.goes ∙ e in clash cc

    pub acc-deep : {A : Type 0} → step most x m ks n b ≡ deep → Acc most x t m ks n → A
    acc-deep e a = let h = passed p a in let q : go h.mode h.stack ≡ deep = sym h.goes ∙ e in clash cc

    -- another mode that does alike
    pub acc-like : {m' : Mode} {ks' : List Frame} → step most x m ks n b ≡ step most x m' ks' n b → Acc most x t m ks n → Acc most x t m' ks' n
    acc-like e a = let h = passed p a in pass p (sym e ∙ h.goes) h.acc

-- the modes in which white space may stand
pub data Blanks : Mode → Type 0 where
  b-want : Blanks want
  b-first : {p : ℕ} → Blanks (first p)
  b-name0 : {p : ℕ} → Blanks (name0 p)
  b-name1 : {p : ℕ} {ms : Members} → Blanks (name1 p ms)
  b-colon : {p : ℕ} {ms : Members} {k : Name} → Blanks (colon p ms k)
  b-got : {v : Json} → Blanks (got v)

-- the modes in which more digits may stand
pub data Digital : Mode → Type 0 where
  d-int : {p : ℕ} → Digital (int p)
  d-frac : {p : ℕ} → Digital (frac p)
  d-exps : {p : ℕ} → Digital (exps p)

-- white space changes nothing in such a mode
pub blank-stays : {m : Mode} → Blanks m → (most : ℕ) (x : List ℕ) (ks : List Frame) (n b : ℕ) → true ≡ is_blank b → step most x m ks n b ≡ go m ks
unfolding step got_step
blank-stays b-want most x ks n b e = rw (sym e)
blank-stays b-first most x ks n b e = rw (sym e)
blank-stays b-name0 most x ks n b e = rw (sym e)
blank-stays b-name1 most x ks n b e = rw (sym e)
blank-stays b-colon most x ks n b e = rw (sym e)
blank-stays b-got most x ks n b e = rw (sym e)

-- and no digit in such a mode
pub digit-stays : {m : Mode} → Digital m → (most : ℕ) (x : List ℕ) (ks : List Frame) (n b : ℕ) → true ≡ is_digit b → step most x m ks n b ≡ go m ks
unfolding step
digit-stays d-int most x ks n b e = rw (sym e)
digit-stays d-frac most x ks n b e = rw (sym e)
digit-stays d-exps most x ks n b e = rw (sym e)

-- a test, either way
pub which : (t : Bool) → (true ≡ t) ⊎ (false ≡ t)
which true = inl refl
which false = inr refl

-- a byte is c or is not
pub is? : (b c : ℕ) → (b ≡ c) ⊎ (b ≡ c → ⊥)
is? b c = by (eqb b c) refl
  where
    by : (t : Bool) → eqb b c ≡ t → (b ≡ c) ⊎ (b ≡ c → ⊥)
    by true e = inl (eqb-true b c e)
    by false e = inr (eqb-false b c e)

-- a text does not end in such a mode, nor where a container is open
pub not-whole : {A : Type 0} {n : ℕ} {t : Json} → bad n ≡ reads t → A
not-whole e = clash cc

-- nor where a container is open
pub not-closed : {A : Type 0} {k : Frame} {ks : List Frame} → k ∷ ks ≡ [] → A
not-closed e = clash cc
