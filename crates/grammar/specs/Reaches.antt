-- The places of a text that the machine comes to, and where it stops.
use Rattle.std.specs.Prelude.{ℕ, ◌+◌, ◌≤◌, ◌<◌, ◌≡◌, refl, List, [], ◌∷◌, ◌++◌, length, take, drop}
use Rattle.std.proofs.Common.{arith, add-one, sym, ◌∙◌, ap, append_assoc, append-nil, length-append, length-drop, take-append-drop, drop-cons, drop_at, length-take-le, take-take, get_or-take}
use Rattle.std.proofs.Math.Decide.{dec_lt}
use Rattle.std.proofs.Math.ListN.{get_or-append}
use Rattle.std.proofs.Math.Seq.{take-length}
use Rattle.std.proofs.lemmas.List.{take-append-le}
use Rattle.utf8.specs.Laws.{clash}
use Rattle.json_text.specs.Tree.{Json}
use Rattle.json_text.specs.Grammar.{At, Text, Begins}
use Rattle.json_text.specs.Machine.{Frame, Mode, Step, go, dead, deep, Outcome, bad, too_deep, step, run, ending, finish}
use Rattle.json_text.specs.Machine.Outcome.{reads}
use Rattle.json_text.specs.Machine.Mode.{want, first, name0, name1, colon, got, chars, esc, hex, neg, nought, int, dot, frac, mant, exp, sign, exps, lit}
use Rattle.grammar.specs.Accepts.{Acc, pass, from-run, acc-go, acc-deep, passed}
use Rattle.grammar.specs.Derived.{derived}
use Rattle.grammar.specs.Parsed.{parsed}
use Rattle.grammar.specs.Endings.{rest, endable}
use Rattle.grammar.specs.Alike.{Like, same, left, right, alike, Allowed, Fits, on_go, on-deep, fits}

-- the machine comes to the place n of the text x in the mode m with ks open
pub data Reach (l : ℕ) (x : List ℕ) : Mode → List Frame → ℕ → Type 0 where
  start : Reach l x want [] 0
  byte : {m m' : Mode} {ks ks' : List Frame} {n b : ℕ} → Reach l x m ks n → At x n b → step l x m ks n b ≡ go m' ks' → Reach l x m' ks' (n + 1)

-- the texts x and y agree in their first n bytes
pub record SameTo (x y : List ℕ) (n : ℕ) : Type 0 where
  pub bytes : (i b : ℕ) → i < n → At x i b → At y i b
  pub cut : (i : ℕ) → i ≤ n → take i x ≡ take i y

-- they agree in fewer
less : {x y : List ℕ} {n : ℕ} → SameTo x y (n + 1) → SameTo x y n
less h = record { bytes = λ i b l. h.bytes i b (omega arith); cut = λ i l. h.cut i (omega arith) }

-- a text and what begins with its first n bytes
same-to : (x u : List ℕ) (n : ℕ) → n ≤ length x → SameTo x (take n x ++ u) n
same-to x u n h =
    let t = length-take-le n x h in
    record {
      bytes =
          λ i b l p.
          record {
            inside = omega (arith, length-append (take n x) u, t);
            byte = get_or-append (take n x) u 0 i (omega (arith, t)) ∙ get_or-take n x i 0 l ∙ p.byte;
          };
      cut = λ i l. sym (take-append-le i (take n x) u (omega (arith, t)) ∙ take-take i n x l);
    }

-- a text and itself
same-to-self : (x : List ℕ) (n : ℕ) → SameTo x x n
same-to-self x n = record { bytes = λ i b l p. p; cut = λ i l. refl }

-- a text that is read goes the same way
along : {l l' : ℕ} {x y : List ℕ} {t : Json} {m : Mode} {ks : List Frame} {n : ℕ} → Reach l x m ks n → SameTo x y n → Acc l' y t want [] 0 → Acc l' y t m ks n
along start h a = a
along {l} {l'} {x} {y} {t} (byte {m = m} {m' = m'} {ks = ks} {ks' = ks'} {n = n} {b = b} r p e) h a =
    by refl (rw e at (alike l l' x y n b (h.cut n (omega arith)) m ks)) (along r (less h) a)
  where
    q : At y n b
    q = h.bytes n b (omega arith) p

    by : {s : Step} → step l' y m ks n b ≡ s → Like l l' (go m' ks') s → Acc l' y t m ks n → Acc l' y t m' ks' (n + 1)
    by z same a' = acc-go q z a'
    by z (right _) a' = acc-deep q z a'

-- and so does any text that agrees so far, with no fewer levels
moved : {l l' : ℕ} {x y : List ℕ} {m : Mode} {ks : List Frame} {n : ℕ} → Reach l x m ks n → l ≤ l' → SameTo x y n → Reach l' y m ks n
moved start u h = start
moved {l} {l'} {x} {y} (byte {m = m} {m' = m'} {ks = ks} {ks' = ks'} {n = n} {b = b} r p e) u h =
    by refl (rw e at (alike l l' x y n b (h.cut n (omega arith)) m ks)) (moved r u (less h))
  where
    by : {s : Step} → step l' y m ks n b ≡ s → Like l l' (go m' ks') s → Reach l' y m ks n → Reach l' y m' ks' (n + 1)
    by z same r' = byte r' (h.bytes n b (omega arith) p) z
    by z (right v) r' = absurd (omega arith)

-- from a place that the machine comes to, back to the start
back : {l : ℕ} {x : List ℕ} {t : Json} {m : Mode} {ks : List Frame} {n : ℕ} → Reach l x m ks n → Acc l x t m ks n → Acc l x t want [] 0
back start a = a
back (byte r p e) a = back r (pass p e a)

-- such a place is within the text
inside : {l : ℕ} {x : List ℕ} {m : Mode} {ks : List Frame} {n : ℕ} → Reach l x m ks n → n ≤ length x
inside start = omega arith
inside (byte r p e) = omega (arith, p.inside)

-- what the machine has read begins a text
begins : {l l' : ℕ} {x : List ℕ} {m : Mode} {ks : List Frame} {n : ℕ} → Reach l x m ks n → Allowed l m ks → l ≤ l' → Begins l' (take n x)
begins {l} {l'} {x} {m} {ks} {n} r f u =
    let h = inside r in
    let t = length-take-le n x h in
    let y = take n x ++ rest m ks in
    let e = endable l' y m ks n f.spelt in (
      rest m ks,
      e.tree,
      parsed
          (back (moved r u (same-to x (rest m ks) n h))
          (from-run (rest m ks) m ks n (drop_at (take n x) (rest m ks) n t) (omega (arith, length-append (take n x) (rest m ks), t)) e.runs)),
    )

-- a step that is alike to one that goes on
goes_on : {l l' : ℕ} {s : Step} {m : Mode} {ks : List Frame} → Like l l' s (go m ks) → (s ≡ dead → ⊥) × (s ≡ deep → l < l')
goes_on same = ((λ e. clash cc), (λ e. clash cc))
goes_on (left o) = ((λ e. clash cc), (λ e. o))

-- if one byte more begins a text with at most l' levels, it is not dead, and opens a level too many only where l is less
onward : {l l' : ℕ} {x : List ℕ} {m : Mode} {ks : List Frame} {n b : ℕ} → Reach l x m ks n → At x n b → Begins l' (take (n + 1) x)
    → (step l x m ks n b ≡ dead → ⊥) × (step l x m ks n b ≡ deep → l < l')
onward {l} {l'} {x} {m} {ks} {n} {b} r p (u, v, i) =
    let h = same-to x u (n + 1) (omega (arith, p.inside)) in
    let a = passed (h.bytes n b (omega arith) p) (along r (less h) (derived i)) in
    goes_on (rw a.goes at (alike l l' x (take (n + 1) x ++ u) n b (h.cut n (omega arith)) m ks))

-- where a byte opens a level too many, it begins a text with one level more
deeper-begins : {l : ℕ} {x : List ℕ} {m : Mode} {ks : List Frame} {n b : ℕ} → Reach l x m ks n → Allowed l m ks → At x n b → step l x m ks n b ≡ deep
    → Begins (l + 1) (take (n + 1) x)
deeper-begins {l} {x} {m} {ks} {n} {b} r f p e = by refl (rw e at (alike l (l + 1) x x n b refl m ks)) (fits l (l + 1) (omega arith) x m ks n b f.levels)
  where
    on : {m' : Mode} {ks' : List Frame} → step (l + 1) x m ks n b ≡ go m' ks' → Fits l (l + 1) (go m' ks') → Begins (l + 1) (take (n + 1) x)
    on z (on_go f') = begins (byte (moved r (omega arith) (same-to-self x n)) p z) f' (omega arith)

    by : {s : Step} → step (l + 1) x m ks n b ≡ s → Like l (l + 1) deep s → Fits l (l + 1) (step (l + 1) x m ks n b) → Begins (l + 1) (take (n + 1) x)
    by z same d = no (rw z at d)
      where
        no : Fits l (l + 1) deep → Begins (l + 1) (take (n + 1) x)
        no (on-deep o) = absurd (omega arith)
    by z (left o) d = on z (rw z at d)

-- where the machine stops, and why
pub data Halted (l : ℕ) (x : List ℕ) : Outcome → Type 0 where
  whole : {t : Json} → Halted l x (reads t)
  ended : {m : Mode} {ks : List Frame} {n : ℕ} → Reach l x m ks n → Allowed l m ks → n ≡ length x → Halted l x (bad n)
  dead-byte : {m : Mode} {ks : List Frame} {n b : ℕ} → Reach l x m ks n → Allowed l m ks → At x n b → step l x m ks n b ≡ dead → Halted l x (bad n)
  deep-byte : {m : Mode} {ks : List Frame} {n b : ℕ} → Reach l x m ks n → Allowed l m ks → At x n b → step l x m ks n b ≡ deep → Halted l x (too_deep n)

-- where the text ends, it is read or is bad there
at-end : {l : ℕ} {x : List ℕ} (m : Mode) {n : ℕ} → Halted l x (bad n) → Halted l x (ending l x m n)
at-end want h = h
at-end (first p) h = h
at-end (name0 p) h = h
at-end (name1 p ms) h = h
at-end (colon p ms k) h = h
at-end (got v) h = whole
at-end (chars k p) h = h
at-end (esc k p) h = h
at-end (hex k p j) h = h
at-end (neg p) h = h
at-end (nought p) h = whole
at-end (int p) h = whole
at-end (dot p) h = h
at-end (frac p) h = whole
at-end (mant p) h = whole
at-end (exp p) h = h
at-end (sign p) h = h
at-end (exps p) h = whole
at-end (lit p o ws) h = h

-- the bytes bs from n on
halted-from : {l : ℕ} {x : List ℕ} (bs : List ℕ) (m : Mode) (ks : List Frame) (n : ℕ) → drop n x ≡ bs → Reach l x m ks n → Allowed l m ks
    → Halted l x (run l x m ks n bs)
unfolding run
halted-from {l} {x} [] m ks n q r f = by ks (ended r f (omega (arith, length-drop n x, ap length q, inside r)))
  where
    by : (ks : List Frame) → Halted l x (bad n) → Halted l x (finish l x m ks n)
    by [] h = at-end m h
    by (k ∷ ks) h = h
halted-from {l} {x} (b ∷ bs) m ks n q r f =
    by (step l x m ks n b) refl (fits l l (omega arith) x m ks n b f.levels) (λ m' ks'. halted-from bs m' ks' (n + 1))
  where
    low : n < length x
    low = omega (arith, length-drop n x, ap length q)

    here : At x n b
    here = record { inside = low; byte = cc (drop-cons x n 0 low) }

    by : (s : Step) → step l x m ks n b ≡ s → Fits l l (step l x m ks n b)
        → ((m' : Mode) (ks' : List Frame) → drop (n + 1) x ≡ bs → Reach l x m' ks' (n + 1) → Allowed l m' ks' → Halted l x (run l x m' ks' (n + 1) bs))
        → Halted l x (run l x m ks n (b ∷ bs))
    by (go m' ks') e d ih = rw e (ih m' ks' (rw (add-one n) (cc (drop-cons x n 0 low))) (byte r here e) (allowed (rw e at d)))
      where
        allowed : Fits l l (go m' ks') → Allowed l m' ks'
        allowed (on_go g) = g
    by dead e d ih = rw e (dead-byte r f here e)
    by deep e d ih = rw e (deep-byte r f here e)

-- each text is read, or the machine stops in it
pub halted : (l : ℕ) (x : List ℕ) → Halted l x (run l x want [] 0 x)
halted l x = halted-from x want [] 0 refl start (record { levels = omega arith; spelt = tt })

-- the first n bytes begin a text of at most l levels, and one byte more begins none
abbrev pub Stops : (l : ℕ) (x : List ℕ) (n : ℕ) → Type 0
Stops l x n = (n ≤ length x) × Begins l (take n x) × (n < length x → Begins l (take (n + 1) x) → ⊥)

-- all bytes of a text begin one
pub begun : {l : ℕ} {x : List ℕ} {v : Json} → Text l x v → Begins l (take (length x) x)
begun {l} {x} {v} d = ([], v, rw (take-length, append-nil) d)

-- fewer bytes begin a text too, so that there is one such place
pub shorter : {l : ℕ} (x : List ℕ) (j k : ℕ) → j ≤ k → Begins l (take k x) → Begins l (take j x)
shorter x j k h (u, v, d) =
    let e : take j x ++ (drop j (take k x) ++ u) ≡ take k x ++ u =
    sym (append_assoc (take j x) (drop j (take k x)) u) ∙ rw (sym (take-take j k x h), take-append-drop j (take k x)) in
    (drop j (take k x) ++ u, v, rw e d)

-- and the longest beginning is one
pub one_place : (l : ℕ) (x : List ℕ) (n k : ℕ) → Stops l x n → Stops l x k → n ≡ k
one_place l x n k (h, i, f) (h', i', f') = by (dec_lt n k) (dec_lt k n)
  where
    by : Dec (n < k) → Dec (k < n) → n ≡ k
    by (yes d) _ = absurd (f (omega arith) (shorter x (n + 1) k (omega arith) i'))
    by (no d) (yes e) = absurd (f' (omega arith) (shorter x (k + 1) n (omega arith) i))
    by (no d) (no e) = omega arith

-- what the answer bad says
pub bad-stops : (l : ℕ) (x : List ℕ) (n : ℕ) → Halted l x (bad n) → Stops l x n
bad-stops l x n (ended r f e) = (inside r, begins r f (omega arith), (λ u i. omega arith))
bad-stops l x n (dead-byte r f p e) = (inside r, begins r f (omega arith), (λ u i. (onward r p i).0 e))

-- what the answer too_deep says
pub deep-stops : (l : ℕ) (x : List ℕ) (n : ℕ) → Halted l x (too_deep n) → Stops l x n
deep-stops l x n (deep-byte r f p e) = (inside r, begins r f (omega arith), (λ u i. let o = (onward r p i).1 e in omega arith))

-- and that one level more would do
pub deep-deeper : (l : ℕ) (x : List ℕ) (n : ℕ) → Halted l x (too_deep n) → (n < length x) × Begins (l + 1) (take (n + 1) x)
deep-deeper l x n (deep-byte r f p e) = (p.inside, deeper-begins r f p e)

-- and that no number of levels would do
pub bad-never : (l : ℕ) (x : List ℕ) (n : ℕ) → Halted l x (bad n) → n < length x → (l' : ℕ) → Begins l' (take (n + 1) x) → ⊥
bad-never l x n (ended r f e) u l' i = omega arith
bad-never l x n (dead-byte r f p e) u l' i = (onward r p i).0 e
