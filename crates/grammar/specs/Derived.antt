-- Whatever RFC 8259's grammar derives the machine reads, as the same tree.
use Rattle.std.specs.Prelude.{ℕ, suc, ◌+◌, ◌≤◌, ◌<◌, ◌≡◌, Bool, true, false, ◌&&◌, List, [], ◌∷◌, ◌⊎◌, length, leb}
use Rattle.std.proofs.Common.{arith, add_assoc, sym, ◌∙◌, inl, inr, leb-true}
use Rattle.std.proofs.Math.Path.{refl}
use Rattle.std.proofs.Math.Option.{Option, some}
use Rattle.std.proofs.Math.Option as option
use Rattle.utf8.specs.Ascii.{ascii, is_digit}
use Rattle.utf8.specs.Laws.{clash}
use Rattle.json_text.specs.Tree.{Json, Items, ◌◂◌, Members}
use Rattle.json_text.specs.Tree as tree
use Rattle.json_text.specs.Machine.{Frame, array, object, Role, value, Mode, go, dead, reads, bad, step, ending, is_blank, closed, numeral, literal}
use Rattle.json_text.specs.Machine.Role.{name}
use Rattle.json_text.specs.Machine.Mode.{want, first, name0, name1, got, chars, neg, nought, int, frac, mant, exp, exps, lit}
use Rattle.json_text.specs.Grammar.{At, Text, name_at}
use Rattle.json_text.specs.Grammar as g
use Rattle.json_text.specs.Laws.{over-blank, over-digit}
use Rattle.json_text.specs.Steps as st
use Rattle.grammar.specs.Induction.{Below, by-levels}
use Rattle.grammar.specs.Joins.{◌⊕◌, items-none, ◌⊞◌, members-empty}
use Rattle.grammar.specs.Accepts.{Acc, done, pass, Blanks, b-want, b-first, b-name0, b-name1, b-colon, b-got, Digital, d-int, d-frac, d-exps, blank-stays, digit-stays, which, is?}

-- kinds of byte
both : (p q : Bool) → true ≡ (p && q) → (p ≡ true) × (q ≡ true)
both true q e = (refl, sym e)
both false q e = let z : ◌≡◌ {A = Bool} true false = e in (sym z, cc)

-- a digit is one of 48 to 57
pub digit-range : (b : ℕ) → true ≡ is_digit b → (48 ≤ b) × (b ≤ 57)
unfolding is_digit
digit-range b e = let h = both (leb 48 b) (leb b 57) e in (leb-true 48 b h.0, leb-true b 57 h.1)

-- the rest of a word, or what follows it
abbrev pub spelled : ℕ → Option Bool → List ℕ → ℕ → Mode
spelled p l [] n = got (literal l p n)
spelled p l (w ∷ ws) n = lit p l (w ∷ ws)

module _ (most : ℕ) (x : List ℕ) where
  -- a letter of a word
  pub lit-yes : (w : ℕ) (ws : List ℕ) (p : ℕ) (l : Option Bool) (ks : List Frame) (n : ℕ)
      → step most x (lit p l (w ∷ ws)) ks n w ≡ go (spelled p l ws (n + 1)) ks
  lit-yes w [] p l ks n = st.lit-last most x n w w refl p l ks
  lit-yes w (w' ∷ ws) p l ks n = st.lit-more most x n w w w' ws refl p l ks

  -- bytes that follow no value
  got-no : (v : Json) (ks : List Frame) (n b : ℕ) → 32 < b → (b ≡ 44 → ⊥) → (b ≡ 93 → ⊥) → (b ≡ 125 → ⊥) → step most x (got v) ks n b ≡ dead
  got-no v [] n b h h44 h93 h125 = st.got-end most x n b (over-blank b h) v
  got-no v (array p vs ∷ ks) n b h h44 h93 h125 = st.array-no most x n b v p vs ks (over-blank b h) h44 h93
  got-no v (object p ms k ∷ ks) n b h h44 h93 h125 = st.object-no most x n b v p ms k ks (over-blank b h) h44 h125

  module _ (ks : List Frame) (p n b : ℕ) where
    got-digit : true ≡ is_digit b → step most x (got (numeral most x p n)) ks n b ≡ dead
    got-digit e = let h = digit-range b e in got-no (numeral most x p n) ks n b (omega arith) (λ q. omega arith) (λ q. omega arith) (λ q. omega arith)

    mant-digit : true ≡ is_digit b → step most x (mant p) ks n b ≡ dead
    mant-digit e = let h = digit-range b e in st.mant-else most x n b (λ q. omega arith) (λ q. omega arith) p ks ∙ got-digit e

    nought-digit : true ≡ is_digit b → step most x (nought p) ks n b ≡ dead
    nought-digit e = let h = digit-range b e in st.nought-else most x n b (λ q. omega arith) p ks ∙ mant-digit e

    exp-digit : true ≡ is_digit b → step most x (exp p) ks n b ≡ go (exps p) ks
    exp-digit e = let h = digit-range b e in st.exp-else most x n b (λ q. omega arith) (λ q. omega arith) p ks ∙ st.sign-yes most x n b e p ks

-- values of at most l levels are read
abbrev Values : (most : ℕ) (x : List ℕ) (t : Json) (l : ℕ) → Type 0
Values most x t l = (p e : ℕ) (v : Json) → g.Value x l p e v → (ks : List Frame) → length ks + l ≡ most → Acc most x t (got v) ks e → Acc most x t want ks p

module _ {most : ℕ} {x : List ℕ} {t : Json} where
  -- white space may come before
  pub ws⁺ : {m : Mode} {ks : List Frame} {n e : ℕ} → g.Ws x n e → Blanks m → Acc most x t m ks e → Acc most x t m ks n
  ws⁺ g.Ws.end o a = a
  ws⁺ {ks = ks} {n = n} (g.Ws.more {b = b} p q w) o a = pass p (blank-stays o most x ks n b q) (ws⁺ w o a)

  -- digits may come before
  digits⁺ : {m : Mode} {ks : List Frame} {n e : ℕ} → g.Digits x n e → Digital m → Acc most x t m ks e → Acc most x t m ks n
  digits⁺ g.Digits.end o a = a
  digits⁺ {ks = ks} {n = n} (g.Digits.more {b = b} p q w) o a = pass p (digit-stays o most x ks n b q) (digits⁺ w o a)

  -- a mode that does alike wherever the other one goes on
  relax : {m m' : Mode} {ks : List Frame} {n : ℕ} → ending most x m n ≡ ending most x m' n
      → ((b : ℕ) → (step most x m ks n b ≡ dead) ⊎ (step most x m' ks n b ≡ step most x m ks n b)) → Acc most x t m ks n → Acc most x t m' ks n
  relax w h (done q r) = done q (sym w ∙ r)
  relax {m} {m'} {ks} {n} w h (pass {m' = m₁} {ks' = ks₁} {b = b} p e a) = by (h b)
    where
      by : (step most x m ks n b ≡ dead) ⊎ (step most x m' ks n b ≡ step most x m ks n b) → Acc most x t m' ks n
      by (inl d) = clash cc
      by (inr q) = pass p (q ∙ e) a

  -- a mode that besides takes digits, where the other one takes none
  relax-digits : {m m' : Mode} {ks : List Frame} {n : ℕ} → ending most x m n ≡ ending most x m' n → ((b : ℕ) → true ≡ is_digit b → step most x m ks n b ≡ dead)
      → ((b : ℕ) → false ≡ is_digit b → step most x m' ks n b ≡ step most x m ks n b) → Acc most x t m ks n → Acc most x t m' ks n
  relax-digits {m} {m'} {ks} {n} w d h = relax w (λ b. by b (which (is_digit b)))
    where
      by : (b : ℕ) → (true ≡ is_digit b) ⊎ (false ≡ is_digit b) → (step most x m ks n b ≡ dead) ⊎ (step most x m' ks n b ≡ step most x m ks n b)
      by b (inl e) = inl (d b e)
      by b (inr e) = inr (h b e)

  module _ {p : ℕ} {ks : List Frame} {n : ℕ} where
    to-exps : Acc most x t (got (numeral most x p n)) ks n → Acc most x t (exps p) ks n
    to-exps = relax-digits refl (λ b e. got-digit most x ks p n b e) (λ b e. st.exps-else most x n b e p ks)

    to-frac : Acc most x t (mant p) ks n → Acc most x t (frac p) ks n
    to-frac = relax-digits refl (λ b e. mant-digit most x ks p n b e) (λ b e. st.frac-else most x n b e p ks)

    to-int : Acc most x t (nought p) ks n → Acc most x t (int p) ks n
    to-int = relax-digits refl (λ b e. nought-digit most x ks p n b e) (λ b e. st.int-else most x n b e p ks)

    to-mant : Acc most x t (got (numeral most x p n)) ks n → Acc most x t (mant p) ks n
    to-mant = relax refl (λ b. by b (is? b 101) (is? b 69))
      where
        by : (b : ℕ) → (b ≡ 101) ⊎ (b ≡ 101 → ⊥) → (b ≡ 69) ⊎ (b ≡ 69 → ⊥)
            → (step most x (got (numeral most x p n)) ks n b ≡ dead) ⊎ (step most x (mant p) ks n b ≡ step most x (got (numeral most x p n)) ks n b)
        by b (inl e) i = inl (got-no most x _ ks n b (omega arith) (λ q. omega arith) (λ q. omega arith) (λ q. omega arith))
        by b (inr h) (inl e) = inl (got-no most x _ ks n b (omega arith) (λ q. omega arith) (λ q. omega arith) (λ q. omega arith))
        by b (inr h) (inr h') = inr (st.mant-else most x n b h h' p ks)

    to-nought : Acc most x t (mant p) ks n → Acc most x t (nought p) ks n
    to-nought = relax refl (λ b. by b (is? b 46))
      where
        by : (b : ℕ) → (b ≡ 46) ⊎ (b ≡ 46 → ⊥) → (step most x (mant p) ks n b ≡ dead) ⊎ (step most x (nought p) ks n b ≡ step most x (mant p) ks n b)
        by b (inl e) =
            inl
            (st.mant-else most x n b (λ q. omega arith) (λ q. omega arith) p ks
            ∙ got-no most x _ ks n b (omega arith) (λ q. omega arith) (λ q. omega arith) (λ q. omega arith))
        by b (inr h) = inr (st.nought-else most x n b h p ks)

  -- numerals that began at p
  module _ (p : ℕ) (ks : List Frame) where
    power⁺ : {n k e : ℕ} → g.Sign x n k → g.Some x k e → Acc most x t (got (numeral most x p e)) ks e → Acc most x t (exp p) ks n
    power⁺ {n} g.Sign.absent (g.Some.some {b = b} q d w) a = pass q (exp-digit most x ks p n b d) (digits⁺ w d-exps (to-exps a))
    power⁺ {n} (g.Sign.plus s) (g.Some.some {b = b} q d w) a =
        pass s (st.exp-plus most x n 43 refl p ks) (pass q (st.sign-yes most x (n + 1) b d p ks) (digits⁺ w d-exps (to-exps a)))
    power⁺ {n} (g.Sign.minus s) (g.Some.some {b = b} q d w) a =
        pass s (st.exp-minus most x n 45 refl p ks) (pass q (st.sign-yes most x (n + 1) b d p ks) (digits⁺ w d-exps (to-exps a)))

    exponent⁺ : {n e : ℕ} → g.Exp x n e → Acc most x t (got (numeral most x p e)) ks e → Acc most x t (mant p) ks n
    exponent⁺ g.Exp.absent a = to-mant a
    exponent⁺ {n} (g.Exp.exp {b = b} q (inl i) s d) a = pass q (st.mant-e most x n b i p ks) (power⁺ s d a)
    exponent⁺ {n} (g.Exp.exp {b = b} q (inr i) s d) a = pass q (st.mant-E most x n b i p ks) (power⁺ s d a)

    fraction⁺ : {n e : ℕ} → g.Frac x n e → Acc most x t (mant p) ks e → Acc most x t (nought p) ks n
    fraction⁺ g.Frac.absent a = to-nought a
    fraction⁺ {n} (g.Frac.frac s (g.Some.some {b = b} q d w)) a =
        pass s (st.nought-dot most x n 46 refl p ks) (pass q (st.dot-yes most x (n + 1) b d p ks) (digits⁺ w d-frac (to-frac a)))

    neg-int⁺ : {n e : ℕ} → g.Int x n e → Acc most x t (nought p) ks e → Acc most x t (neg p) ks n
    neg-int⁺ {n} (g.Int.nought q) a = pass q (st.neg-0 most x n 48 refl p ks) a
    neg-int⁺ {n} (g.Int.digits {b = b} q h d w) a = pass q (st.neg-digit most x n b h d p ks) (digits⁺ w d-int (to-int a))

  -- a whole part with no sign
  want-int⁺ : (p : ℕ) (ks : List Frame) {e : ℕ} → g.Int x p e → Acc most x t (nought p) ks e → Acc most x t want ks p
  want-int⁺ p ks (g.Int.nought q) a = pass q (st.want-0 most x p 48 refl ks) a
  want-int⁺ p ks (g.Int.digits {b = b} q h d w) a =
      let r = digit-range b d in
      pass q (st.want-digit most x p b (over-blank b (omega arith)) h d r.0 r.1 ks) (digits⁺ w d-int (to-int a))

  -- a numeral
  number⁺ : (p : ℕ) (ks : List Frame) {e : ℕ} → g.Number x p e → Acc most x t (got (numeral most x p e)) ks e → Acc most x t want ks p
  number⁺ p ks (g.Number.plus i f e) a = want-int⁺ p ks i (fraction⁺ p ks f (exponent⁺ p ks e a))
  number⁺ p ks (g.Number.minus q i f e) a = pass q (st.want-minus most x p 45 refl ks) (neg-int⁺ p ks i (fraction⁺ p ks f (exponent⁺ p ks e a)))

  -- strings
  chars⁺ : (k : Role) (p : ℕ) (ks : List Frame) {n e : ℕ} → g.Chars x n e → Acc most x t (closed most x k p e) ks e → Acc most x t (chars k p) ks n
  chars⁺ k p ks {n} (g.Chars.quote q) a = pass q (st.chars-quote most x n 34 refl k p ks) a
  chars⁺ k p ks {n} (g.Chars.plain {b = b} q h m l c) a = pass q (st.chars-more most x n b h m l k p ks) (chars⁺ k p ks c a)
  chars⁺ k p ks {n} (g.Chars.short {b = b} q r i c) a =
      pass q (st.chars-esc most x n 92 refl k p ks) (pass r (st.esc-yes most x (n + 1) b i k p ks) (rw (add_assoc n 1 1) (chars⁺ k p ks c a)))
  chars⁺ k p ks {n} (g.Chars.long {a = b₁} {b = b₂} {c = b₃} {d = b₄} q u q₁ q₂ q₃ q₄ h₁ h₂ h₃ h₄ c) a =
      pass q (st.chars-esc most x n 92 refl k p ks)
      (pass u (st.esc-u most x (n + 1) 117 refl k p ks)
      (rw (add_assoc n 1 1)
      (pass q₁ (st.hex-yes most x (n + 2) b₁ h₁ k p 3 ks)
      (rw (add_assoc n 2 1)
      (pass q₂ (st.hex-yes most x (n + 3) b₂ h₂ k p 2 ks)
      (rw (add_assoc n 3 1)
      (pass q₃ (st.hex-yes most x (n + 4) b₃ h₃ k p 1 ks)
      (rw (add_assoc n 4 1) (pass q₄ (st.hex-yes most x (n + 5) b₄ h₄ k p 0 ks) (rw (add_assoc n 5 1) (chars⁺ k p ks c a)))))))))))

  -- words
  spell⁺ : (p : ℕ) (l : Option Bool) (ks : List Frame) {ws : List ℕ} {n e : ℕ} → g.Word x ws n e → Acc most x t (got (literal l p e)) ks e
      → Acc most x t (spelled p l ws n) ks n
  spell⁺ p l ks g.Word.end a = a
  spell⁺ p l ks {n = n} (g.Word.letter {w = w} {ws = ws} q r) a = pass q (lit-yes most x w ws p l ks n) (spell⁺ p l ks r a)

  -- the word true
  true⁺ : (p : ℕ) (ks : List Frame) {e : ℕ} → g.Word x (ascii "true") p e → Acc most x t (got (tree.bool p e true)) ks e → Acc most x t want ks p
  unfolding ascii
  true⁺ p ks (g.Word.letter q r) a = pass q (st.want-t most x p 116 refl ks) (spell⁺ p (some true) ks r a)

  -- the word false
  false⁺ : (p : ℕ) (ks : List Frame) {e : ℕ} → g.Word x (ascii "false") p e → Acc most x t (got (tree.bool p e false)) ks e → Acc most x t want ks p
  unfolding ascii
  false⁺ p ks (g.Word.letter q r) a = pass q (st.want-f most x p 102 refl ks) (spell⁺ p (some false) ks r a)

  -- the word null
  null⁺ : (p : ℕ) (ks : List Frame) {e : ℕ} → g.Word x (ascii "null") p e → Acc most x t (got (tree.null p e)) ks e → Acc most x t want ks p
  unfolding ascii
  null⁺ p ks (g.Word.letter q r) a = pass q (st.want-n most x p 110 refl ks) (spell⁺ p option.none ks r a)

  -- the first element of an array and the first name of an object: where the byte c is dead in the mode m, the mode m' does alike at all others
  opens : {m m' : Mode} {ks ks' : List Frame} (c : ℕ) → Blanks m → Blanks m' → ((n : ℕ) → ending most x m n ≡ bad n) → ((n : ℕ) → step most x m ks n c ≡ dead)
      → ((n b : ℕ) → false ≡ is_blank b → (b ≡ c → ⊥) → step most x m' ks' n b ≡ step most x m ks n b) → {m₁ : Mode} {ks₁ : List Frame} {n : ℕ} → m₁ ≡ m
      → ks₁ ≡ ks → Acc most x t m₁ ks₁ n → Acc most x t m' ks' n
  opens {m} c o o' f d law {m₁} {n = n} em es (done q r) = let z : bad n ≡ reads t = sym (f n) ∙ (rw em at r) in clash cc
  opens {m} {m'} {ks} {ks'} c o o' f d law {m₁} {ks₁} {n} em es (pass {m' = m₂} {ks' = ks₂} {b = b} p e a) =
      by (which (is_blank b)) (is? b c) (λ em' es'. opens c o o' f d law em' es' a)
    where
      e' : step most x m ks n b ≡ go m₂ ks₂
      e' = rw (em, es) at e

      by : (true ≡ is_blank b) ⊎ (false ≡ is_blank b) → (b ≡ c) ⊎ (b ≡ c → ⊥) → (m₂ ≡ m → ks₂ ≡ ks → Acc most x t m' ks' (n + 1)) → Acc most x t m' ks' n
      by (inl w) i ih = let z : go m₂ ks₂ ≡ go m ks = sym e' ∙ blank-stays o most x ks n b w in pass p (blank-stays o' most x ks' n b w) (ih (cc) (cc))
      by (inr w) (inl q) ih = let z : dead ≡ go m₂ ks₂ = sym (d n) ∙ (rw q at e') in clash cc
      by (inr w) (inr h) ih = pass p (law n b w h ∙ e') a

  -- what may follow an array's bracket
  first⁺ : {p : ℕ} {ks : List Frame} {n : ℕ} → Acc most x t want (array p tree.no_items ∷ ks) n → Acc most x t (first p) ks n
  first⁺ {p} {ks} =
      opens 93 b-want b-first (λ n. refl)
      (λ n.
      st.want-no most x n 93 (over-blank 93 (omega arith)) (λ q. omega arith) (λ q. omega arith) (λ q. omega arith) (λ q. omega arith) (λ q. omega arith)
      (λ q. omega arith) (λ q. omega arith) (λ q. omega arith) (over-digit 93 (omega arith)) (array p tree.no_items ∷ ks))
      (λ n b w h. st.first_else most x n b w h p ks) refl refl

  -- what may follow an object's brace
  name⁺ : {p : ℕ} {ks : List Frame} {n : ℕ} → Acc most x t (name1 p tree.empty) ks n → Acc most x t (name0 p) ks n
  name⁺ {p} {ks} =
      opens 125 b-name1 b-name0 (λ n. refl) (λ n. st.name-no most x n 125 (over-blank 125 (omega arith)) (λ q. omega arith) p tree.empty ks)
      (λ n b w h. st.name0-else most x n b w h p ks) refl refl

  -- a name and its colon, up to the value
  key⁺ : (p : ℕ) (ms : Members) (ks : List Frame) {n q f c v : ℕ} → g.Ws x n q → At x q 34 → g.Chars x (q + 1) f → g.Ws x f c → At x c 58 → g.Ws x (c + 1) v
      → Acc most x t want (object p ms (name_at x q f) ∷ ks) v → Acc most x t (name1 p ms) ks n
  key⁺ p ms ks {q = q} {f = f} {c = c} w o s w₁ o₁ w₂ a =
      ws⁺ w b-name1
      (pass o (st.name-quote most x q 34 refl p ms ks)
      (chars⁺ (name p ms) q ks s (ws⁺ w₁ b-colon (pass o₁ (st.colon-yes most x c 58 refl p ms (name_at x q f) ks) (ws⁺ w₂ b-want a)))))

  -- elements and members, by what holds of the values with so many levels
  elements⁺ : (l : ℕ) → Values most x t l → {n e : ℕ} {vs : Items} → g.Elements x l n e vs → (p : ℕ) (us : Items) (ks : List Frame) → suc (length ks) + l ≡ most
      → Acc most x t (got (tree.arr p e (us ⊕ vs))) ks e → Acc most x t want (array p us ∷ ks) n
  elements⁺ l ih (g.Elements.last {k = k} {v = v} w i w' r) p us ks h a =
      ws⁺ w b-want (ih _ _ v i (array p us ∷ ks) h (ws⁺ w' b-got (pass r (st.array-close most x k 93 v p us ks refl) a)))
  elements⁺ l ih (g.Elements.next {k = k} {v = v} w i w' r es) p us ks h a =
      ws⁺ w b-want (ih _ _ v i (array p us ∷ ks) h (ws⁺ w' b-got (pass r (st.array-comma most x k 44 v p us ks refl) (elements⁺ l ih es p (us ◂ v) ks h a))))

  -- members, by the same
  members⁺ : (l : ℕ) → Values most x t l → {n e : ℕ} {ns : Members} → g.Members x l n e ns → (p : ℕ) (ms : Members) (ks : List Frame)
      → suc (length ks) + l ≡ most → Acc most x t (got (tree.obj p e (ms ⊞ ns))) ks e → Acc most x t (name1 p ms) ks n
  members⁺ l ih (g.Members.last-member {q = q} {f = f} {k = k} {v = v} w o s w₁ o₁ w₂ i w₃ r) p ms ks h a =
      key⁺ p ms ks w o s w₁ o₁ w₂
      (ih _ _ v i (object p ms (name_at x q f) ∷ ks) h (ws⁺ w₃ b-got (pass r (st.object-close most x k 125 v p ms (name_at x q f) ks refl) a)))
  members⁺ l ih (g.Members.next-member {q = q} {f = f} {k = k} {v = v} w o s w₁ o₁ w₂ i w₃ r es) p ms ks h a =
      key⁺ p ms ks w o s w₁ o₁ w₂
      (ih _ _ v i (object p ms (name_at x q f) ∷ ks) h
      (ws⁺ w₃ b-got (pass r (st.object-comma most x k 44 v p ms (name_at x q f) ks refl) (members⁺ l ih es p (tree.with ms (name_at x q f) v) ks h a))))

  -- a value, by what holds of those with one level less
  one⁺ : {l : ℕ} → Below (Values most x t) l → {p e : ℕ} {v : Json} → g.Value x l p e v → (ks : List Frame) → length ks + l ≡ most → Acc most x t (got v) ks e
      → Acc most x t want ks p
  one⁺ ih {p} (g.Value.string q c) ks h a = pass q (st.want-quote most x p 34 refl ks) (chars⁺ value p ks c a)
  one⁺ ih {p} (g.Value.number i) ks h a = number⁺ p ks i a
  one⁺ ih {p} (g.Value.true' w) ks h a = true⁺ p ks w a
  one⁺ ih {p} (g.Value.false' w) ks h a = false⁺ p ks w a
  one⁺ ih {p} (g.Value.null w) ks h a = null⁺ p ks w a
  one⁺ ih {p} (g.Value.empty-array {n = n} q w r) ks h a =
      pass q (st.open_array most x p 91 refl ks (omega arith)) (ws⁺ w b-first (pass r (st.first-close most x n 93 refl p ks) a))
  one⁺ ih {p} (g.Value.array {l = l} {vs = vs} q es) ks h a =
      pass q (st.open_array most x p 91 refl ks (omega arith)) (first⁺ (elements⁺ l ih es p tree.no_items ks (omega arith) (rw (items-none vs) a)))
  one⁺ ih {p} (g.Value.empty-object {n = n} q w r) ks h a =
      pass q (st.open-object most x p 123 refl ks (omega arith)) (ws⁺ w b-name0 (pass r (st.name0-close most x n 125 refl p ks) a))
  one⁺ ih {p} (g.Value.object {l = l} {ms = ms} q es) ks h a =
      pass q (st.open-object most x p 123 refl ks (omega arith)) (name⁺ (members⁺ l ih es p tree.empty ks (omega arith) (rw (members-empty ms) a)))

  -- a text of the grammar is read as its tree
  pub derived : Text most x t → Acc most x t want [] 0
  derived (g.Text.text w v w') =
      ws⁺ w b-want (by-levels (Values most x t) (λ l ih p e v. one⁺ ih) most _ _ t v [] (omega arith) (ws⁺ w' b-got (done refl refl)))
