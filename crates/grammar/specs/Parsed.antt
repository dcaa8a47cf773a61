-- Whatever the machine reads RFC 8259's grammar derives, with the same tree.
use Rattle.std.specs.Prelude.{ℕ, zero, suc, ◌+◌, ◌≤◌, ◌<◌, ◌≡◌, refl, Bool, true, false, List, [], ◌∷◌, ◌⊎◌, length}
use Rattle.std.proofs.Common.{arith, add_assoc, sym, ◌∙◌, inl, inr}
use Rattle.std.proofs.Math.Decide.{dec_lt}
use Rattle.std.proofs.Math.Option.{Option}
use Rattle.std.proofs.Math.Option as option
use Rattle.utf8.specs.Ascii.{ascii, is_digit}
use Rattle.json_text.specs.Tree.{Json, Items, ◌▸◌, ◌◂◌, Members, member, with}
use Rattle.json_text.specs.Tree as tree
use Rattle.json_text.specs.Machine.{Frame, array, object, Role, value, Mode, go, dead, reads, bad, step, ending, is_blank, is_hex, is_escape, closed, numeral, literal, hexed}
use Rattle.json_text.specs.Machine.Role.{name}
use Rattle.json_text.specs.Machine.Mode.{want, first, name0, name1, colon, got, chars, esc, hex, neg, nought, int, dot, mant, exp, sign, lit}
use Rattle.json_text.specs.Grammar.{At, Text, name_at}
use Rattle.json_text.specs.Grammar as g
use Rattle.json_text.specs.Steps as st
use Rattle.grammar.specs.Induction.{Below, by-levels, backwards}
use Rattle.grammar.specs.Joins.{◌⊕◌, items-none, ◌⊞◌, members-empty}
use Rattle.grammar.specs.Accepts.{Acc, done, pass, Next, ends, more, next, at, acc-go, acc-dead, acc-deep, acc-like, Blanks, b-want, b-first, b-name0, b-name1, b-colon, b-got, Digital, d-int, d-frac, d-exps, blank-stays, digit-stays, which, is?, not-whole, not-closed}
use Rattle.grammar.specs.Derived.{spelled, lit-yes, digit-range, ws⁺}

-- a part of the text that starts at n or later, and ends where the machine goes on in a mode
record Then (most : ℕ) (x : List ℕ) (t : Json) (P : ℕ → Type 0) (M : ℕ → Mode) (ks : List Frame) (n : ℕ) : Type 0 where
  pub end : ℕ
  pub low : n ≤ end
  pub part : P end
  pub acc : Acc most x t (M end) ks end

-- a value that starts at n or later
record Got (most : ℕ) (x : List ℕ) (t : Json) (P : Json → ℕ → Type 0) (ks : List Frame) (n : ℕ) : Type 0 where
  pub what : Json
  pub end : ℕ
  pub low : n ≤ end
  pub part : P what end
  pub acc : Acc most x t (got what) ks end

-- a hexadecimal digit at n
record Hexed (most : ℕ) (x : List ℕ) (t : Json) (m : Mode) (ks : List Frame) (n : ℕ) : Type 0 where
  pub digit : ℕ
  pub here : At x n digit
  pub is : true ≡ is_hex digit
  pub acc : Acc most x t m ks (n + 1)

-- the rest of a string, of the role k that began at p, from n on
abbrev Str : (most : ℕ) (x : List ℕ) (t : Json) (k : Role) (p : ℕ) (ks : List Frame) (n : ℕ) → Type 0
Str most x t k p ks n = Acc most x t (chars k p) ks n → Then most x t (g.Chars x n) (closed most x k p) ks n

-- white space, and the byte after it
data Head (most : ℕ) (x : List ℕ) (t : Json) (m : Mode) (ks : List Frame) (n : ℕ) : Type 0 where
  whole : {e : ℕ} → g.Ws x n e → e ≡ length x → ks ≡ [] → ending most x m e ≡ reads t → Head most x t m ks n
  byte : {b e : ℕ} → n ≤ e → g.Ws x n e → At x e b → false ≡ is_blank b → Acc most x t m ks e → Head most x t m ks n

-- the name of a member from n on and its colon, up to the first byte of its value
record Key (most : ℕ) (x : List ℕ) (t : Json) (p : ℕ) (ms : Members) (ks : List Frame) (n : ℕ) : Type 0 where
  pub q : ℕ
  pub f : ℕ
  pub c : ℕ
  pub v : ℕ
  pub b : ℕ
  pub before : g.Ws x n q
  pub quote : At x q 34
  pub string : g.Chars x (q + 1) f
  pub after : g.Ws x f c
  pub mark : At x c 58
  pub space : g.Ws x (c + 1) v
  pub low : n ≤ v
  pub here : At x v b
  pub no-blank : false ≡ is_blank b
  pub acc : Acc most x t want (object p ms (name_at x q f) ∷ ks) v

-- a value of at most l levels from n on
abbrev Values : (most : ℕ) (x : List ℕ) (t : Json) (l : ℕ) → Type 0
Values most x t l =
    (n b : ℕ) → At x n b → false ≡ is_blank b → (ks : List Frame) → length ks + l ≡ most → Acc most x t want ks n → Got most x t (λ v e. g.Value x l n e v) ks n

-- elements from n on, after us, in the array at p
abbrev Elems : (most : ℕ) (x : List ℕ) (t : Json) (l p : ℕ) (ks : List Frame) (n : ℕ) → Type 0
Elems most x t l p ks n =
    (us : Items) → Acc most x t want (array p us ∷ ks) n → Got most x t (λ v e. (vs : Items) × (v ≡ tree.arr p e (us ⊕ vs)) × g.Elements x l n e vs) ks n

-- and members from n on, after ms, in the object at p
abbrev Membs : (most : ℕ) (x : List ℕ) (t : Json) (l p : ℕ) (ks : List Frame) (n : ℕ) → Type 0
Membs most x t l p ks n =
    (ms : Members) → Acc most x t (name1 p ms) ks n → Got most x t (λ v e. (ns : Members) × (v ≡ tree.obj p e (ms ⊞ ns)) × g.Members x l n e ns) ks n

-- an array of elements that were read
array_of : {x : List ℕ} {l n e : ℕ} {v : Json} {vs : Items} → At x n 91 → v ≡ tree.arr n e (tree.no_items ⊕ vs) → g.Elements x l (n + 1) e vs
    → g.Value x (suc l) n e v
array_of {vs = vs} o q es = rw (q, items-none vs) (g.Value.array o es)

-- an object of members that were read
object-of : {x : List ℕ} {l n e : ℕ} {v : Json} {ms : Members} → At x n 123 → v ≡ tree.obj n e (tree.empty ⊞ ms) → g.Members x l (n + 1) e ms
    → g.Value x (suc l) n e v
object-of {ms = ms} o q es = rw (q, members-empty ms) (g.Value.object o es)

module _ {most : ℕ} {x : List ℕ} {t : Json} where
  -- a part of a larger part
  turn : {P Q : ℕ → Type 0} {M : ℕ → Mode} {ks : List Frame} {n n' : ℕ} → Then most x t P M ks n → n' ≤ n → ((e : ℕ) → P e → Q e) → Then most x t Q M ks n'
  turn h l f = record { end = h.end; low = omega (arith, h.low); part = f h.end h.part; acc = h.acc }

  -- white space up to the first other byte, by induction on what is read
  head-from : {m : Mode} {ks : List Frame} → Blanks m → {m₁ : Mode} {ks₁ : List Frame} {n : ℕ} → m₁ ≡ m → ks₁ ≡ ks → Acc most x t m₁ ks₁ n
      → Head most x t m ks n
  head-from o em es (done q r) = whole g.Ws.end q (sym es) (rw em at r)
  head-from {m} {ks} o {m₁} {ks₁} {n} em es (pass {m' = m₂} {ks' = ks₂} {b = b} p e a) = by (which (is_blank b)) (λ em' es'. head-from o em' es' a)
    where
      e' : step most x m ks n b ≡ go m₂ ks₂
      e' = rw (em, es) at e

      on : true ≡ is_blank b → Head most x t m ks (n + 1) → Head most x t m ks n
      on w (whole ws q s r) = whole (g.Ws.more p w ws) q s r
      on w (byte {e = e} l ws q f a') = byte {e = e} (omega arith) (g.Ws.more p w ws) q f a'

      by : (true ≡ is_blank b) ⊎ (false ≡ is_blank b) → (m₂ ≡ m → ks₂ ≡ ks → Head most x t m ks (n + 1)) → Head most x t m ks n
      by (inl w) ih = let z : go m₂ ks₂ ≡ go m ks = sym e' ∙ blank-stays o most x ks n b w in on w (ih (cc) (cc))
      by (inr w) ih = byte {e = n} (omega arith) g.Ws.end p w (pass p e' a)

  -- white space up to the first other byte
  head : {m : Mode} {ks : List Frame} {n : ℕ} → Blanks m → Acc most x t m ks n → Head most x t m ks n
  head o a = head-from o refl refl a

  -- digits, and the mode that goes on after them
  digits_from : {m : Mode} (M : ℕ → Mode) {ks : List Frame} → Digital m → ((n : ℕ) → ending most x m n ≡ ending most x (M n) n)
      → ((n b : ℕ) → false ≡ is_digit b → step most x m ks n b ≡ step most x (M n) ks n b)
      → {m₁ : Mode} {ks₁ : List Frame} {n : ℕ} → m₁ ≡ m → ks₁ ≡ ks → Acc most x t m₁ ks₁ n → Then most x t (g.Digits x n) M ks n
  digits_from {m} M {ks} o w law {n = n} em es (done q r) =
      record { end = n; low = omega arith; part = g.Digits.end; acc = rw (sym es) (done q (sym (w n) ∙ (rw em at r))) }
  digits_from {m} M {ks} o w law {m₁} {ks₁} {n} em es (pass {m' = m₂} {ks' = ks₂} {b = b} p e a) =
      by (which (is_digit b)) (λ em' es'. digits_from M o w law em' es' a)
    where
      e' : step most x m ks n b ≡ go m₂ ks₂
      e' = rw (em, es) at e

      by : (true ≡ is_digit b) ⊎ (false ≡ is_digit b) → (m₂ ≡ m → ks₂ ≡ ks → Then most x t (g.Digits x (n + 1)) M ks (n + 1))
          → Then most x t (g.Digits x n) M ks n
      by (inl d) ih =
          let z : go m₂ ks₂ ≡ go m ks = sym e' ∙ digit-stays o most x ks n b d in
          turn (ih (cc) (cc)) (omega arith) (λ _ z. g.Digits.more p d z)
      by (inr d) ih = record { end = n; low = omega arith; part = g.Digits.end; acc = pass p (sym (law n b d) ∙ e') a }

  -- one digit or more
  some⁻ : {m₀ m : Mode} (M : ℕ → Mode) {ks : List Frame} → ((n : ℕ) → ending most x m₀ n ≡ bad n) → Digital m
      → ((n : ℕ) → ending most x m n ≡ ending most x (M n) n)
      → ((n b : ℕ) → true ≡ is_digit b → step most x m₀ ks n b ≡ go m ks) → ((n b : ℕ) → false ≡ is_digit b → step most x m₀ ks n b ≡ dead)
      → ((n b : ℕ) → false ≡ is_digit b → step most x m ks n b ≡ step most x (M n) ks n b)
      → {n : ℕ} → Acc most x t m₀ ks n → Then most x t (g.Some x n) M ks n
  some⁻ {m₀} {m} M {ks} w₀ o w y f law {n} a = by (next a)
    where
      on : {b : ℕ} → At x n b → (true ≡ is_digit b) ⊎ (false ≡ is_digit b) → Then most x t (g.Some x n) M ks n
      on {b} p (inl d) = turn (digits_from M o w law refl refl (acc-go p (y n b d) a)) (omega arith) (λ _ z. g.Some.some p d z)
      on {b} p (inr d) = acc-dead p (f n b d) a

      by : Next most x t m₀ ks n → Then most x t (g.Some x n) M ks n
      by (ends s q r) = not-whole (sym (w₀ n) ∙ r)
      by (more {b} p) = on p (which (is_digit b))

  -- numerals that began at p
  module _ (p : ℕ) (ks : List Frame) where
    exps⁻ : {n : ℕ} → Acc most x t (sign p) ks n → Then most x t (g.Some x n) (λ e. got (numeral most x p e)) ks n
    exps⁻ =
        some⁻ (λ e. got (numeral most x p e)) (λ n. refl) d-exps (λ n. refl) (λ n b e. st.sign-yes most x n b e p ks) (λ n b e. st.sign-no most x n b e p ks)
        (λ n b e. st.exps-else most x n b e p ks)

    frac⁻ : {n : ℕ} → Acc most x t (dot p) ks n → Then most x t (g.Some x n) (λ e. mant p) ks n
    frac⁻ =
        some⁻ (λ e. mant p) (λ n. refl) d-frac (λ n. refl) (λ n b e. st.dot-yes most x n b e p ks) (λ n b e. st.dot-no most x n b e p ks)
        (λ n b e. st.frac-else most x n b e p ks)

    int⁻ : {n : ℕ} → Acc most x t (int p) ks n → Then most x t (g.Digits x n) (λ e. nought p) ks n
    int⁻ = digits_from (λ e. nought p) d-int (λ n. refl) (λ n b e. st.int-else most x n b e p ks) refl refl

    power⁻ : {n b : ℕ} → At x n b → (b ≡ 101) ⊎ (b ≡ 69) → Acc most x t (exp p) ks (n + 1) → Then most x t (g.Exp x n) (λ e. got (numeral most x p e)) ks n
    power⁻ {n} {b} q i a = by (next a)
      where
        on : {c : ℕ} → At x (n + 1) c → (c ≡ 43) ⊎ (c ≡ 43 → ⊥) → (c ≡ 45) ⊎ (c ≡ 45 → ⊥) → Then most x t (g.Exp x n) (λ e. got (numeral most x p e)) ks n
        on {c} r (inl e) _ = turn (exps⁻ (acc-go r (st.exp-plus most x (n + 1) c e p ks) a)) (omega arith) (λ _ z. g.Exp.exp q i (g.Sign.plus (at e r)) z)
        on {c} r (inr _) (inl e) =
            turn (exps⁻ (acc-go r (st.exp-minus most x (n + 1) c e p ks) a)) (omega arith) (λ _ z. g.Exp.exp q i (g.Sign.minus (at e r)) z)
        on {c} r (inr d) (inr e) = turn (exps⁻ (acc-like r (st.exp-else most x (n + 1) c d e p ks) a)) (omega arith) (λ _ z. g.Exp.exp q i g.Sign.absent z)

        by : Next most x t (exp p) ks (n + 1) → Then most x t (g.Exp x n) (λ e. got (numeral most x p e)) ks n
        by (ends s z r) = not-whole r
        by (more {b = c} r) = on r (is? c 43) (is? c 45)

    exponent⁻ : {n : ℕ} → Acc most x t (mant p) ks n → Then most x t (g.Exp x n) (λ e. got (numeral most x p e)) ks n
    exponent⁻ {n} a = by (next a)
      where
        on : {b : ℕ} → At x n b → (b ≡ 101) ⊎ (b ≡ 101 → ⊥) → (b ≡ 69) ⊎ (b ≡ 69 → ⊥) → Then most x t (g.Exp x n) (λ e. got (numeral most x p e)) ks n
        on {b} q (inl e) _ = power⁻ q (inl e) (acc-go q (st.mant-e most x n b e p ks) a)
        on {b} q (inr _) (inl e) = power⁻ q (inr e) (acc-go q (st.mant-E most x n b e p ks) a)
        on {b} q (inr d) (inr e) = record { end = n; low = omega arith; part = g.Exp.absent; acc = acc-like q (st.mant-else most x n b d e p ks) a }

        by : Next most x t (mant p) ks n → Then most x t (g.Exp x n) (λ e. got (numeral most x p e)) ks n
        by (ends s z r) = record { end = n; low = omega arith; part = g.Exp.absent; acc = rw s (done z r) }
        by (more {b} q) = on q (is? b 101) (is? b 69)

    fraction⁻ : {n : ℕ} → Acc most x t (nought p) ks n → Then most x t (g.Frac x n) (λ e. mant p) ks n
    fraction⁻ {n} a = by (next a)
      where
        on : {b : ℕ} → At x n b → (b ≡ 46) ⊎ (b ≡ 46 → ⊥) → Then most x t (g.Frac x n) (λ e. mant p) ks n
        on {b} q (inl e) = turn (frac⁻ (acc-go q (st.nought-dot most x n b e p ks) a)) (omega arith) (λ _ z. g.Frac.frac (at e q) z)
        on {b} q (inr d) = record { end = n; low = omega arith; part = g.Frac.absent; acc = acc-like q (st.nought-else most x n b d p ks) a }

        by : Next most x t (nought p) ks n → Then most x t (g.Frac x n) (λ e. mant p) ks n
        by (ends s z r) = record { end = n; low = omega arith; part = g.Frac.absent; acc = rw s (done z r) }
        by (more {b} q) = on q (is? b 46)

    -- a whole part ends at n: the rest of the numeral
    tail⁻ : {P : ℕ → Type 0} {n : ℕ} → ((f e : ℕ) → g.Frac x n f → g.Exp x f e → P e) → Acc most x t (nought p) ks n
        → Then most x t P (λ e. got (numeral most x p e)) ks n
    tail⁻ make a =
        let f = fraction⁻ a in
        let e = exponent⁻ f.acc in
        record { end = e.end; low = omega (arith, f.low, e.low); part = make f.end e.end f.part e.part; acc = e.acc }

    -- more of a whole part, and the rest of the numeral
    whole⁻ : {P : ℕ → Type 0} {n : ℕ} → ((i f e : ℕ) → g.Digits x n i → g.Frac x i f → g.Exp x f e → P e) → Acc most x t (int p) ks n
        → Then most x t P (λ e. got (numeral most x p e)) ks n
    whole⁻ {P} make a =
        let i = int⁻ a in
        let h = tail⁻ {P = P} (λ f e. make i.end f e i.part) i.acc in
        record { end = h.end; low = omega (arith, i.low, h.low); part = h.part; acc = h.acc }

    neg⁻ : At x p 45 → Acc most x t (neg p) ks (p + 1) → Then most x t (g.Number x p) (λ e. got (numeral most x p e)) ks (p + 1)
    neg⁻ o a = by (next a)
      where
        on : {b : ℕ} → At x (p + 1) b → (b ≡ 48) ⊎ (b ≡ 48 → ⊥) → (true ≡ is_digit b) ⊎ (false ≡ is_digit b)
            → Then most x t (g.Number x p) (λ e. got (numeral most x p e)) ks (p + 1)
        on {b} q (inl e) _ =
            turn (tail⁻ {P = g.Number x p} (λ f k u v. g.Number.minus o (g.Int.nought (at e q)) u v) (acc-go q (st.neg-0 most x (p + 1) b e p ks) a))
            (omega arith) (λ _ z. z)
        on {b} q (inr d) (inl e) =
            turn (whole⁻ {P = g.Number x p} (λ i f k s u v. g.Number.minus o (g.Int.digits q d e s) u v) (acc-go q (st.neg-digit most x (p + 1) b d e p ks) a))
            (omega arith) (λ _ z. z)
        on {b} q (inr d) (inr e) = acc-dead q (st.neg-no most x (p + 1) b d e p ks) a

        by : Next most x t (neg p) ks (p + 1) → Then most x t (g.Number x p) (λ e. got (numeral most x p e)) ks (p + 1)
        by (ends s z r) = not-whole r
        by (more {b} q) = on q (is? b 48) (which (is_digit b))

  -- strings of the role k that began at p
  module _ (k : Role) (p : ℕ) (ks : List Frame) where
    hex⁻ : (j : ℕ) {n : ℕ} → Acc most x t (hex k p j) ks n → Hexed most x t (hexed most x k p j) ks n
    hex⁻ j {n} a = by (next a)
      where
        on : {b : ℕ} → At x n b → (true ≡ is_hex b) ⊎ (false ≡ is_hex b) → Hexed most x t (hexed most x k p j) ks n
        on {b} q (inl e) = record { digit = b; here = q; is = e; acc = acc-go q (st.hex-yes most x n b e k p j ks) a }
        on {b} q (inr e) = acc-dead q (st.hex-no most x n b e k p j ks) a

        by : Next most x t (hex k p j) ks n → Hexed most x t (hexed most x k p j) ks n
        by (ends s z r) = not-whole r
        by (more {b} q) = on q (which (is_hex b))

    -- after a backslash at n
    esc⁻ : {n : ℕ} → At x n 92 → ((n' : ℕ) → n < n' → n' ≤ length x → Str most x t k p ks n') → Acc most x t (esc k p) ks (n + 1)
        → Then most x t (g.Chars x n) (closed most x k p) ks n
    esc⁻ {n} o ih a = by (next a)
      where
        on : {b : ℕ} → At x (n + 1) b → (b ≡ 117) ⊎ (b ≡ 117 → ⊥) → (true ≡ is_escape b) ⊎ (false ≡ is_escape b)
            → Then most x t (g.Chars x n) (closed most x k p) ks n
        on {b} q (inl e) _ =
            let h₁ = hex⁻ 3 (rw (add_assoc n 1 1) at (acc-go q (st.esc-u most x (n + 1) b e k p ks) a)) in
            let h₂ = hex⁻ 2 (rw (add_assoc n 2 1) at h₁.acc) in
            let h₃ = hex⁻ 1 (rw (add_assoc n 3 1) at h₂.acc) in
            let h₄ = hex⁻ 0 (rw (add_assoc n 4 1) at h₃.acc) in
            let l = h₄.here.inside in
            turn (ih (n + 6) (omega arith) (omega arith) (rw (add_assoc n 5 1) at h₄.acc)) (omega arith)
            (λ _ z. g.Chars.long o (at e q) h₁.here h₂.here h₃.here h₄.here h₁.is h₂.is h₃.is h₄.is z)
        on {b} q (inr _) (inl e) =
            let l = q.inside in
            turn (ih (n + 2) (omega arith) (omega arith) (rw (add_assoc n 1 1) at (acc-go q (st.esc-yes most x (n + 1) b e k p ks) a))) (omega arith)
            (λ _ z. g.Chars.short o q e z)
        on {b} q (inr d) (inr e) = acc-dead q (st.esc-no most x (n + 1) b d e k p ks) a

        by : Next most x t (esc k p) ks (n + 1) → Then most x t (g.Chars x n) (closed most x k p) ks n
        by (ends s z r) = not-whole r
        by (more {b} q) = on q (is? b 117) (which (is_escape b))

    chars-at : (n : ℕ) → ((n' : ℕ) → n < n' → n' ≤ length x → Str most x t k p ks n') → Str most x t k p ks n
    chars-at n ih a = by (next a)
      where
        on : {b : ℕ} → At x n b → (b ≡ 34) ⊎ (b ≡ 34 → ⊥) → (b ≡ 92) ⊎ (b ≡ 92 → ⊥) → Dec (b < 32) → Then most x t (g.Chars x n) (closed most x k p) ks n
        on {b} q (inl e) _ _ = record { end = n + 1; low = omega arith; part = g.Chars.quote (at e q); acc = acc-go q (st.chars-quote most x n b e k p ks) a }
        on {b} q (inr _) (inl e) _ = esc⁻ (at e q) ih (acc-go q (st.chars-esc most x n b e k p ks) a)
        on {b} q (inr d) (inr e) (yes l) = acc-dead q (st.chars-no most x n b d e l k p ks) a
        on {b} q (inr d) (inr e) (no l) =
            let u = q.inside in
            turn (ih (n + 1) (omega arith) (omega arith) (acc-go q (st.chars-more most x n b d e (omega arith) k p ks) a)) (omega arith)
            (λ _ z. g.Chars.plain q d e (omega arith) z)

        by : Next most x t (chars k p) ks n → Then most x t (g.Chars x n) (closed most x k p) ks n
        by (ends s z r) = not-whole r
        by (more {b} q) = on q (is? b 34) (is? b 92) (dec_lt b 32)

    chars⁻ : {n : ℕ} → Acc most x t (chars k p) ks n → Then most x t (g.Chars x n) (closed most x k p) ks n
    chars⁻ {n} = backwards (length x) (Str most x t k p ks) chars-at n

  -- the rest of a word of a literal that began at p
  word⁻ : (p : ℕ) (l : Option Bool) (ks : List Frame) (ws : List ℕ) {n : ℕ} → Acc most x t (spelled p l ws n) ks n
      → Then most x t (g.Word x ws n) (λ e. got (literal l p e)) ks n
  word⁻ p l ks [] {n} a = record { end = n; low = omega arith; part = g.Word.end; acc = a }
  word⁻ p l ks (w ∷ ws) {n} a = by (next a) (word⁻ p l ks ws)
    where
      W : Type 0
      W = Then most x t (g.Word x (w ∷ ws) n) (λ e. got (literal l p e)) ks n

      on : {b : ℕ} → At x n b → (b ≡ w) ⊎ (b ≡ w → ⊥)
          → (Acc most x t (spelled p l ws (n + 1)) ks (n + 1) → Then most x t (g.Word x ws (n + 1)) (λ e. got (literal l p e)) ks (n + 1)) → W
      on q (inl e) ih = turn (ih (acc-go (at e q) (lit-yes most x w ws p l ks n) a)) (omega arith) (λ _ z. g.Word.letter (at e q) z)
      on {b} q (inr d) ih = acc-dead q (st.lit-no most x n b w ws d p l ks) a

      by : Next most x t (lit p l (w ∷ ws)) ks n
          → (Acc most x t (spelled p l ws (n + 1)) ks (n + 1) → Then most x t (g.Word x ws (n + 1)) (λ e. got (literal l p e)) ks (n + 1)) → W
      by (ends s z r) ih = not-whole r
      by (more {b} q) ih = on q (is? b w) ih

  -- a part that is a value
  made : {P : ℕ → Type 0} {Q : Json → ℕ → Type 0} {ks : List Frame} {n n' : ℕ} (mk : ℕ → Json) → Then most x t P (λ e. got (mk e)) ks n → n' ≤ n
      → ((e : ℕ) → P e → Q (mk e) e) → Got most x t Q ks n'
  made mk h l f = record { what = mk h.end; end = h.end; low = omega (arith, h.low); part = f h.end h.part; acc = h.acc }

  -- a value that is part of another
  changed : {P Q : Json → ℕ → Type 0} {ks : List Frame} {n n' : ℕ} → Got most x t P ks n → n' ≤ n → ((v : Json) (e : ℕ) → P v e → Q v e) → Got most x t Q ks n'
  changed h l f = record { what = h.what; end = h.end; low = omega (arith, h.low); part = f h.what h.end h.part; acc = h.acc }

  -- elements, if what holds is known of later places
  elements-at : (l : ℕ) → Values most x t l → (p : ℕ) (ks : List Frame) → suc (length ks) + l ≡ most → (n : ℕ)
      → ((n' : ℕ) → n < n' → n' ≤ length x → Elems most x t l p ks n') → Elems most x t l p ks n
  elements-at l val p ks h n ih us a = by (head b-want a)
    where
      Q : Json → ℕ → Type 0
      Q v e = (vs : Items) × (v ≡ tree.arr p e (us ⊕ vs)) × g.Elements x l n e vs

      close : {s : ℕ} → n ≤ s → g.Ws x n s → (i : Got most x t (λ v e. g.Value x l s e v) (array p us ∷ ks) s)
          → Head most x t (got i.what) (array p us ∷ ks) i.end → Got most x t Q ks n
      close l₁ w i (whole _ _ s _) = not-closed s
      close l₁ w i (byte {b = c} {e = k} l₂ w' r f a') = on (is? c 44) (is? c 93)
        where
          on : (c ≡ 44) ⊎ (c ≡ 44 → ⊥) → (c ≡ 93) ⊎ (c ≡ 93 → ⊥) → Got most x t Q ks n
          on (inl e) _ =
              let u = r.inside in
              let l₃ = i.low in
              changed (ih (k + 1) (omega arith) (omega arith) (us ◂ i.what) (acc-go r (st.array-comma most x k c i.what p us ks e) a')) (omega arith)
              (λ v m (vs, q, es). (i.what ▸ vs, q, g.Elements.next w i.part w' (at e r) es))
          on (inr d) (inl e) = record {
            what = tree.arr p (k + 1) (us ◂ i.what);
            end = k + 1;
            low = omega (arith, i.low);
            part = (i.what ▸ tree.no_items, refl, g.Elements.last w i.part w' (at e r));
            acc = acc-go r (st.array-close most x k c i.what p us ks e) a';
          }
          on (inr d) (inr e) = acc-dead r (st.array-no most x k c i.what p us ks f d e) a'

      by : Head most x t want (array p us ∷ ks) n → Got most x t Q ks n
      by (whole _ _ s _) = not-closed s
      by (byte {b = b} {e = s} l₁ w q f a') = let i = val s b q f (array p us ∷ ks) h a' in close l₁ w i (head b-got i.acc)

  -- a name and its colon
  key⁻ : {p : ℕ} {ms : Members} {ks : List Frame} {n : ℕ} → Acc most x t (name1 p ms) ks n → Key most x t p ms ks n
  key⁻ {p} {ms} {ks} {n} a = by (head b-name1 a)
    where
      at_value : {q f c : ℕ} → n ≤ c → g.Ws x n q → At x q 34 → g.Chars x (q + 1) f → g.Ws x f c → At x c 58
          → Head most x t want (object p ms (name_at x q f) ∷ ks) (c + 1) → Key most x t p ms ks n
      at_value l w o s w₁ o₁ (whole _ _ z _) = not-closed z
      at_value {q} {f} {c} l w o s w₁ o₁ (byte {b = b} {e = v} l₂ w₂ h d a₂) =
          record {
            q = q;
            f = f;
            c = c;
            v = v;
            b = b;
            before = w;
            quote = o;
            string = s;
            after = w₁;
            mark = o₁;
            space = w₂;
            low = omega arith;
            here = h;
            no-blank = d;
            acc = a₂;
          }

      at-colon : {q f : ℕ} → n ≤ f → g.Ws x n q → At x q 34 → g.Chars x (q + 1) f → Head most x t (colon p ms (name_at x q f)) ks f → Key most x t p ms ks n
      at-colon l w o s (whole _ _ _ r) = not-whole r
      at-colon {q} {f} l w o s (byte {b = c} {e = k} l₁ w₁ h d a₁) = on (is? c 58)
        where
          on : (c ≡ 58) ⊎ (c ≡ 58 → ⊥) → Key most x t p ms ks n
          on (inl e) = at_value (omega arith) w o s w₁ (at e h) (head b-want (acc-go h (st.colon-yes most x k c e p ms (name_at x q f) ks) a₁))
          on (inr e) = acc-dead h (st.colon-no most x k c d e p ms (name_at x q f) ks) a₁

      by : Head most x t (name1 p ms) ks n → Key most x t p ms ks n
      by (whole _ _ _ r) = not-whole r
      by (byte {b = b} {e = q} l w h d a₁) = on (is? b 34)
        where
          on : (b ≡ 34) ⊎ (b ≡ 34 → ⊥) → Key most x t p ms ks n
          on (inl e) =
              let s = chars⁻ (name p ms) q ks (acc-go h (st.name-quote most x q b e p ms ks) a₁) in
              at-colon (omega (arith, s.low)) w (at e h) s.part (head b-colon s.acc)
          on (inr e) = acc-dead h (st.name-no most x q b d e p ms ks) a₁

  -- members, if what holds is known of later places
  members-at : (l : ℕ) → Values most x t l → (p : ℕ) (ks : List Frame) → suc (length ks) + l ≡ most → (n : ℕ)
      → ((n' : ℕ) → n < n' → n' ≤ length x → Membs most x t l p ks n') → Membs most x t l p ks n
  members-at l val p ks h n ih ms a = by (key⁻ a)
    where
      Q : Json → ℕ → Type 0
      Q v e = (ns : Members) × (v ≡ tree.obj p e (ms ⊞ ns)) × g.Members x l n e ns

      by : Key most x t p ms ks n → Got most x t Q ks n
      by j = close (val j.v j.b j.here j.no-blank (object p ms m ∷ ks) h j.acc)
        where
          m : tree.Name
          m = name_at x j.q j.f

          close : Got most x t (λ v e. g.Value x l j.v e v) (object p ms m ∷ ks) j.v → Got most x t Q ks n
          close i = shut (head b-got i.acc)
            where
              shut : Head most x t (got i.what) (object p ms m ∷ ks) i.end → Got most x t Q ks n
              shut (whole _ _ s _) = not-closed s
              shut (byte {b = c} {e = k} l₂ w' r f a') = on (is? c 44) (is? c 125)
                where
                  on : (c ≡ 44) ⊎ (c ≡ 44 → ⊥) → (c ≡ 125) ⊎ (c ≡ 125 → ⊥) → Got most x t Q ks n
                  on (inl e) _ =
                      let u = r.inside in
                      let l₁ = j.low in
                      let l₃ = i.low in
                      changed (ih (k + 1) (omega arith) (omega arith) (with ms m i.what) (acc-go r (st.object-comma most x k c i.what p ms m ks e) a'))
                      (omega arith)
                      (λ v _ (ns, q, es). (
                        member m i.what ns,
                        q,
                        g.Members.next-member j.before j.quote j.string j.after j.mark j.space i.part w' (at e r) es,
                      ))
                  on (inr d) (inl e) = record {
                    what = tree.obj p (k + 1) (with ms m i.what);
                    end = k + 1;
                    low = omega (arith, i.low, j.low);
                    part = (
                      member m i.what tree.empty,
                      refl,
                      g.Members.last-member j.before j.quote j.string j.after j.mark j.space i.part w' (at e r),
                    );
                    acc = acc-go r (st.object-close most x k c i.what p ms m ks e) a';
                  }
                  on (inr d) (inr e) = acc-dead r (st.object-no most x k c i.what p ms m ks f d e) a'

  -- containers that were opened at n
  array⁻ : (l : ℕ) → Values most x t l → (n : ℕ) → At x n 91 → (ks : List Frame) → suc (length ks) + l ≡ most → Acc most x t (first n) ks (n + 1)
      → Got most x t (λ v e. g.Value x (suc l) n e v) ks n
  array⁻ l val n o ks h a = by (head b-first a)
    where
      by : Head most x t (first n) ks (n + 1) → Got most x t (λ v e. g.Value x (suc l) n e v) ks n
      by (whole _ _ _ r) = not-whole r
      by (byte {b = c} {e = k} l₁ w q f a') = on (is? c 93)
        where
          on : (c ≡ 93) ⊎ (c ≡ 93 → ⊥) → Got most x t (λ v e. g.Value x (suc l) n e v) ks n
          on (inl e) =
              record {
                what = tree.arr n (k + 1) tree.no_items;
                end = k + 1;
                low = omega arith;
                part = g.Value.empty-array o w (at e q);
                acc = acc-go q (st.first-close most x k c e n ks) a';
              }
          on (inr d) =
              changed
              (backwards (length x) (Elems most x t l n ks) (elements-at l val n ks h) (n + 1) tree.no_items
              (ws⁺ w b-want (acc-like q (st.first_else most x k c f d n ks) a'))) (omega arith)
              (λ v e (vs, z, es). array_of o z es)

  -- the same of an object
  object⁻ : (l : ℕ) → Values most x t l → (n : ℕ) → At x n 123 → (ks : List Frame) → suc (length ks) + l ≡ most → Acc most x t (name0 n) ks (n + 1)
      → Got most x t (λ v e. g.Value x (suc l) n e v) ks n
  object⁻ l val n o ks h a = by (head b-name0 a)
    where
      by : Head most x t (name0 n) ks (n + 1) → Got most x t (λ v e. g.Value x (suc l) n e v) ks n
      by (whole _ _ _ r) = not-whole r
      by (byte {b = c} {e = k} l₁ w q f a') = on (is? c 125)
        where
          on : (c ≡ 125) ⊎ (c ≡ 125 → ⊥) → Got most x t (λ v e. g.Value x (suc l) n e v) ks n
          on (inl e) =
              record {
                what = tree.obj n (k + 1) tree.empty;
                end = k + 1;
                low = omega arith;
                part = g.Value.empty-object o w (at e q);
                acc = acc-go q (st.name0-close most x k c e n ks) a';
              }
          on (inr d) =
              changed
              (backwards (length x) (Membs most x t l n ks) (members-at l val n ks h) (n + 1) tree.empty
              (ws⁺ w b-name1 (acc-like q (st.name0-else most x k c f d n ks) a'))) (omega arith)
              (λ v e (ms, z, es). object-of o z es)

  -- a bracket opens an array or a level too many
  open-array⁻ : (l : ℕ) → Below (Values most x t) l → (n b : ℕ) → At x n b → b ≡ 91 → (ks : List Frame) → length ks + l ≡ most → Acc most x t want ks n
      → Got most x t (λ v e. g.Value x l n e v) ks n
  open-array⁻ zero val n b q e ks h a = acc-deep q (st.deep-array most x n b e ks (omega arith)) a
  open-array⁻ (suc l) val n b q e ks h a = array⁻ l val n (at e q) ks (omega arith) (acc-go q (st.open_array most x n b e ks (omega arith)) a)

  -- a brace opens an object or a level too many
  open-object⁻ : (l : ℕ) → Below (Values most x t) l → (n b : ℕ) → At x n b → b ≡ 123 → (ks : List Frame) → length ks + l ≡ most → Acc most x t want ks n
      → Got most x t (λ v e. g.Value x l n e v) ks n
  open-object⁻ zero val n b q e ks h a = acc-deep q (st.deep-object most x n b e ks (omega arith)) a
  open-object⁻ (suc l) val n b q e ks h a = object⁻ l val n (at e q) ks (omega arith) (acc-go q (st.open-object most x n b e ks (omega arith)) a)

  -- the word true
  true⁻ : {l n b : ℕ} {ks : List Frame} → At x n b → b ≡ 116 → Acc most x t want ks n → Got most x t (λ v e. g.Value x l n e v) ks n
  unfolding ascii
  true⁻ {n = n} {b = b} {ks = ks} q i a =
      made (λ e. tree.bool n e true) (word⁻ n (option.some true) ks (ascii "rue") (acc-go q (st.want-t most x n b i ks) a)) (omega arith)
      (λ e z. g.Value.true' (g.Word.letter (at i q) z))

  -- the word false
  false⁻ : {l n b : ℕ} {ks : List Frame} → At x n b → b ≡ 102 → Acc most x t want ks n → Got most x t (λ v e. g.Value x l n e v) ks n
  unfolding ascii
  false⁻ {n = n} {b = b} {ks = ks} q i a =
      made (λ e. tree.bool n e false) (word⁻ n (option.some false) ks (ascii "alse") (acc-go q (st.want-f most x n b i ks) a)) (omega arith)
      (λ e z. g.Value.false' (g.Word.letter (at i q) z))

  -- the word null
  null⁻ : {l n b : ℕ} {ks : List Frame} → At x n b → b ≡ 110 → Acc most x t want ks n → Got most x t (λ v e. g.Value x l n e v) ks n
  unfolding ascii
  null⁻ {n = n} {b = b} {ks = ks} q i a =
      made (λ e. tree.null n e) (word⁻ n option.none ks (ascii "ull") (acc-go q (st.want-n most x n b i ks) a)) (omega arith)
      (λ e z. g.Value.null (g.Word.letter (at i q) z))

  -- a value, by what holds of those with one level less
  one⁻ : (l : ℕ) → Below (Values most x t) l → Values most x t l
  one⁻ l val n b q f ks h a = by (is? b 91) (is? b 123) (is? b 34) (is? b 45) (is? b 48) (which (is_digit b)) (is? b 116) (is? b 102) (is? b 110)
    where
      number : {n' : ℕ} → Then most x t (g.Number x n) (λ e. got (numeral most x n e)) ks n' → n ≤ n' → Got most x t (λ v e. g.Value x l n e v) ks n
      number i l₁ = made (λ e. numeral most x n e) i l₁ (λ e z. g.Value.number z)

      by : (b ≡ 91) ⊎ (b ≡ 91 → ⊥) → (b ≡ 123) ⊎ (b ≡ 123 → ⊥) → (b ≡ 34) ⊎ (b ≡ 34 → ⊥) → (b ≡ 45) ⊎ (b ≡ 45 → ⊥) → (b ≡ 48) ⊎ (b ≡ 48 → ⊥)
          → (true ≡ is_digit b) ⊎ (false ≡ is_digit b)
          → (b ≡ 116) ⊎ (b ≡ 116 → ⊥) → (b ≡ 102) ⊎ (b ≡ 102 → ⊥) → (b ≡ 110) ⊎ (b ≡ 110 → ⊥) → Got most x t (λ v e. g.Value x l n e v) ks n
      by (inl e) _ _ _ _ _ _ _ _ = open-array⁻ l val n b q e ks h a
      by (inr _) (inl e) _ _ _ _ _ _ _ = open-object⁻ l val n b q e ks h a
      by (inr _) (inr _) (inl e) _ _ _ _ _ _ =
          made _ (chars⁻ value n ks (acc-go q (st.want-quote most x n b e ks) a)) (omega arith) (λ m z. g.Value.string (at e q) z)
      by (inr _) (inr _) (inr _) (inl e) _ _ _ _ _ = number (neg⁻ n ks (at e q) (acc-go q (st.want-minus most x n b e ks) a)) (omega arith)
      by (inr _) (inr _) (inr _) (inr _) (inl e) _ _ _ _ =
          number (tail⁻ n ks {P = g.Number x n} (λ f m u v. g.Number.plus (g.Int.nought (at e q)) u v) (acc-go q (st.want-0 most x n b e ks) a)) (omega arith)
      by (inr _) (inr _) (inr _) (inr _) (inr d) (inl e) _ _ _ =
          let r = digit-range b e in
          number
          (whole⁻ n ks {P = g.Number x n} (λ i f m s u v. g.Number.plus (g.Int.digits q d e s) u v)
          (acc-go q (st.want-digit most x n b f d e r.0 r.1 ks) a)) (omega arith)
      by (inr _) (inr _) (inr _) (inr _) (inr _) (inr _) (inl e) _ _ = true⁻ q e a
      by (inr _) (inr _) (inr _) (inr _) (inr _) (inr _) (inr _) (inl e) _ = false⁻ q e a
      by (inr _) (inr _) (inr _) (inr _) (inr _) (inr _) (inr _) (inr _) (inl e) = null⁻ q e a
      by (inr h91) (inr h123) (inr h34) (inr h45) (inr h48) (inr d) (inr h116) (inr h102) (inr h110) =
          acc-dead q (st.want-no most x n b f h91 h123 h34 h45 h48 h116 h102 h110 d ks) a

  -- what is read is a text of the grammar
  pub parsed : Acc most x t want [] 0 → Text most x t
  parsed a = by (head b-want a)
    where
      end : {n : ℕ} → g.Ws x 0 n → (i : Got most x t (λ v e. g.Value x most n e v) [] n) → Head most x t (got i.what) [] i.end → Text most x t
      end w i (whole w' q _ r) = let z : i.what ≡ t = cc in rw (sym z) (g.Text.text w i.part (rw q at w'))
      end w i (byte {b = b} {e = k} _ _ q f a') = acc-dead q (st.got-end most x k b f i.what) a'

      by : Head most x t want [] 0 → Text most x t
      by (whole _ _ _ r) = not-whole r
      by (byte {b = b} {e = n} _ w q f a') = let i = by-levels (Values most x t) one⁻ most n b q f [] (omega arith) a' in end w i (head b-got i.acc)
