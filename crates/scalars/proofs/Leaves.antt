-- Values that hold no other.
use mathlib.Core.Path.{◌≡◌, refl, ◌∙◌}
use mathlib.Core.Bool.{true, false}
use mathlib.Core.Option.{some}
use mathlib.Core.Option as option
use mathlib.Core.List.{List, [], ◌∷◌}
use Prim.Native.Nat.{ℕ, ◌+◌, ◌-◌, ◌≤◌, ◌<◌}
use native.Mathlib.Omega.{arith}
use lib.ListN.{length, get_or}
use lib.Seq.{slice}
use borrow.Author.Tests.{ne_eqb}
use Rattle.utf8.specs.Ascii.{ascii, is_digit}
use Rattle.json_text.specs.Tree.{Json}
use Rattle.json_text.specs.Tree as tree
use Rattle.json_text.specs.Machine.{Frame, Mode, value, step, go, is_blank}
use Rattle.json_text.specs.Machine.Mode.{want, neg, nought, int, mant, chars}
use Rattle.json_text.specs.Table.{size, Words, Quoted, is_numeric, Sub, null, bool, num, str}
use Rattle.json_text.specs.Says.{Scan, Reads, Skips, digital, numbered, chars_of, closed_of, ReadsString, WordAt, literal_of, ReadsWord, Placed, Scalar, Digits}
use Rattle.std.specs.Prelude.{Ok, Err, Some, None}
use Rattle.json_text.specs.Steps.{nought-else, want-quote, want-minus, want-0, want-digit, want-t, want-f, want-n, want-no}
use Rattle.json_text.specs.Laws.{over-blank, is-digit, under-digit, over-digit}
use Rattle.json_text.proofs.Moves.{moves, dies}
use Rattle.json_text.proofs.Parts.{looks, int-digits, mant-done}

pub words_of : {x t : List ℕ} {i p e b n : ℕ} → Placed t i p e n → p < e → e ≤ length x → get_or x p 0 ≡ b → Words x t i p e b n
words_of w l h q = record { room = w.room; start = w.start; end = w.end; next = w.next; some = l; inside = h; byte = q }

pub quoted-of : {x t : List ℕ} {i p e : ℕ} → Placed t i p e (i + 3) → p + 2 ≤ e → e ≤ length x → get_or x p 0 ≡ 34 → Quoted x t i p e (slice (p + 1) (e - 1) x)
quoted-of w l h q = record { words = words_of w (omega arith) h q; quotes = l; between = refl }

-- a value that opens no level
module _ (x : List ℕ) (p : ℕ) (l : p < length x) where
  pub scalar-string : {r : Scan} → get_or x p 0 ≡ 34 → ReadsString x (p + 1) r → Scalar x p r
  unfolding Scalar chars_of closed_of size
  scalar-string {r = Ok e} b s =
      let w = s.past in
      record {
        value = tree.str p e (slice (p + 1) (e - 1) x);
        more = omega (arith, w.0);
        inside = w.1;
        width = refl;
        stands = λ t i w'. str (quoted-of w' (omega (arith, w.0)) w.1 b);
        goes = λ ks. moves x want ks p (chars value p) ks l (want-quote 32 x p _ b ks) ∙ s.reads.same (record { role = value; begun = p }) ks;
      }
  scalar-string {r = Err q} b s = λ ks. moves x want ks p (chars value p) ks l (want-quote 32 x p _ b ks) ∙ s.reads.same (record { role = value; begun = p }) ks

  scalar-numeral : {r : Scan} (m : ℕ → Mode) → true ≡ is_numeric (get_or x p 0) → ((ks : List Frame) → step 32 x want ks p (get_or x p 0) ≡ go (m p) ks) → Reads x m (numbered x) (p + 1) r → Scalar x p r
  unfolding Scalar numbered size
  scalar-numeral {r = Ok e} m d f s =
      let w = s.within in
      record {
        value = tree.num p e (slice p e x);
        more = omega (arith, w.0);
        inside = w.1;
        width = refl;
        stands = λ t i w'. num (words_of w' (omega (arith, w.0)) w.1 refl) d refl;
        goes = λ ks. moves x want ks p (m p) ks l (f ks) ∙ s.same p ks;
      }
  scalar-numeral {r = Err q} m d f s = λ ks. moves x want ks p (m p) ks l (f ks) ∙ s.same p ks

  pub scalar-minus : {r : Scan} → get_or x p 0 ≡ 45 → Reads x neg (numbered x) (p + 1) r → Scalar x p r
  unfolding is_numeric
  scalar-minus b s = scalar-numeral neg (rw b) (want-minus 32 x p _ b) s

  pub scalar-0 : {r : Scan} → get_or x p 0 ≡ 48 → Reads x nought (numbered x) (p + 1) r → Scalar x p r
  unfolding is_numeric is_digit
  scalar-0 b s = scalar-numeral nought (rw b) (want-0 32 x p _ b) s

  pub scalar-digit : {r : Scan} → false ≡ is_blank (get_or x p 0) → (get_or x p 0 ≡ 48 → ⊥) → 48 ≤ get_or x p 0 → get_or x p 0 < 58 → Reads x int (numbered x) (p + 1) r → Scalar x p r
  unfolding is_numeric
  scalar-digit w z lo hi s =
      scalar-numeral int (rw (ne_eqb (get_or x p 0) 45 (λ e. omega arith)) (is-digit (get_or x p 0) lo hi)) (want-digit 32 x p _ w z (is-digit (get_or x p 0) lo hi) lo (omega arith)) s

  scalar-word : {r : Scan} (ws : List ℕ) (s : WordAt) (v : (e : ℕ) → Json) → ((e : ℕ) → size (v e) ≡ 3)
      → ((e : ℕ) (t : List ℕ) (i : ℕ) → p < e → e ≤ length x → Placed t i p e (i + 3) → Sub x t i (v e))
      → ((e : ℕ) → literal_of [] s e ≡ Mode.got (v e))
      → ((ks : List Frame) → step 32 x want ks p (get_or x p 0) ≡ go (literal_of ws s (p + 1)) ks) → ReadsWord x ws (p + 1) r → Scalar x p r
  unfolding Scalar
  scalar-word {r = Ok e} ws s v z sub lit f h =
      let w = h.reads.within in
      record {
        value = v e;
        more = omega (arith, w.0);
        inside = w.1;
        width = z e;
        stands = λ t i w'. sub e t i (omega (arith, w.0)) w.1 w';
        goes = λ ks. moves x want ks p (literal_of ws s (p + 1)) ks l (f ks) ∙ h.reads.same s ks ∙ rw (lit e);
      }
  scalar-word {r = Err q} ws s v z sub lit f h = λ ks. moves x want ks p (literal_of ws s (p + 1)) ks l (f ks) ∙ h.reads.same s ks

  pub scalar-true : {r : Scan} → get_or x p 0 ≡ 116 → ReadsWord x (114 ∷ 117 ∷ 101 ∷ []) (p + 1) r → Scalar x p r
  unfolding literal_of ascii size
  scalar-true b h =
      scalar-word (114 ∷ 117 ∷ 101 ∷ []) (record { begun = p; meant = some true }) (λ e. tree.bool p e true) (λ e. refl) (λ e t i a c w. bool (words_of w a c b)) (λ e. refl) (want-t 32 x p _ b) h

  pub scalar-false : {r : Scan} → get_or x p 0 ≡ 102 → ReadsWord x (97 ∷ 108 ∷ 115 ∷ 101 ∷ []) (p + 1) r → Scalar x p r
  unfolding literal_of ascii size
  scalar-false b h =
      scalar-word (97 ∷ 108 ∷ 115 ∷ 101 ∷ []) (record { begun = p; meant = some false }) (λ e. tree.bool p e false) (λ e. refl) (λ e t i a c w. bool (words_of w a c b)) (λ e. refl) (want-f 32 x p _ b)
      h

  pub scalar-null : {r : Scan} → get_or x p 0 ≡ 110 → ReadsWord x (117 ∷ 108 ∷ 108 ∷ []) (p + 1) r → Scalar x p r
  unfolding literal_of ascii size
  scalar-null b h =
      scalar-word (117 ∷ 108 ∷ 108 ∷ []) (record { begun = p; meant = option.none }) (λ e. tree.null p e) (λ e. refl) (λ e t i a c w. null (words_of w a c b)) (λ e. refl) (want-n 32 x p _ b) h

  module _ (w : false ≡ is_blank (get_or x p 0)) (h91 : get_or x p 0 ≡ 91 → ⊥) (h123 : get_or x p 0 ≡ 123 → ⊥) (h34 : get_or x p 0 ≡ 34 → ⊥) (h45 : get_or x p 0 ≡ 45 → ⊥) (h48 : get_or x p 0 ≡ 48 → ⊥)
      (h116 : get_or x p 0 ≡ 116 → ⊥) (h102 : get_or x p 0 ≡ 102 → ⊥) (h110 : get_or x p 0 ≡ 110 → ⊥) where
    pub scalar-low : get_or x p 0 < 48 → Scalar x p (Err (record { at = p }))
    unfolding Scalar
    scalar-low h = λ ks. dies x want ks p l (want-no 32 x p _ w h91 h123 h34 h45 h48 h116 h102 h110 (under-digit (get_or x p 0) h) ks)

    pub scalar-high : 58 ≤ get_or x p 0 → Scalar x p (Err (record { at = p }))
    unfolding Scalar
    scalar-high h = λ ks. dies x want ks p l (want-no 32 x p _ w h91 h123 h34 h45 h48 h116 h102 h110 (over-digit (get_or x p 0) h) ks)

-- an integer that is written with digits alone: none is found, or the byte after its digits goes on with no fraction and no exponent
pub digits-no : (x : List ℕ) (p : ℕ) → Digits x p None
digits-no x p = record { leaf = tt }

pub digits-yes : (x : List ℕ) (p e : ℕ) → p < length x → 49 ≤ get_or x p 0 → get_or x p 0 ≤ 57 → Skips digital is_digit x (p + 1) e → e < length x → (get_or x e 0 ≡ 46 → ⊥) → (get_or x e 0 ≡ 101 → ⊥)
    → (get_or x e 0 ≡ 69 → ⊥) → Digits x p (Some e)
unfolding Scalar
digits-yes x p e l lo hi s m d h g =
    let r : Reads x int (numbered x) (p + 1) (Ok e) = int-digits s (looks nought mant (numbered x) m (nought-else 32 x e _ d) (mant-done m h g)) in
    let v : Scalar x p (Ok e) = scalar-digit x p l (over-blank (get_or x p 0) (omega arith)) (λ z. omega arith) (omega arith) (omega arith) r in
    record { leaf = v }
