-- Nodes that hold no other: what is written, and the values and names that it stands for.
use mathlib.Core.Path.{◌≡◌, refl, ◌∙◌}
use mathlib.Core.Bool.{Bool, true}
use mathlib.Core.List.{List}
use Prim.Native.Nat.{ℕ, ◌+◌, ◌-◌, ◌^◌, ◌≤◌, ◌<◌}
use native.Mathlib.Omega.{arith}
use lib.ListN.{length, get_or, set, length-set}
use lib.Seq.{get_or-set_same, get_or-set_other, slice}
use borrow.Author.Tests.{ltb-true}
use lib.Dec.{ltb}
use Rattle.utf8.specs.Ascii.{ascii}
use Rattle.utf8.specs.Finite.{each_below}
use Rattle.json_text.specs.Tree.{Members}
use Rattle.json_text.specs.Machine.{Frame, is_blank}
use Rattle.json_text.specs.Machine.Role.{name}
use Rattle.json_text.specs.Machine.Mode.{name1, colon, chars}
use Rattle.json_text.specs.Says.{Scan, from, Stays, Skips, blanks, chars_of, closed_of, ReadsString, Unescaped, type_start, Typed, Placed, Scalar}
use Rattle.std.specs.Prelude.{Ok, Err}
use Rattle.json_text.specs.declared.BadByte.{BadByte}
use Rattle.json_text.specs.Steps.{name-quote, name-no, colon-yes, colon-no}
use Rattle.json_text.specs.Laws.{over-blank}
use Rattle.json_text.proofs.Moves.{moves, dies, short, stays-none}
use Rattle.json_text.proofs.Parts.{string-start, string-run, string-shut}
use Rattle.scalars.proofs.Leaves.{quoted-of, scalar-string}
use Rattle.parser.specs.Says.{Fits, Wrote, Quote, Ready, Atom, Colons, Names, Then}
use Rattle.parser.specs.declared.Stop.TheVariants.{Bad}

-- three words are written at n
pub three : (t₀ : List ℕ) (n u v w : ℕ) → n + 2 < length t₀ → Wrote t₀ (set (set (set t₀ n u) (n + 1) v) (n + 2) w) n u v w
three t₀ n u v w h =
    let t₁ = set t₀ n u in
    let t₂ = set t₁ (n + 1) v in
    let t₃ = set t₂ (n + 2) w in
    let l₁ : length t₁ ≡ length t₀ = length-set t₀ n u in
    let l₂ : length t₂ ≡ length t₁ = length-set t₁ (n + 1) v in
    let l₃ : length t₃ ≡ length t₂ = length-set t₂ (n + 2) w in
    let o₁ : (k : ℕ) → (k ≡ n → ⊥) → get_or t₁ k 0 ≡ get_or t₀ k 0 = λ k f. get_or-set_other t₀ n k u 0 f in
    let o₂ : (k : ℕ) → (k ≡ n + 1 → ⊥) → get_or t₂ k 0 ≡ get_or t₁ k 0 = λ k f. get_or-set_other t₁ (n + 1) k v 0 f in
    let o₃ : (k : ℕ) → (k ≡ n + 2 → ⊥) → get_or t₃ k 0 ≡ get_or t₂ k 0 = λ k f. get_or-set_other t₂ (n + 2) k w 0 f in
    let p : Placed t₃ n u v w = record {
      room = omega arith;
      start = o₃ n (omega arith) ∙ o₂ n (omega arith) ∙ get_or-set_same t₀ n u 0 (omega arith);
      end = o₃ (n + 1) (omega arith) ∙ get_or-set_same t₁ (n + 1) v 0 (omega arith);
      next = get_or-set_same t₂ (n + 2) w 0 (omega arith);
    } in
    record {
      placed = p;
      long = l₃ ∙ l₂ ∙ l₁;
      below = λ k b. o₃ k (omega arith) ∙ o₂ k (omega arith) ∙ o₁ k (omega arith);
      above = λ k b. o₃ k (omega arith) ∙ o₂ k (omega arith) ∙ o₁ k (omega arith);
    }

-- the node of a value that opens no level
module _ (x : List ℕ) (at : ℕ) where
  pub atom-fits : {t : List ℕ} {n e : ℕ} → Scalar x at (Ok e) → Ready x t at 0 32 n → Fits t n at e (n + 3)
  unfolding Scalar
  atom-fits f k =
      record {
        room = omega (arith, f.more, f.inside, k.words, k.fits);
        start = omega (arith, f.more, f.inside, k.texts);
        end = omega (arith, f.inside, k.texts);
        next = omega (arith, f.more, f.inside, k.texts, k.fits);
      }

  pub atom-read : {t₀ t : List ℕ} {n e : ℕ} → Scalar x at (Ok e) → Wrote t₀ t n at e (n + 3) → Atom x t₀ t at n (Ok (record { end = e; free = n + 3 }))
  unfolding Atom Scalar
  atom-read f w = record { leaf = f; wrote = w; width = refl }

  pub atom-bad : (t₀ t : List ℕ) (n : ℕ) (b : BadByte) → Scalar x at (Err b) → Atom x t₀ t at n (Err (Bad b.at))
  unfolding Atom Scalar
  atom-bad t₀ t n b f = f

-- a string as a value
pub text-scalar : {x : List ℕ} {at : ℕ} {r : Scan} → Quote x at → ReadsString x (at + 1) r → Scalar x at r
text-scalar {x} {at} b s = scalar-string x at b.there b.byte s

-- a colon, at once or after blanks
module _ (x : List ℕ) (at : ℕ) where
  colon-at : {i : ℕ} → Stays blanks x at i → i < length x → get_or x i 0 ≡ 58 → Colons x at (Ok (i + 1))
  unfolding Colons
  colon-at {i} y h c = record {
    goes = λ p ms key ks. y.same _ tt ks ∙ moves x _ ks i _ _ h (colon-yes 32 x i _ c p ms _ ks);
    more = omega (arith, y.low);
    inside = omega arith;
  }

  pub colon-once : at < length x → get_or x at 0 ≡ 58 → Colons x at (Ok (at + 1))
  colon-once h c = colon-at (stays-none blanks x at (omega arith)) h c

  module _ {i : ℕ} (k : Skips blanks is_blank x at i) where
    pub colon-out : {b : BadByte} → length x ≤ i → b.at ≡ i → Colons x at (Err b)
    unfolding Colons
    colon-out h e = λ p ms key ks. rw e (k.stays.same _ tt ks ∙ short x _ ks i refl h)

    pub colon-wrong : i < length x → (get_or x i 0 ≡ 58 → ⊥) → Colons x at (Err (record { at = i }))
    unfolding Colons
    colon-wrong h c = λ p ms key ks. k.stays.same _ tt ks ∙ dies x _ ks i h (colon-no 32 x i _ (k.stop h) c p ms _ ks)

    pub colon-there : i < length x → get_or x i 0 ≡ 58 → Colons x at (Ok (i + 1))
    colon-there h c = colon-at k.stays h c

-- a name, after the blanks before it
pub string-small : {x : List ℕ} {at e : ℕ} → ReadsString x at (Ok e) → length x ≤ 65535 → e < 2 ^ 32
string-small s l = let w = s.past in omega (arith, w.1)

module _ {x : List ℕ} {at i : ℕ} (k : Skips blanks is_blank x at i) where
  pub name_out : (t₀ t : List ℕ) (n : ℕ) {b : BadByte} → length x ≤ i → b.at ≡ i → Names x t₀ t at n (Err b)
  unfolding Names
  name_out t₀ t n l e = λ p ms ks. rw e (k.stays.same (name1 p ms) tt ks ∙ short x (name1 p ms) ks i refl l)

  pub name-wrong : (t₀ t : List ℕ) (n : ℕ) → i < length x → (get_or x i 0 ≡ 34 → ⊥) → Names x t₀ t at n (Err (record { at = i }))
  unfolding Names
  name-wrong t₀ t n l h = λ p ms ks. k.stays.same (name1 p ms) tt ks ∙ dies x (name1 p ms) ks i l (name-no 32 x i _ (k.stop l) h p ms ks)

  module _ (l : i < length x) (b : get_or x i 0 ≡ 34) where
    pub name-break : (t₀ t : List ℕ) (n : ℕ) {q : BadByte} → ReadsString x (i + 1) (Err q) → Names x t₀ t at n (Err q)
    unfolding Names chars_of
    name-break t₀ t n s =
        λ p ms ks. k.stays.same (name1 p ms) tt ks ∙ moves x (name1 p ms) ks i (chars (name p ms) i) ks l (name-quote 32 x i _ b p ms ks)
        ∙ s.reads.same (record { role = name p ms; begun = i }) ks

    module _ {e : ℕ} (s : ReadsString x (i + 1) (Ok e)) where
      called : (p : ℕ) (ms : Members) (ks : List Frame) → from x (name1 p ms) ks at ≡ from x (colon p ms (record { place = i; end = e; raw = slice (i + 1) (e - 1) x })) ks e
      unfolding chars_of closed_of
      called p ms ks =
          k.stays.same (name1 p ms) tt ks ∙ moves x (name1 p ms) ks i (chars (name p ms) i) ks l (name-quote 32 x i _ b p ms ks)
          ∙ s.reads.same (record { role = name p ms; begun = i }) ks

      -- and its colon
      pub named : (t₀ t : List ℕ) (n : ℕ) (v : Scan) → Wrote t₀ t n i e (n + 3) → Colons x e v → Names x t₀ t at n v
      unfolding Names Colons
      named t₀ t n (Err p) w y = λ p ms ks. called p ms ks ∙ y p ms _ ks
      named t₀ t n (Ok j) w y =
          let lo = s.past in
          record {
            key = record { place = i; end = e; raw = slice (i + 1) (e - 1) x };
            stands = quoted-of w.placed (omega (arith, lo.0)) lo.1 b;
            goes = λ p ms ks. called p ms ks ∙ y.goes p ms _ ks;
            more = omega (arith, k.stays.low, y.more, lo.0);
            inside = y.inside;
            long = w.long;
            below = w.below;
            above = w.above;
          }

-- a comma is no white space
pub comma-once : {text : List ℕ} {at : ℕ} → at < length text → get_or text at 0 ≡ 44 → Then text at 44 at
comma-once {text} {at} h b =
    record {
      skips = record { stays = stays-none blanks text at (omega arith); stop = λ l. over-blank (get_or text at 0) (omega arith) };
      there = h;
      byte = b;
    }

-- a quote is no white space
pub at-quote : {text : List ℕ} {at : ℕ} → at ≤ length text → get_or text at 0 ≡ 34 → Skips blanks is_blank text at at
at-quote {text} {at} h b = record { stays = stays-none blanks text at h; stop = λ l. over-blank (get_or text at 0) (omega arith) }

-- the name that `is_type` found, and its colon
letter : (j : ℕ) → j < 4 → Unescaped (get_or type_start (1 + j) 0)
unfolding ascii
letter j l =
    let h = ltb-true 92 (get_or type_start (1 + j) 0) (each_below (λ j. ltb 92 (get_or type_start (1 + j) 0)) 4 j refl l) in
    record { no-quote = λ e. omega arith; no-backslash = λ e. omega arith; no-control = omega arith }

module _ {x : List ℕ} {at : ℕ} {r : Bool} (k : Typed x at r) (q : r ≡ true) where
  type-string : ReadsString x (at + 1) (Ok (at + 6))
  unfolding ascii
  type-string =
      let h = k.inside q in
      let u : (j : ℕ) → j < 4 → Unescaped (get_or x (at + 1 + j) 0) = λ j l. let e : at + 1 + j ≡ at + (1 + j) = omega arith in rw (e, k.same q (1 + j) (omega arith)) (letter j l) in
      let e : at + 1 + 4 ≡ at + 5 = omega arith in
      let f : at + 5 + 1 ≡ at + 6 = omega arith in
      rw f at (string-shut (rw e at (string-run {text = x} {at = at + 1} {i = at + 1} (string-start (omega arith)) 4 (omega arith) u)) (omega arith) (k.same q 5 (omega arith)))

  pub type-fits : {t : List ℕ} {n : ℕ} → Ready x t at 0 32 n → Fits t n at (at + 6) (n + 3)
  type-fits y = let h = k.inside q in record { room = omega (arith, y.words, y.fits); start = omega (arith, y.texts); end = omega (arith, y.texts); next = omega (arith, y.texts, y.fits) }

  pub type-named : (t₀ t : List ℕ) (n : ℕ) → Wrote t₀ t n at (at + 6) (n + 3) → Names x t₀ t at n (Ok (at + 7))
  unfolding ascii
  type-named t₀ t n w =
      let h = k.inside q in
      let z : at + 0 ≡ at = omega arith in
      let b : get_or x at 0 ≡ 34 = rw z at (k.same q 0 (omega arith)) in
      let f : at + 6 + 1 ≡ at + 7 = omega arith in
      rw f at (named (at-quote (omega arith) b) (omega arith) b type-string t₀ t n _ w (colon-once x (at + 6) (omega arith) (k.same q 6 (omega arith))))
