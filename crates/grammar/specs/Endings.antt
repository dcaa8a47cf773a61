-- Every mode that the machine comes to can be ended by some bytes, so that a whole text is read.
use Prim.{Unit}
use Prim.Native.Nat.{ℕ, zero, suc, ◌+◌}
use Rattle.std.specs.Prelude.{◌≡◌, Bool}
use Rattle.std.proofs.Math.Path.{refl}
use Rattle.std.proofs.Math.Option.{Option}
use mathlib.Core.List.{List, [], ◌∷◌, ◌++◌}
use Rattle.utf8.specs.Ascii.{is_digit}
use Rattle.json_text.specs.Tree.{Json, Members, Name, ◌◂◌, with}
use Rattle.json_text.specs.Tree as tree
use Rattle.json_text.specs.Machine.{Frame, array, object, Role, value, Mode, go, reads, run, step, got_step, mant_step, nought_step, is_blank, is_hex, is_escape, numeral}
use Rattle.json_text.specs.Machine.Role.{name}
use Rattle.json_text.specs.Machine.Mode.{want, first, name0, name1, colon, got, chars, esc, hex, neg, nought, int, dot, frac, mant, exp, sign, exps, lit}
use Rattle.json_text.specs.Steps as st
use Rattle.grammar.specs.Derived.{spelled, lit-yes}

-- the bytes that close what is open
abbrev pub closers : List Frame → List ℕ
closers [] = []
closers (array p vs ∷ ks) = 93 ∷ closers ks
closers (object p ms k ∷ ks) = 125 ∷ closers ks

-- :""} and the closers, after a name
abbrev named : List Frame → List ℕ
named ks = 58 ∷ 34 ∷ 34 ∷ 125 ∷ closers ks

-- the end of a string
abbrev quoted : Role → List Frame → List ℕ
quoted value ks = 34 ∷ closers ks
quoted (name p ms) ks = 34 ∷ named ks

-- hexadecimal digits
abbrev zeros : ℕ → List ℕ → List ℕ
zeros zero u = 48 ∷ u
zeros (suc j) u = 48 ∷ zeros j u

-- bytes that end a text in the mode m with ks open
abbrev pub rest : Mode → List Frame → List ℕ
rest want ks = 34 ∷ 34 ∷ closers ks
rest (first p) ks = 93 ∷ closers ks
rest (name0 p) ks = 125 ∷ closers ks
rest (name1 p ms) ks = 34 ∷ 34 ∷ named ks
rest (colon p ms k) ks = named ks
rest (got v) ks = closers ks
rest (chars k p) ks = quoted k ks
rest (esc k p) ks = 110 ∷ quoted k ks
rest (hex k p j) ks = zeros j (quoted k ks)
rest (neg p) ks = 48 ∷ 32 ∷ closers ks
rest (nought p) ks = 32 ∷ closers ks
rest (int p) ks = 32 ∷ closers ks
rest (dot p) ks = 48 ∷ 32 ∷ closers ks
rest (frac p) ks = 32 ∷ closers ks
rest (mant p) ks = 32 ∷ closers ks
rest (exp p) ks = 48 ∷ 32 ∷ closers ks
rest (sign p) ks = 48 ∷ 32 ∷ closers ks
rest (exps p) ks = 32 ∷ closers ks
rest (lit p o ws) ks = ws ++ closers ks

-- a word that is still to come has a byte
abbrev Letters : List ℕ → Type 0
Letters [] = ⊥
Letters (w ∷ ws) = Unit

-- for each mode
abbrev pub Spelt : Mode → Type 0
Spelt want = Unit
Spelt (first p) = Unit
Spelt (name0 p) = Unit
Spelt (name1 p ms) = Unit
Spelt (colon p ms k) = Unit
Spelt (got v) = Unit
Spelt (chars k p) = Unit
Spelt (esc k p) = Unit
Spelt (hex k p j) = Unit
Spelt (neg p) = Unit
Spelt (nought p) = Unit
Spelt (int p) = Unit
Spelt (dot p) = Unit
Spelt (frac p) = Unit
Spelt (mant p) = Unit
Spelt (exp p) = Unit
Spelt (sign p) = Unit
Spelt (exps p) = Unit
Spelt (lit p o ws) = Letters ws

-- in the mode m with ks open, the bytes u from n on end the text
pub record Ends (most : ℕ) (x : List ℕ) (m : Mode) (ks : List Frame) (n : ℕ) (u : List ℕ) : Type 0 where
  pub tree : Json
  pub runs : run most x m ks n u ≡ reads tree

-- one byte more in front
by_byte : {most : ℕ} {x : List ℕ} {m m' : Mode} {ks ks' : List Frame} {n b : ℕ} {u : List ℕ} → step most x m ks n b ≡ go m' ks' → Ends most x m' ks' (n + 1) u
    → Ends most x m ks n (b ∷ u)
unfolding run
by_byte e h = record { tree = h.tree; runs = rw e h.runs }

module _ (most : ℕ) (x : List ℕ) where
  -- after a value
  ends-got : (v : Json) (ks : List Frame) (n : ℕ) → Ends most x (got v) ks n (closers ks)
  unfolding run
  ends-got v [] n = record { tree = v; runs = refl }
  ends-got v (array p vs ∷ ks) n = by_byte (st.array-close most x n 93 v p vs ks refl) (ends-got (tree.Json.arr p (n + 1) (vs ◂ v)) ks (n + 1))
  ends-got v (object p ms k ∷ ks) n = by_byte (st.object-close most x n 125 v p ms k ks refl) (ends-got (tree.Json.obj p (n + 1) (with ms k v)) ks (n + 1))

  -- after a name
  ends-colon : (p : ℕ) (ms : Members) (k : Name) (ks : List Frame) (n : ℕ) → Ends most x (colon p ms k) ks n (named ks)
  ends-colon p ms k ks n =
      by_byte (st.colon-yes most x n 58 refl p ms k ks)
      (by_byte (st.want-quote most x (n + 1) 34 refl (object p ms k ∷ ks))
      (by_byte (st.chars-quote most x (n + 1 + 1) 34 refl value (n + 1) (object p ms k ∷ ks)) (ends-got _ (object p ms k ∷ ks) _)))

  -- in a string
  ends-chars : (k : Role) (p : ℕ) (ks : List Frame) (n : ℕ) → Ends most x (chars k p) ks n (quoted k ks)
  ends-chars value p ks n = by_byte (st.chars-quote most x n 34 refl value p ks) (ends-got _ ks _)
  ends-chars (name o ms) p ks n = by_byte (st.chars-quote most x n 34 refl (name o ms) p ks) (ends-colon o ms _ ks _)

  -- in an escape
  ends-hex : (j : ℕ) (k : Role) (p : ℕ) (ks : List Frame) (n : ℕ) → Ends most x (hex k p j) ks n (zeros j (quoted k ks))
  unfolding is_hex
  ends-hex zero k p ks n = by_byte (st.hex-yes most x n 48 refl k p zero ks) (ends-chars k p ks _)
  ends-hex (suc j) k p ks n = by_byte (st.hex-yes most x n 48 refl k p (suc j) ks) (ends-hex j k p ks _)

  -- in a word, and after it
  ends-spelled : (p : ℕ) (o : Option Bool) (ws : List ℕ) (ks : List Frame) (n : ℕ) → Ends most x (spelled p o ws n) ks n (ws ++ closers ks)
  ends-spelled p o [] ks n = ends-got _ ks n
  ends-spelled p o (w ∷ ws) ks n = by_byte (lit-yes most x w ws p o ks n) (ends-spelled p o ws ks _)

  -- after a numeral
  ends-numeral : {m : Mode} (p : ℕ) (ks : List Frame) (n : ℕ) → step most x m ks n 32 ≡ go (got (numeral most x p n)) ks → Ends most x m ks n (32 ∷ closers ks)
  ends-numeral p ks n e = by_byte e (ends-got _ ks _)

  -- in a word
  ends-word : (p : ℕ) (o : Option Bool) (ws : List ℕ) → Letters ws → (ks : List Frame) (n : ℕ) → Ends most x (lit p o ws) ks n (ws ++ closers ks)
  ends-word p o [] h ks n = absurd h
  ends-word p o (w ∷ ws) h ks n = ends-spelled p o (w ∷ ws) ks n

  -- in any mode
  pub endable : (m : Mode) (ks : List Frame) (n : ℕ) → Spelt m → Ends most x m ks n (rest m ks)
  unfolding step got_step mant_step nought_step is_blank is_digit is_escape
  endable want ks n h = by_byte (st.want-quote most x n 34 refl ks) (ends-chars value _ ks _)
  endable (first p) ks n h = by_byte (st.first-close most x n 93 refl p ks) (ends-got _ ks _)
  endable (name0 p) ks n h = by_byte (st.name0-close most x n 125 refl p ks) (ends-got _ ks _)
  endable (name1 p ms) ks n h = by_byte (st.name-quote most x n 34 refl p ms ks) (ends-chars (name p ms) _ ks _)
  endable (colon p ms k) ks n h = ends-colon p ms k ks n
  endable (got v) ks n h = ends-got v ks n
  endable (chars k p) ks n h = ends-chars k p ks n
  endable (esc k p) ks n h = by_byte (st.esc-yes most x n 110 refl k p ks) (ends-chars k p ks _)
  endable (hex k p j) ks n h = ends-hex j k p ks n
  endable (neg p) ks n h = by_byte (st.neg-0 most x n 48 refl p ks) (ends-numeral p ks _ refl)
  endable (nought p) ks n h = ends-numeral p ks n refl
  endable (int p) ks n h = ends-numeral p ks n refl
  endable (dot p) ks n h = by_byte (st.dot-yes most x n 48 refl p ks) (ends-numeral p ks _ refl)
  endable (frac p) ks n h = ends-numeral p ks n refl
  endable (mant p) ks n h = ends-numeral p ks n refl
  endable (exp p) ks n h = by_byte {m' = exps p} {ks' = ks} refl (ends-numeral p ks _ refl)
  endable (sign p) ks n h = by_byte (st.sign-yes most x n 48 refl p ks) (ends-numeral p ks _ refl)
  endable (exps p) ks n h = ends-numeral p ks n refl
  endable (lit p o ws) ks n h = ends-word p o ws h ks n
