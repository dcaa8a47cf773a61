-- RFC 8259's grammar over the bytes of a text x, each rule as a relation between two offsets: `Ws n m` says that white space stands from n up to m.
-- `Value l n m v` says that a value stands there, that it opens at most l levels, and that its tree is v.
use Rattle.std.specs.Prelude.{◌≡◌, ℕ, suc, ◌+◌, ◌-◌, ◌<◌, ◌≤◌, true, false, ◌⊎◌, List, [], ◌∷◌, ◌++◌, length, ◌≢◌, slice_index_or}
use Rattle.std.proofs.Math.Seq.{slice}
use Rattle.utf8.specs.Ascii.{ascii, is_digit}
use Rattle.json_text.specs.Tree.{Json, Items, ◌▸◌, member, Name}
use Rattle.json_text.specs.Tree as tree
use Rattle.json_text.specs.Machine.{is_blank, is_hex, is_escape}

-- the byte b stands at n
pub record At (x : List ℕ) (n b : ℕ) : Type 0 where
  pub inside : n < length x
  pub byte : slice_index_or x n 0 ≡ b

-- ws = *( %x20 / %x09 / %x0A / %x0D )
pub data Ws (x : List ℕ) : ℕ → ℕ → Type 0 where
  end : {n : ℕ} → Ws x n n
  more : {n m b : ℕ} → At x n b → true ≡ is_blank b → Ws x (n + 1) m → Ws x n m

-- *DIGIT
pub data Digits (x : List ℕ) : ℕ → ℕ → Type 0 where
  end : {n : ℕ} → Digits x n n
  more : {n m b : ℕ} → At x n b → true ≡ is_digit b → Digits x (n + 1) m → Digits x n m

-- 1*DIGIT
pub data Some (x : List ℕ) : ℕ → ℕ → Type 0 where
  some : {n m b : ℕ} → At x n b → true ≡ is_digit b → Digits x (n + 1) m → Some x n m

-- *char quotation-mark
pub data Chars (x : List ℕ) : ℕ → ℕ → Type 0 where
  quote : {n : ℕ} → At x n 34 → Chars x n (n + 1)
  plain : {n m b : ℕ} → At x n b → (b ≢ 34) → (b ≢ 92) → 32 ≤ b → Chars x (n + 1) m → Chars x n m
  short : {n m b : ℕ} → At x n 92 → At x (n + 1) b → true ≡ is_escape b → Chars x (n + 2) m → Chars x n m
  long : {n m a b c d : ℕ} → At x n 92 → At x (n + 1) 117 → At x (n + 2) a → At x (n + 3) b → At x (n + 4) c → At x (n + 5) d
      → true ≡ is_hex a → true ≡ is_hex b → true ≡ is_hex c → true ≡ is_hex d → Chars x (n + 6) m → Chars x n m

-- int = zero / ( digit1-9 *DIGIT )
pub data Int (x : List ℕ) : ℕ → ℕ → Type 0 where
  nought : {n : ℕ} → At x n 48 → Int x n (n + 1)
  digits : {n m b : ℕ} → At x n b → (b ≢ 48) → true ≡ is_digit b → Digits x (n + 1) m → Int x n m

-- [ frac ], frac = decimal-point 1*DIGIT
pub data Frac (x : List ℕ) : ℕ → ℕ → Type 0 where
  absent : {n : ℕ} → Frac x n n
  frac : {n m : ℕ} → At x n 46 → Some x (n + 1) m → Frac x n m

-- [ minus / plus ]
pub data Sign (x : List ℕ) : ℕ → ℕ → Type 0 where
  absent : {n : ℕ} → Sign x n n
  plus : {n : ℕ} → At x n 43 → Sign x n (n + 1)
  minus : {n : ℕ} → At x n 45 → Sign x n (n + 1)

-- [ exp ], exp = e [ minus / plus ] 1*DIGIT
pub data Exp (x : List ℕ) : ℕ → ℕ → Type 0 where
  absent : {n : ℕ} → Exp x n n
  exp : {n k m b : ℕ} → At x n b → (b ≡ 101) ⊎ (b ≡ 69) → Sign x (n + 1) k → Some x k m → Exp x n m

-- number = [ minus ] int [ frac ] [ exp ]
pub data Number (x : List ℕ) : ℕ → ℕ → Type 0 where
  plus : {n i f m : ℕ} → Int x n i → Frac x i f → Exp x f m → Number x n m
  minus : {n i f m : ℕ} → At x n 45 → Int x (n + 1) i → Frac x i f → Exp x f m → Number x n m

-- the bytes of a word
pub data Word (x : List ℕ) : List ℕ → ℕ → ℕ → Type 0 where
  end : {n : ℕ} → Word x [] n n
  letter : {n m w : ℕ} {ws : List ℕ} → At x n w → Word x ws (n + 1) m → Word x (w ∷ ws) n m

-- the name that stands from p to e, with p as its place
abbrev pub name_at : List ℕ → ℕ → ℕ → Name
name_at x p e = record { place = p; end = e; raw = slice (p + 1) (e - 1) x }

mutual
  -- '"Value" and "name" places are the offset of the first byte': p
  pub data Value (x : List ℕ) : ℕ → ℕ → ℕ → Json → Type 0 where
    string : {l p e : ℕ} → At x p 34 → Chars x (p + 1) e → Value x l p e (tree.str p e (slice (p + 1) (e - 1) x))
    number : {l p e : ℕ} → Number x p e → Value x l p e (tree.num p e (slice p e x))
    true' : {l p e : ℕ} → Word x (ascii "true") p e → Value x l p e (tree.bool p e true)
    false' : {l p e : ℕ} → Word x (ascii "false") p e → Value x l p e (tree.bool p e false)
    null : {l p e : ℕ} → Word x (ascii "null") p e → Value x l p e (tree.null p e)
    empty-array : {l p n : ℕ} → At x p 91 → Ws x (p + 1) n → At x n 93 → Value x (suc l) p (n + 1) (tree.arr p (n + 1) tree.no_items)
    array : {l p e : ℕ} {vs : Items} → At x p 91 → Elements x l (p + 1) e vs → Value x (suc l) p e (tree.arr p e vs)
    empty-object : {l p n : ℕ} → At x p 123 → Ws x (p + 1) n → At x n 125 → Value x (suc l) p (n + 1) (tree.obj p (n + 1) tree.empty)
    object : {l p e : ℕ} {ms : tree.Members} → At x p 123 → Members x l (p + 1) e ms → Value x (suc l) p e (tree.obj p e ms)

  -- ws value ws, then a comma and more, or the bracket
  pub data Elements (x : List ℕ) : ℕ → ℕ → ℕ → Items → Type 0 where
    last : {l n p e k : ℕ} {v : Json} → Ws x n p → Value x l p e v → Ws x e k → At x k 93 → Elements x l n (k + 1) (v ▸ tree.no_items)
    next : {l n p e k m : ℕ} {v : Json} {vs : Items} → Ws x n p → Value x l p e v → Ws x e k → At x k 44 → Elements x l (k + 1) m vs → Elements x l n m (v ▸ vs)

  -- ws string ws : ws value ws, then a comma and more, or the brace
  pub data Members (x : List ℕ) : ℕ → ℕ → ℕ → tree.Members → Type 0 where
    last-member : {l n q f c p e k : ℕ} {v : Json} → Ws x n q → At x q 34 → Chars x (q + 1) f → Ws x f c → At x c 58 → Ws x (c + 1) p → Value x l p e v
        → Ws x e k → At x k 125
        → Members x l n (k + 1) (member (name_at x q f) v tree.empty)
    next-member : {l n q f c p e k m : ℕ} {v : Json} {ms : tree.Members} → Ws x n q → At x q 34 → Chars x (q + 1) f → Ws x f c → At x c 58 → Ws x (c + 1) p
        → Value x l p e v → Ws x e k → At x k 44
        → Members x l (k + 1) m ms → Members x l n m (member (name_at x q f) v ms)

-- "JSON is RFC 8259": JSON-text = ws value ws, of at most l levels, with its tree
pub data Text (l : ℕ) (x : List ℕ) : Json → Type 0 where
  text : {n m : ℕ} {v : Json} → Ws x 0 n → Value x l n m v → Ws x m (length x) → Text l x v

-- the bytes y begin some JSON text of at most l levels
abbrev pub Begins : ℕ → List ℕ → Type 0
Begins l y = (u : List ℕ) × (v : Json) × Text l (y ++ u) v
