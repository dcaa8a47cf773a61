-- A trie of texts in a list t of words, five for each entry. An entry is a number; 0 is the root, and none.
use Rattle.std.specs.Prelude.{ℕ, ◌+◌, ◌*◌, ◌/◌, ◌%◌, ◌≤◌, ◌<◌, ◌≡◌, List, [], ◌∷◌, length, get_or, Option, IfSome}
use Rattle.trie.specs.declared.Place.{Place}

-- the words of the entry e after its three slots: the byte that leads to it, and its value
abbrev pub byte_of : List ℕ → ℕ → ℕ
byte_of t e = get_or t (e * 5 + 3) 0

abbrev pub value_of : List ℕ → ℕ → ℕ
value_of t e = get_or t (e * 5 + 4) 0

-- the search for the byte b, of which the bits m are left, goes from the slot q to the slot z: that holds the entry to which b leads, or 0
pub data Meets (t : List ℕ) (c b : ℕ) : ℕ → ℕ → ℕ → Type 0 where
  none : {q m : ℕ} → q < c * 5 → get_or t q 0 ≡ 0 → Meets t c b q m q
  here : {q m : ℕ} → q < c * 5 → get_or t q 0 < c → (get_or t q 0 ≡ 0 → ⊥) → byte_of t (get_or t q 0) ≡ b → Meets t c b q m q
  next : {q m z : ℕ} → q < c * 5 → get_or t q 0 < c → (get_or t q 0 ≡ 0 → ⊥) → (byte_of t (get_or t q 0) ≡ b → ⊥)
      → Meets t c b (get_or t q 0 * 5 + 1 + m % 2) (m / 2) z → Meets t c b q m z

-- the child r of the entry s by the byte b, in a trie of c entries
pub record Child (t : List ℕ) (c s b r : ℕ) : Type 0 where
  pub inside : s < c
  pub slot : ℕ
  pub meets : Meets t c b (s * 5) b slot
  pub is : get_or t slot 0 ≡ r
  pub some : r ≡ 0 → ⊥

-- from the entry s the bytes of a text lead to the entry r
pub data Reaches (t : List ℕ) (c : ℕ) : ℕ → List ℕ → ℕ → Type 0 where
  stop : {s : ℕ} → Reaches t c s [] s
  on : {s b m r : ℕ} {l : List ℕ} → Child t c s b m → Reaches t c m l r → Reaches t c s (b ∷ l) r

-- t' is the trie t with the entry c in the slot w, by the byte b
pub record Grown (t t' : List ℕ) (w c b : ℕ) : Type 0 where
  pub room : length t' ≡ length t
  pub held : get_or t' w 0 ≡ c
  pub child : get_or t' (c * 5) 0 ≡ 0
  pub left : get_or t' (c * 5 + 1) 0 ≡ 0
  pub right : get_or t' (c * 5 + 2) 0 ≡ 0
  pub byte : byte_of t' c ≡ b
  pub value : value_of t' c ≡ 0
  pub others : (i : ℕ) → i < c * 5 → (i ≡ w → ⊥) → get_or t' i 0 ≡ get_or t i 0

-- t' of c' entries has what the trie t of c entries has; the entries that it has besides have no value
pub record Keeps (t : List ℕ) (c : ℕ) (t' : List ℕ) (c' : ℕ) : Type 0 where
  pub more : c ≤ c'
  pub reaches : (s : ℕ) (u : List ℕ) (r : ℕ) → Reaches t c s u r → Reaches t' c' s u r
  pub values : (e : ℕ) → e < c → value_of t' e ≡ value_of t e
  pub fresh : (e : ℕ) → c ≤ e → e < c' → value_of t' e ≡ 0

-- the text u leads from the entry s to the entry r in t', which keeps what t has
pub record Walked (t : List ℕ) (c s : ℕ) (u t' : List ℕ) (c' r : ℕ) : Type 0 where
  pub keeps : Keeps t c t' c'
  pub reaches : Reaches t' c' s u r
  pub inside : r < c'
  pub few : c' * 5 ≤ length t'

-- o is the slot to which the search for the byte b among the children of the entry s goes, if it was not given up
pub record Sought (t : List ℕ) (c b s : ℕ) (o : Option ℕ) : Type 0 where
  pub told : IfSome o (λ r. Meets t c b (s * 5) b r)

-- the same as Walked at the place o, if the way was not given up
pub record Walks (t : List ℕ) (c s : ℕ) (u t' : List ℕ) (o : Option Place) : Type 0 where
  pub room : length t' ≡ length t
  pub told : IfSome o (λ p. Walked t c s u t' p.count p.entry)

-- t is the trie t₀ with a root alone, which has no value
pub record Emptied (t₀ t : List ℕ) : Type 0 where
  pub room : length t ≡ length t₀
  pub child : get_or t 0 0 ≡ 0
  pub value : value_of t 0 ≡ 0

-- t' is the trie t with the value v at the entry e
pub record Puts (t t' : List ℕ) (e v : ℕ) : Type 0 where
  pub room : length t' ≡ length t
  pub value : value_of t' e ≡ v
  pub values : (f : ℕ) → (f ≡ e → ⊥) → value_of t' f ≡ value_of t f
  pub reaches : (c s : ℕ) (u : List ℕ) (r : ℕ) → Reaches t c s u r → Reaches t' c s u r
