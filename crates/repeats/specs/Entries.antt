-- A trie of the names of an object, by which rule 6 is judged where a chain is long. The value of an entry is a third of the node of a name that ends there.
use Rattle.std.specs.Prelude.{◌≡◌, true, cond, List, [], ◌∷◌, map, ℕ, ◌*◌, ◌≤◌, ◌<◌, min, length, get_or, Option, Some, IfSome}
use Rattle.utf8.specs.Utf8.{same}
use Rattle.trie.specs.Trie.{value_of, Reaches}
use Rattle.nodes.specs.Faults.{fault, least}
use Rattle.everywhere.specs.Everywhere.{among}
use Rattle.everywhere.specs.Says.{AnyPart, text_at}
use Rattle.repeats.specs.declared.Turn.{Turn}
use Rattle.repeats.specs.Names.{NameText}

-- an array for a trie: it has room for the root, and for at most 65,536 entries
pub record TrieRoom (q : List ℕ) : Type 0 where
  pub root : 5 ≤ length q
  pub few : length q ≤ 327680

-- the text w leads to an entry that has a value, in the trie q of c entries
pub record Entry (q : List ℕ) (c : ℕ) (w : List ℕ) : Type 0 where
  pub entry : ℕ
  pub reaches : Reaches q c 0 w entry
  pub inside : entry < c
  pub some : value_of q entry ≡ 0 → ⊥

-- a name at the node k, which is one of the texts us
pub record Named (x t : List ℕ) (us : List (List ℕ)) (k : ℕ) : Type 0 where
  pub name : NameText x t k
  pub is : among us (text_at x t k) ≡ true

-- each of the texts us has an entry with a value, and each value tells a name of them
pub record Entries (x t q : List ℕ) (c : ℕ) (us : List (List ℕ)) : Type 0 where
  pub has : (w : List ℕ) → among us w ≡ true → Entry q c w
  pub are : (e : ℕ) → e < c → (value_of q e ≡ 0 → ⊥) → Named x t us (value_of q e * 3)

-- the value v tells a name, if it is not 0
pub record ValueTells (x t : List ℕ) (v : ℕ) : Type 0 where
  pub told : (v ≡ 0 → ⊥) → NameText x t (v * 3)

-- o is the least of b and of the fault of the name at the node k, if the value v tells one of the same text, or nothing if it tells another
pub record EntryFault (x t : List ℕ) (v k b : ℕ) (o : Option ℕ) : Type 0 where
  pub none : v ≡ 0 → o ≡ Some b
  pub some : (v ≡ 0 → ⊥) → IfSome o (λ r. (same (text_at x t (v * 3)) (text_at x t k) ≡ true) × (r ≡ min b (fault 6 (get_or t k 0))))

-- a name at the node k, and a trie of names before it
pub record EntryAt (x t q : List ℕ) (c k : ℕ) : Type 0 where
  pub texts : List (List ℕ)
  pub entries : Entries x t q c texts
  pub name : NameText x t k
  pub short : length x ≤ 65535
  pub later : 3 ≤ k
  pub room : length q ≤ 327680
  pub some : 0 < c
  pub few : c * 5 ≤ length q

-- r is the least of b and of the fault of the name at the node k, if it is among those of the trie; afterwards it is one of them
pub record EntryTold (x t q : List ℕ) (c : ℕ) (q' : List ℕ) (c' k b r : ℕ) : Type 0 where
  pub some : 0 < c'
  pub few : c' * 5 ≤ length q'
  pub is : (us : List (List ℕ)) → Entries x t q c us → r ≡ least b (map (fault 6) (cond (among us (text_at x t k)) (get_or t k 0 ∷ []) []))
  pub more : (us : List (List ℕ)) → Entries x t q c us → Entries x t q' c' (text_at x t k ∷ us)

-- the same of the turn o, unless the way was given up
pub record EntryGives (x t q : List ℕ) (c : ℕ) (q' : List ℕ) (k b : ℕ) (o : Option Turn) : Type 0 where
  pub room : length q' ≡ length q
  pub told : IfSome o (λ u. EntryTold x t q c q' u.count k b u.least)

-- an object stands at the node i, and the array q is one for a trie
pub record TrieObject (x t q : List ℕ) (i : ℕ) : Type 0 where
  pub part : AnyPart x t i
  pub object : get_or x (get_or t i 0) 0 ≡ 123
  pub room : TrieRoom q

-- the same, and the trie has no names yet
pub record FreshObject (x t q : List ℕ) (i : ℕ) : Type 0 where
  pub object : TrieObject x t q i
  pub value : value_of q 0 ≡ 0
