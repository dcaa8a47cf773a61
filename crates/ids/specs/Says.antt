-- What the functions over the IDs of city objects ask and tell.
use Rattle.std.specs.Prelude.{◌≡◌, cond, List, [], ◌∷◌, map, ℕ, ◌+◌, ◌<◌, ◌≤◌, length, get_or, set, drop, eqb, Some, None, unwrap_or}
use Rattle.nodes.specs.Access.{Member, name_of}
use Rattle.nodes.specs.Says.{Found}
use Rattle.everywhere.specs.Chains.{chain_of}
use Rattle.nodes.specs.Laws.{StringAt}
use Rattle.everywhere.specs.Says.{text_at}
use Rattle.fields.specs.Says.{MemberAt}
use Rattle.model.specs.Model.{object_number}
use Rattle.ids.specs.declared.Directory.{Directory}

-- a string or a name stands at the node i
pub record TextNode (x t : List ℕ) (i : ℕ) : Type 0 where
  pub raw : List ℕ
  pub string : StringAt x t i raw

-- the offsets are the nodes of the names of the members ms, in order, of which there are at most 1,024
pub record Offsets (x t : List ℕ) (ms : List Member) (offsets : List ℕ) : Type 0 where
  pub all : length offsets ≡ length ms
  pub few : length offsets ≤ 1024
  pub each : (k : ℕ) (d : Member) → k < length offsets → MemberAt x t (get_or offsets k 0) (get_or ms k d)

-- they are those of some members of a text that is short enough (rule 1)
pub record Objects (x t offsets : List ℕ) : Type 0 where
  pub members : List Member
  pub stand : Offsets x t members offsets
  pub short : length x ≤ 65535

-- some member stands at the node i
pub record MemberNode (x t : List ℕ) (i : ℕ) : Type 0 where
  pub it : Member
  pub stands : MemberAt x t i it

-- the IDs of some members
unfoldable pub names_of : List Member → List (List ℕ)
names_of ms = map name_of ms

-- r is the number of the object whose ID is the text at the node i; none stands for the count of the objects, which no object has
pub record Numbers (x t offsets : List ℕ) (i : ℕ) (r : Found) : Type 0 where
  pub is : (ms : List Member) → Offsets x t ms offsets → unwrap_or r (length offsets) ≡ object_number (names_of ms) (text_at x t i)
  pub low : (k : ℕ) → r ≡ Some k → k < length offsets

-- the word of a chain for an object's number, or for none
abbrev pub word_of : Found → ℕ
word_of None = 0
word_of (Some k) = k + 1

-- one more than the number of the first of the texts us, which are numbered from k on, that goes to the chain c; 0 if none does
unfoldable pub head_from : ℕ → ℕ → List (List ℕ) → ℕ
head_from c k [] = 0
head_from c k (u ∷ us) = cond (eqb (chain_of u) c) (k + 1) (head_from c (k + 1) us)

-- the chains of the texts us from the k-th on
pub record ChainsFrom (us : List (List ℕ)) (heads nexts : List ℕ) (k : ℕ) : Type 0 where
  pub head : (c : ℕ) → c < 4096 → get_or heads c 0 ≡ head_from c k (drop k us)
  pub next : (j : ℕ) → k ≤ j → j < length us → get_or nexts j 0 ≡ head_from (chain_of (get_or us j [])) (j + 1) (drop (j + 1) us)

-- heads and nexts are the chains of the IDs of the objects
pub record Chains (x t offsets heads nexts : List ℕ) : Type 0 where
  pub heads-room : length heads ≡ 4096
  pub nexts-room : length nexts ≡ 1024
  pub is : (ms : List Member) → Offsets x t ms offsets → ChainsFrom (names_of ms) heads nexts 0

-- the objects, with the chains of their IDs
pub record Numbered (d : Directory) : Type 0 where
  pub objects : Objects d.text.now d.table.now d.offsets.now
  pub chains : Chains d.text.now d.table.now d.offsets.now d.chains.now.heads d.chains.now.nexts

-- the chains were filled, and nexts, which was nexts₀, is as before past the objects
pub record Fills (x t offsets nexts₀ heads nexts : List ℕ) : Type 0 where
  pub chains : Chains x t offsets heads nexts
  pub rest : (j : ℕ) → length offsets ≤ j → get_or nexts j 0 ≡ get_or nexts₀ j 0

-- the object of number k, whose name stands at the node `own`, was put at the head of its chain
pub record Puts (x t : List ℕ) (own k : ℕ) (heads nexts heads' nexts' : List ℕ) : Type 0 where
  pub low : chain_of (text_at x t own) < 4096
  pub heads-are : heads' ≡ set heads (chain_of (text_at x t own)) (k + 1)
  pub nexts-are : nexts' ≡ set nexts k (get_or heads (chain_of (text_at x t own)) 0)
