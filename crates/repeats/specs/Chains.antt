-- Chains of names, by which rule 6 is judged in an object of many names.
use Rattle.std.specs.Prelude.{◌≡◌, Bool, cond, List, [], ◌∷◌, map, ℕ, ◌+◌, ◌*◌, ◌/◌, ◌≤◌, ◌<◌, length, get_or, eqb, Option, IfSome}
use Rattle.nodes.specs.Faults.{fault, least}
use Rattle.everywhere.specs.Everywhere.{among}
use Rattle.everywhere.specs.Says.{AnyPart, text_at}
use Rattle.everywhere.specs.Chains.{chain_of}
use Rattle.repeats.specs.Names.{NameText}

-- those of some texts that go to the chain c
unfoldable pub kept : ℕ → List (List ℕ) → List (List ℕ)
unfolding chain_of
kept c [] = []
kept c (u ∷ us) = cond (eqb (chain_of u) c) (u ∷ kept c us) (kept c us)

-- a name at the node e, whose link in ls names an earlier node, or none by 0
pub record Link (x t ls : List ℕ) (e : ℕ) : Type 0 where
  pub room : e / 3 < length ls
  pub back : get_or ls (e / 3) 0 < e
  pub name : NameText x t e

-- the chain from the node e on: the texts of its names
pub data Chained (x t ls : List ℕ) : ℕ → List (List ℕ) → Type 0 where
  end : {e : ℕ} → e ≡ 0 → Chained x t ls e []
  link : {e : ℕ} {us : List (List ℕ)} → Link x t ls e → Chained x t ls (get_or ls (e / 3) 0) us → Chained x t ls e (text_at x t e ∷ us)

-- the chains whose heads are hs have just the texts us, all of names before the node k
pub record Chains (x t ls hs : List ℕ) (k : ℕ) (us : List (List ℕ)) : Type 0 where
  pub chain : (c : ℕ) → c < 4096 → Chained x t ls (get_or hs c 0) (kept c us)
  pub below : (c : ℕ) → c < 4096 → get_or hs c 0 + 3 ≤ k

-- a name at the node k, and a chain from the node `head` on
pub record ChainNode (x t ls : List ℕ) (head k : ℕ) : Type 0 where
  pub texts : List (List ℕ)
  pub chain : Chained x t ls head texts
  pub name : NameText x t k

-- r tells whether the name at the node k is among those of the chain
pub record InChain (x t ls : List ℕ) (head k : ℕ) (r : Bool) : Type 0 where
  pub is : (us : List (List ℕ)) → Chained x t ls head us → r ≡ among us (text_at x t k)

-- the same of a search, if it came to the end of the chain
pub record Searched (x t ls : List ℕ) (head k : ℕ) (o : Option Bool) : Type 0 where
  pub ended : IfSome o (λ r. InChain x t ls head k r)

-- a name at the node k, and chains of names before it
pub record ChainAt (x t ls hs : List ℕ) (k : ℕ) : Type 0 where
  pub texts : List (List ℕ)
  pub chains : Chains x t ls hs k texts
  pub name : NameText x t k
  pub short : length x ≤ 65535
  pub inside : k / 3 < length ls
  pub low : k < 98352
  pub value : k + 3 + 2 < length t
  pub heads : length hs ≡ 4096

-- o is the least of b and of the fault of the name at the node k, if it is among those of the chains, or tells nothing; afterwards it is one of them
pub record ChainGives (x t ls hs ls' hs' : List ℕ) (k b : ℕ) (o : Option ℕ) : Type 0 where
  pub is : IfSome o (λ r. (us : List (List ℕ)) → Chains x t ls hs k us → r ≡ least b (map (fault 6) (cond (among us (text_at x t k)) (get_or t k 0 ∷ []) [])))
  pub more : (us : List (List ℕ)) (m : ℕ) → Chains x t ls hs k us → k + 3 ≤ m → Chains x t ls' hs' m (text_at x t k ∷ us)
  pub value : k + 3 + 2 < length t
  pub links : length ls' ≡ length ls
  pub heads : length hs' ≡ 4096

-- an object at the node i, whose nodes have a link each
pub record LongObject (x t ls : List ℕ) (i : ℕ) : Type 0 where
  pub some : AnyPart x t i
  pub brace : get_or x (get_or t i 0) 0 ≡ 123
  pub ends : get_or t (i + 2) 0 ≤ length ls * 3
  pub few : length ls ≤ 32784
