-- Rule 6 part by part, in a pass over all nodes of a table.
use Prim.Native.Nat.{ℕ, ◌+◌, ◌≤◌, ◌<◌}
use mathlib.Core.Path.{◌≡◌, refl, ap, ◌∙◌}
use mathlib.Core.List.{List, [], ◌++◌, flat_map}
use lib.ListN.{length}
use borrow.Author.Rules.{rules}
use Rattle.std.specs.Prelude.{Some}
use Rattle.json_text.specs.Tree.{Json, Items, ◌▸◌, Members, member}
use Rattle.json_text.specs.Tree as tree
use Rattle.nodes.specs.Says.{Root}
use Rattle.nodes.specs.Laws.{fields_of}
use Rattle.everywhere.specs.Everywhere.{repeated, rule6, rule6_in, rule6_of}
use Rattle.everywhere.specs.Parts.{parts, parts_in, parts_of}
use Rattle.everywhere.specs.Says.{AnyPart}
use Rattle.everywhere.proofs.Passes.{flat-++, Always, Pass, pass-begin, pass-part, pass-done, again}
use Rattle.repeats.specs.Names.{own6, PartTells, TreeTells}
use Rattle.repeats.specs.Entries.{TrieRoom}

-- rule 6 part by part
mutual
  unfolding rule6 repeated own6 fields_of parts flat_map

  pub rule6-parts : (v : Json) → rule6 v ≡ flat_map own6 (parts v)
  rule6-parts (tree.null p e) = refl
  rule6-parts (tree.bool p e b) = refl
  rule6-parts (tree.num p e raw) = refl
  rule6-parts (tree.str p e raw) = refl
  rule6-parts (tree.arr p e vs) = rule6-items vs
  rule6-parts (tree.obj p e ms) = ap (λ (l : List ℕ). repeated [] ms ++ l) (rule6-members ms)

  rule6-items : (vs : Items) → rule6_in vs ≡ flat_map own6 (parts_in vs)
  rule6-items tree.no_items = refl
  rule6-items (v ▸ vs) = rw (flat-++, rule6-parts v, rule6-items vs)

  rule6-members : (ms : Members) → rule6_of ms ≡ flat_map own6 (parts_of ms)
  rule6-members tree.empty = refl
  rule6-members (member k v ms) = rw (flat-++ own6 _ _, rule6-parts v, rule6-members ms)

-- links that were lent as ls₀ and are now ls
pub record Lent (ls₀ ls : List ℕ) : Type 0 where
  pub same : length ls ≡ length ls₀
  pub few : length ls ≤ 32784

pub lent-begin : {ls : List ℕ} → length ls ≤ 32784 → Lent ls ls
lent-begin h = record { same = refl; few = h }

pub lent-on : {ls₀ ls ls' : List ℕ} → Lent ls₀ ls → length ls' ≡ length ls → Lent ls₀ ls'
lent-on l q = record { same = q ∙ l.same; few = rw q l.few }

-- an array for a trie that was lent as q₀ and is now q
pub record TrieLent (q₀ q : List ℕ) : Type 0 where
  pub same : length q ≡ length q₀
  pub room : TrieRoom q

pub trie-begin : {q : List ℕ} → TrieRoom q → TrieLent q q
trie-begin h = record { same = refl; room = h }

pub trie-on : {q₀ q q' : List ℕ} → TrieLent q₀ q → length q' ≡ length q → TrieLent q₀ q'
trie-on l e = record { same = e ∙ l.same; room = record { root = rw e l.room.root; few = rw e l.room.few } }

-- the pass of rule 6
module _ {x t : List ℕ} {n : ℕ} where
  pub pass-start : (b : ℕ) → Root x t n → Pass Always 6 own6 x t n b 0 b
  pass-start b d = pass-begin Always 6 own6 b d

  module _ {b₀ k b : ℕ} (c : Pass Always 6 own6 x t n b₀ k b) where
    pub pass-here : k < n → AnyPart x t k
    pass-here l = pass-part c l

    pub pass-onward : {others r : ℕ} → k < n → PartTells others 6 own6 x t k b (Some r) → Pass Always 6 own6 x t n b₀ (k + 3) r
    pass-onward l g = again c l (λ d s z. (tt, g.told.is d s))

    pub pass-told : {others : ℕ} → n ≤ k → TreeTells others x t b₀ (Some b)
    pass-told h = record { told = record { is = λ v s. rw (rule6-parts v) (pass-done c h tt v s) } }

pub ruleset passing = (rules, pass-start, pass-here, pass-told, lent-begin, lent-on)

pub ruleset entering = (rules, pass-start, pass-here, pass-told, trie-begin, trie-on)
