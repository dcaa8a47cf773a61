-- Chains of names: following one, and one name more.
use Prim.Native.Nat.{ℕ, ◌+◌, ◌-◌, ◌/◌, ◌≤◌, ◌<◌, min}
use mathlib.Core.Path.{◌≡◌, refl, sym, ap, ◌∙◌}
use mathlib.Core.Bool.{Bool, true, false, cond, ◌||◌}
use mathlib.Core.List.{List, [], ◌∷◌, map}
use native.Mathlib.Omega.{arith}
use lib.ListN.{length, get_or, set, length-set}
use lib.Seq.{get_or-set_same, get_or-set_other}
use lib.Dec.{eqb}
use borrow.Author.Rules.{rules}
use borrow.Author.Tests.{eqb-true, eqb-false}
use Rattle.std.specs.Prelude.{Option, Some, None, IfSome}
use Rattle.utf8.specs.Utf8.{same}
use Rattle.strings.specs.Spans.{decode_at}
use Rattle.nodes.specs.Faults.{fault, least}
use Rattle.everywhere.specs.Everywhere.{among}
use Rattle.everywhere.specs.Says.{text_at}
use Rattle.everywhere.specs.Laws.{other_text}
use Rattle.everywhere.specs.Chains.{chain_of}
use Rattle.repeats.specs.Chains.{kept, Link, Chained, end, link, Chains, ChainNode, Searched, ChainAt, ChainGives}
use Rattle.repeats.specs.Names.{NameText}

-- what is left of a chain with the texts us, where the code has come to the node e
record Rest (x t ls : List ℕ) (k e : ℕ) (us : List (List ℕ)) : Type 0 where
  texts : List (List ℕ)
  chain : Chained x t ls e texts
  holds : among us (text_at x t k) ≡ among texts (text_at x t k)

-- following a chain: the name at the node k is in it if it is in what is left of it
pub record Follows (x t ls : List ℕ) (head k e : ℕ) : Type 0 where
  pub node : ChainNode x t ls head k
  left : (us : List (List ℕ)) → Chained x t ls head us → Rest x t ls k e us

-- in a turn: the name at the node e, and what is left after it
record Turn (x t ls : List ℕ) (k e : ℕ) (us : List (List ℕ)) : Type 0 where
  here : Link x t ls e
  texts : List (List ℕ)
  chain : Chained x t ls (get_or ls (e / 3) 0) texts
  holds : among us (text_at x t k) ≡ (same (text_at x t e) (text_at x t k) || among texts (text_at x t k))

turn : {x t ls : List ℕ} {k e : ℕ} {us : List (List ℕ)} → Rest x t ls k e us → (e ≡ 0 → ⊥) → Turn x t ls k e us
unfolding among
turn {x} {t} {ls} {k} {e} {us} r n = go r.chain r.holds
  where
    go : {vs : List (List ℕ)} → Chained x t ls e vs → among us (text_at x t k) ≡ among vs (text_at x t k) → Turn x t ls k e us
    go (end z) h = absurd (n z)
    go (link {us = vs} l c) h = record { here = l; texts = vs; chain = c; holds = h }

finished : {x t ls : List ℕ} {k e : ℕ} {us : List (List ℕ)} → Rest x t ls k e us → e ≡ 0 → among us (text_at x t k) ≡ false
unfolding among
finished {x} {t} {ls} {k} {e} {us} r z = go r.chain r.holds
  where
    go : {vs : List (List ℕ)} → Chained x t ls e vs → among us (text_at x t k) ≡ among vs (text_at x t k) → among us (text_at x t k) ≡ false
    go (end _) h = h
    go (link l c) h = absurd (omega (arith, l.back))

module _ {x t ls : List ℕ} {head k : ℕ} where
  pub follow-begin : ChainNode x t ls head k → Follows x t ls head k head
  follow-begin d = record { node = d; left = λ us c. record { texts = us; chain = c; holds = refl } }

  module _ {e : ℕ} (c : Follows x t ls head k e) where
    module _ (n : e ≡ 0 → ⊥) where
      here : Link x t ls e
      here = (turn (c.left c.node.texts c.node.chain) n).here

      pub follow-name : NameText x t e
      follow-name = here.name

      pub follow-room : e / 3 < length ls
      follow-room = here.room

      module _ {b : Bool} (s : b ≡ same (text_at x t e) (text_at x t k)) where
        pub follow-found : b ≡ true → Searched x t ls head k (Some true)
        follow-found h = record { ended = record { is = λ us z. let u = turn (c.left us z) n in sym (u.holds ∙ rw (← s, h)) } }

        pub follow-again : {m : ℕ} → b ≡ false → m ≡ get_or ls (e / 3) 0 → Follows x t ls head k m
        follow-again h o = record { node = c.node; left = λ us z. let u = turn (c.left us z) n in record { texts = u.texts; chain = rw o u.chain; holds = u.holds ∙ rw (← s, h) } }

    pub follow-done : e ≡ 0 → Searched x t ls head k (Some false)
    follow-done z = record { ended = record { is = λ us h. sym (finished (c.left us h) z) } }

kept_if : (c : ℕ) (w u : List ℕ) (us : List (List ℕ)) (b : Bool) → eqb (chain_of u) c ≡ b → c ≡ chain_of w → among (kept c us) w ≡ among us w
    → among (cond b (u ∷ kept c us) (kept c us)) w ≡ (same u w || among us w)
unfolding among
kept_if c w u us true e q h = rw h
kept_if c w u us false e q h = rw (other_text u w (same u w) refl (λ z. eqb-false _ _ e (z ∙ sym q))) h

kept-among : (c : ℕ) (w : List ℕ) → c ≡ chain_of w → (us : List (List ℕ)) → among (kept c us) w ≡ among us w
unfolding among kept
kept-among c w q [] = refl
kept-among c w q (u ∷ us) = kept_if c w u us (eqb (chain_of u) c) refl q (kept-among c w q us)

-- a link that is set at a later node changes no chain
chained-set : (k v : ℕ) {x t ls : List ℕ} {e : ℕ} {us : List (List ℕ)} → Chained x t ls e us → e + 3 ≤ k → Chained x t (set ls (k / 3) v) e us
chained-set k v (end z) h = end z
chained-set k v {ls = ls} {e = e} (link {us = us} l c) h =
    let z : get_or (set ls (k / 3) v) (e / 3) 0 ≡ get_or ls (e / 3) 0 = get_or-set_other ls (k / 3) (e / 3) v 0 (λ q. omega arith) in
    link {e = e} {us = us} (record { room = rw (length-set ls (k / 3) v) l.room; back = rw z l.back; name = l.name }) (rw z (chained-set k v c (omega (arith, l.back))))

-- no names yet
pub chains-begin : (x t ls hs : List ℕ) (k : ℕ) → ((c : ℕ) → get_or hs c 0 ≡ 0) → 3 ≤ k → Chains x t ls hs k []
unfolding kept
chains-begin x t ls hs k z h = record { chain = λ c l. end (z c); below = λ c l. omega (arith, z c) }

-- one name more, at the node k, which goes to the chain c
module _ {x t ls hs : List ℕ} {k c : ℕ} {us : List (List ℕ)} (s : Chains x t ls hs k us) (d : NameText x t k) (i : k / 3 < length ls)
    (q : c ≡ chain_of (text_at x t k)) (l : c < 4096) (m : length hs ≡ 4096) where
  head-same : (a : ℕ) → c ≡ a → get_or (set hs c k) a 0 ≡ k
  head-same a z = rw (← z) (get_or-set_same hs c k 0 (omega arith))

  head-other : (a : ℕ) → (c ≡ a → ⊥) → get_or (set hs c k) a 0 ≡ get_or hs a 0
  head-other a f = get_or-set_other hs c a k 0 (λ z. f (sym z))

  chains-if : (a : ℕ) (b : Bool) → eqb (chain_of (text_at x t k)) a ≡ b → a < 4096
      → Chained x t (set ls (k / 3) (get_or hs c 0)) (get_or (set hs c k) a 0) (cond b (text_at x t k ∷ kept a us) (kept a us))
  chains-if a true e f =
      let z : c ≡ a = q ∙ eqb-true _ _ e in
      let w : get_or (set ls (k / 3) (get_or hs c 0)) (k / 3) 0 ≡ get_or hs c 0 = get_or-set_same ls (k / 3) (get_or hs c 0) 0 i in
      rw (head-same a z, ← z)
      (link {e = k} {us = kept c us} (record { room = rw (length-set ls (k / 3) (get_or hs c 0)) i; back = rw w (omega (arith, s.below c l)); name = d })
      (rw w (chained-set k (get_or hs c 0) (s.chain c l) (s.below c l))))
  chains-if a false e f = rw (head-other a (λ z. eqb-false _ _ e (sym q ∙ z))) (chained-set k (get_or hs c 0) (s.chain a f) (s.below a f))

  below-if : (a j : ℕ) (b : Bool) → eqb c a ≡ b → a < 4096 → k + 3 ≤ j → get_or (set hs c k) a 0 + 3 ≤ j
  below-if a j true e f g = omega (arith, head-same a (eqb-true _ _ e))
  below-if a j false e f g = omega (arith, head-other a (eqb-false _ _ e), s.below a f)

  chains-more : (j : ℕ) → k + 3 ≤ j → Chains x t (set ls (k / 3) (get_or hs c 0)) (set hs c k) j (text_at x t k ∷ us)
  unfolding kept
  chains-more j g = record { chain = λ a f. chains-if a (eqb (chain_of (text_at x t k)) a) refl f; below = λ a f. below-if a j (eqb c a) refl f g }

-- the name at the node k, and what the code finds of it
module _ {x t ls hs : List ℕ} {k : ℕ} (d : ChainAt x t ls hs k) where
  pub name-node : (c h : ℕ) → h ≡ get_or hs c 0 → c < 4096 → ChainNode x t (set ls (k / 3) (get_or hs c 0)) h k
  name-node c h q l =
      record { texts = kept c d.texts; chain = rw q (chained-set k (get_or hs c 0) (d.chains.chain c l) (d.chains.below c l)); name = d.name }

  module _ {p q c : ℕ} (y : p ≡ get_or t k 0) (z : q ≡ get_or t (k + 1) 0) (w : c ≡ chain_of (decode_at x (p + 1) (q - 1))) (l : c < 4096) where
    goes : c ≡ chain_of (text_at x t k)
    unfolding text_at
    goes = rw (← y, ← z) w

    gives : {b : ℕ} {o : Option ℕ} → IfSome o (λ r. (us : List (List ℕ)) → Chains x t ls hs k us → r ≡ least b (map (fault 6) (cond (among us (text_at x t k)) (get_or t k 0 ∷ []) [])))
        → ChainGives x t ls hs (set ls (k / 3) (get_or hs c 0)) (set hs c k) k b o
    gives i =
        record {
          is = i;
          more = λ us j s e. chains-more s d.name d.inside goes l d.heads j e;
          value = d.value;
          links = length-set ls (k / 3) (get_or hs c 0);
          heads = length-set hs c k ∙ d.heads;
        }

    -- the chain is too long
    pub chain-long : (b : ℕ) → ChainGives x t ls hs (set ls (k / 3) (get_or hs c 0)) (set hs c k) k b None
    chain-long b = gives tt

    module _ {h : ℕ} {f : Bool} (o : h ≡ get_or hs c 0) (g : Searched x t (set ls (k / 3) (get_or hs c 0)) h k (Some f)) where
      found : (us : List (List ℕ)) → Chains x t ls hs k us → among us (text_at x t k) ≡ f
      found us s = sym (g.ended.is (kept c us) (rw o (chained-set k (get_or hs c 0) (s.chain c l) (s.below c l))) ∙ kept-among c (text_at x t k) goes us)

      pub chain-none : (b : ℕ) → f ≡ false → ChainGives x t ls hs (set ls (k / 3) (get_or hs c 0)) (set hs c k) k b (Some b)
      unfolding least
      chain-none b n = gives (λ us s. rw (found us s, n))

      pub chain-found : {b u a : ℕ} → f ≡ true → u ≡ fault 6 p → a ≡ min b u → ChainGives x t ls hs (set ls (k / 3) (get_or hs c 0)) (set hs c k) k b (Some a)
      unfolding least
      chain-found {b} {u} {a} n i j = gives (λ us s. rw (found us s, n) (j ∙ (ap (min b) i ∙ ap (λ (a : ℕ). min b (fault 6 a)) y)))

pub ruleset follows = (rules, follow-begin, follow-name, follow-room, follow-found, follow-again, follow-done)

pub ruleset links = (rules, name-node)
