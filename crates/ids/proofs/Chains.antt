-- Chains of the IDs of city objects: one object more, and following one.
use Prim.Native.Nat.{ℕ, zero, suc, ◌+◌, ◌-◌, ◌≤◌, ◌<◌}
use native.Mathlib.Omega.{arith}
use native.Mathlib.Numerals.{add-one}
use mathlib.Core.Path.{◌≡◌, refl, sym, ap, ◌∙◌}
use mathlib.Core.Bool.{Bool, true, false, cond}
use mathlib.Core.List.{List, [], ◌∷◌}
use lib.ListN.{length, get_or, set, drop, length-set, length-map, drop_of_length-le}
use lib.Seq.{drop-cons, get_or-set_same, get_or-set_other}
use lib.Dec.{eqb}
use borrow.Author.Tests.{eqb-true, eqb-false}
use Rattle.utf8.specs.Utf8.{same}
use Rattle.strings.specs.Spans.{decode_at}
use Rattle.nodes.specs.Access.{Member, name_of}
use Rattle.everywhere.specs.Chains.{chain_of}
use Rattle.everywhere.specs.Laws.{other_text}
use Rattle.everywhere.specs.Says.{text_at}
use Rattle.model.specs.Model.{object_number}
use Rattle.nodes.specs.Says.{Found}
use Rattle.std.specs.Prelude.{Some, None}
use Rattle.ids.specs.Says.{TextNode, Offsets, Objects, names_of, Numbers, word_of, head_from, ChainsFrom, Chains, Fills, Puts}
use Rattle.ids.proofs.Rules.{ids, name-text, nobody, object-text}

-- ---- the names of the objects

names-length : (ms : List Member) → length (names_of ms) ≡ length ms
unfolding names_of
names-length ms = length-map ms name_of

names_at : (ms : List Member) (k : ℕ) → k < length ms → get_or (names_of ms) k [] ≡ name_of (get_or ms k nobody)
unfolding names_of
names_at [] k h = absurd (omega arith)
names_at (m ∷ ms) zero h = refl
names_at (m ∷ ms) (suc k) h = names_at ms k (omega arith)

module _ {x t : List ℕ} {ms : List Member} {offsets : List ℕ} (o : Offsets x t ms offsets) where
  pub names-all : length (names_of ms) ≡ length offsets
  names-all = omega (arith, names-length ms, o.all)

  -- the k-th of them is the text at its node
  pub name-is : {k : ℕ} → k < length offsets → get_or (names_of ms) k [] ≡ text_at x t (get_or offsets k 0)
  name-is {k} l = names_at ms k (omega (arith, o.all)) ∙ name-text (o.each k nobody l)

-- ---- the texts from the k-th on

module _ (us : List (List ℕ)) (k : ℕ) (h : k < length us) where
  texts-cons : drop k us ≡ get_or us k [] ∷ drop (k + 1) us
  texts-cons = rw (add-one, drop-cons us k [])

  head-cons : (c : ℕ) → head_from c k (drop k us) ≡ cond (eqb (chain_of (get_or us k [])) c) (k + 1) (head_from c (k + 1) (drop (k + 1) us))
  unfolding head_from
  head-cons c = ap (head_from c k) texts-cons

  number-cons : (w : List ℕ) → object_number (drop k us) w ≡ cond (same (get_or us k []) w) 0 (suc (object_number (drop (k + 1) us) w))
  unfolding object_number
  number-cons w = ap (λ l. object_number l w) texts-cons

head-none : (c : ℕ) (us : List (List ℕ)) (k : ℕ) → length us ≤ k → head_from c k (drop k us) ≡ 0
unfolding head_from
head-none c us k h = ap (head_from c k) (drop_of_length-le us {i = k} h)

number-none : (w : List ℕ) (us : List (List ℕ)) (k : ℕ) → length us ≤ k → object_number (drop k us) w ≡ 0
unfolding object_number
number-none w us k h = ap (λ l. object_number l w) (drop_of_length-le us {i = k} h)

-- ---- building them

-- the chain of the string at the node i
pub goes_to : {x t : List ℕ} {i p e r : ℕ} → TextNode x t i → p ≡ get_or t i 0 → e ≡ get_or t (i + 1) 0 → r ≡ chain_of (decode_at x (p + 1) (e - 1)) → r ≡ chain_of (text_at x t i)
unfolding text_at
goes_to d q r s = rw (← q, ← r) s

pub put-told : {x t : List ℕ} {own k c : ℕ} {heads nexts : List ℕ} → c ≡ chain_of (text_at x t own) → c < 4096 → Puts x t own k heads nexts (set heads c (k + 1)) (set nexts k (get_or heads c 0))
put-told q l = record { low = rw (← q) l; heads-are = rw q; nexts-are = rw q }

-- no text yet
none_yet : (us : List (List ℕ)) (heads nexts : List ℕ) → ((c : ℕ) → get_or heads c 0 ≡ 0) → ChainsFrom us heads nexts (length us)
none_yet us heads nexts z = record { head = λ c l. z c ∙ sym (head-none c us (length us) (omega arith)); next = λ j h l. absurd (omega arith) }

-- one text more, the k-th
module _ {us : List (List ℕ)} {heads nexts : List ℕ} {k c : ℕ} (s : ChainsFrom us heads nexts (k + 1))
    (h : k < length us) (q : c ≡ chain_of (get_or us k [])) (l : c < 4096) (n : length heads ≡ 4096) (m : k < length nexts) where
  head-if : (a : ℕ) (b : Bool) → eqb (chain_of (get_or us k [])) a ≡ b → a < 4096 → get_or (set heads c (k + 1)) a 0 ≡ cond b (k + 1) (head_from a (k + 1) (drop (k + 1) us))
  head-if a true e f = rw (← (q ∙ eqb-true _ _ e)) (get_or-set_same heads c (k + 1) 0 (omega arith))
  head-if a false e f = get_or-set_other heads c a (k + 1) 0 (λ z. eqb-false _ _ e (sym (z ∙ q))) ∙ s.head a f

  next-if : (j : ℕ) (b : Bool) → eqb j k ≡ b → k ≤ j → j < length us → get_or (set nexts k (get_or heads c 0)) j 0 ≡ head_from (chain_of (get_or us j [])) (j + 1) (drop (j + 1) us)
  next-if j true e f g = rw (eqb-true j k e, ← q) (get_or-set_same nexts k (get_or heads c 0) 0 m ∙ s.head c l)
  next-if j false e f g = get_or-set_other nexts k j (get_or heads c 0) 0 (eqb-false j k e) ∙ s.next j (let z = eqb-false j k e in omega (arith, z)) g

  one_more : ChainsFrom us (set heads c (k + 1)) (set nexts k (get_or heads c 0)) k
  one_more = record { head = λ a f. head-if a (eqb (chain_of (get_or us k [])) a) refl f ∙ sym (head-cons us k h a); next = λ j f g. next-if j (eqb j k) refl f g }

-- The chains of the objects from the k-th on are filled
pub record Filling (x t offsets nexts₀ heads nexts : List ℕ) (k : ℕ) : Type 0 where
  pub objects : Objects x t offsets
  pub within : k ≤ length offsets
  pub heads-room : length heads ≡ 4096
  pub nexts-room : length nexts ≡ 1024
  pub is : (ms : List Member) → Offsets x t ms offsets → ChainsFrom (names_of ms) heads nexts k
  pub rest : (j : ℕ) → length offsets ≤ j → get_or nexts j 0 ≡ get_or nexts₀ j 0

module _ {x t offsets heads nexts : List ℕ} where
  pub filling-start : Objects x t offsets → length heads ≡ 4096 → length nexts ≡ 1024 → ((c : ℕ) → get_or heads c 0 ≡ 0) → Filling x t offsets nexts heads nexts (length offsets)
  filling-start o h n z =
      record {
        objects = o;
        within = omega arith;
        heads-room = h;
        nexts-room = n;
        is = λ ms s. rw (← names-all s) (none_yet (names_of ms) heads nexts z);
        rest = λ j l. refl;
      }

  module _ {nexts₀ : List ℕ} {k : ℕ} (f : Filling x t offsets nexts₀ heads nexts k) where
    pub filling-few : 0 < k → k - 1 < 1024
    filling-few l = omega (arith, f.within, f.objects.stand.few)

    pub filling-text : 0 < k → TextNode x t (get_or offsets (k - 1) 0)
    filling-text l = object-text f.objects (omega (arith, f.within))

    pub filling-turn : {heads' nexts' : List ℕ} → 0 < k → Puts x t (get_or offsets (k - 1) 0) (k - 1) heads nexts heads' nexts' → Filling x t offsets nexts₀ heads' nexts' (k - 1)
    filling-turn {heads'} {nexts'} l p =
        let j = k - 1 in
        let z : k ≡ j + 1 = omega arith in
        let c = chain_of (text_at x t (get_or offsets j 0)) in
        record {
          objects = f.objects;
          within = omega (arith, f.within);
          heads-room = ap length p.heads-are ∙ (length-set heads c (j + 1) ∙ f.heads-room);
          nexts-room = ap length p.nexts-are ∙ (length-set nexts j (get_or heads c 0) ∙ f.nexts-room);
          is = λ ms o.
              rw (p.heads-are, p.nexts-are)
              (one_more {heads = heads} {nexts = nexts} (rw (← z) (f.is ms o)) (omega (arith, names-all o, f.within))
              (ap chain_of (sym (name-is o (omega (arith, f.within))))) p.low f.heads-room
              (omega (arith, f.within, f.objects.stand.few, f.nexts-room)));
          rest = λ i m. rw p.nexts-are (get_or-set_other nexts j i (get_or heads c 0) 0 (λ q. omega (arith, f.within)) ∙ f.rest i m);
        }

    pub filling-done : k ≤ 0 → Fills x t offsets nexts₀ heads nexts
    filling-done h =
        let z : k ≡ 0 = omega arith in
        record { chains = record { heads-room = f.heads-room; nexts-room = f.nexts-room; is = λ ms o. rw (← z) (f.is ms o) }; rest = f.rest }

-- ---- following one

-- e tells the first of the texts us from the k-th on that goes to the chain of w: none before it is w
record Lead (us : List (List ℕ)) (w : List ℕ) (k e : ℕ) : Type 0 where
  at : ℕ
  is : e ≡ at + 1
  onward : k ≤ at
  inside : at < length us
  goes : chain_of (get_or us at []) ≡ chain_of w
  skips : k + object_number (drop k us) w ≡ at + object_number (drop at us) w

module _ (us : List (List ℕ)) (w : List ℕ) where
  past-other : (k : ℕ) → k < length us → (chain_of (get_or us k []) ≡ chain_of w → ⊥) → k + object_number (drop k us) w ≡ k + 1 + object_number (drop (k + 1) us) w
  past-other k h n = let z : same (get_or us k []) w ≡ false = other_text (get_or us k []) w (same (get_or us k []) w) refl n in omega (arith, rw z at (number-cons us k h w))

  lead : (n k e : ℕ) → k + n ≡ length us → e ≡ head_from (chain_of w) k (drop k us) → (e ≡ 0 → ⊥) → Lead us w k e
  lead zero k e l q z = absurd (z (q ∙ head-none (chain_of w) us k (omega arith)))
  lead (suc n) k e l q z = if (eqb (chain_of (get_or us k [])) (chain_of w)) refl (q ∙ head-cons us k (omega arith) (chain_of w)) (λ y. lead n (k + 1) e (omega arith) y z)
    where
      if : (b : Bool) → eqb (chain_of (get_or us k [])) (chain_of w) ≡ b → e ≡ cond b (k + 1) (head_from (chain_of w) (k + 1) (drop (k + 1) us))
          → (e ≡ head_from (chain_of w) (k + 1) (drop (k + 1) us) → Lead us w (k + 1) e) → Lead us w k e
      if true f y g = record { at = k; is = y; onward = omega arith; inside = omega arith; goes = eqb-true _ _ f; skips = refl }
      if false f y g =
          let r = g y in
          record { at = r.at; is = r.is; onward = omega (arith, r.onward); inside = r.inside; goes = r.goes; skips = past-other k (omega arith) (eqb-false _ _ f) ∙ r.skips }

  lead-none : (n k : ℕ) → k + n ≡ length us → head_from (chain_of w) k (drop k us) ≡ 0 → k + object_number (drop k us) w ≡ length us
  lead-none zero k l q = omega (arith, number-none w us k (omega arith))
  lead-none (suc n) k l q = if (eqb (chain_of (get_or us k [])) (chain_of w)) refl (sym (head-cons us k (omega arith) (chain_of w)) ∙ q) (λ y. lead-none n (k + 1) (omega arith) y)
    where
      if : (b : Bool) → eqb (chain_of (get_or us k [])) (chain_of w) ≡ b → cond b (k + 1) (head_from (chain_of w) (k + 1) (drop (k + 1) us)) ≡ 0
          → (head_from (chain_of w) (k + 1) (drop (k + 1) us) ≡ 0 → k + 1 + object_number (drop (k + 1) us) w ≡ length us) → k + object_number (drop k us) w ≡ length us
      if true f y g = absurd (omega (arith, y))
      if false f y g = past-other k (omega arith) (eqb-false _ _ f) ∙ g y

-- e tells the first of the chain of w among the texts us from some k-th on, and w is none before it
record Trail (us : List (List ℕ)) (w : List ℕ) (e : ℕ) : Type 0 where
  from : ℕ
  within : from ≤ length us
  is : e ≡ head_from (chain_of w) from (drop from us)
  skips : from + object_number (drop from us) w ≡ object_number us w

trail-lead : {us : List (List ℕ)} {w : List ℕ} {e : ℕ} (s : Trail us w e) → (e ≡ 0 → ⊥) → Lead us w s.from e
trail-lead {us} {w} {e} s z = lead us w (length us - s.from) s.from e (omega (arith, s.within)) s.is z

-- A search for the object with the text at the node i has come to the object that is left, or to the end of its chain
pub record Trailing (x t offsets heads nexts : List ℕ) (i : ℕ) (left : Found) : Type 0 where
  pub objects : Objects x t offsets
  pub chains : Chains x t offsets heads nexts
  onward : (ms : List Member) → Offsets x t ms offsets → Trail (names_of ms) (text_at x t i) (word_of left)

-- how many objects it may come to yet
abbrev pub to_go : Found → ℕ
to_go None = 0
to_go (Some k) = 1024 - k

module _ {x t offsets heads nexts : List ℕ} {i : ℕ} where
  pub trail-begin : {c : ℕ} {left : Found} → Objects x t offsets → Chains x t offsets heads nexts → c ≡ chain_of (text_at x t i) → c < 4096
      → word_of left ≡ get_or heads c 0 → Trailing x t offsets heads nexts i left
  trail-begin o s q l h = record {
    objects = o;
    chains = s;
    onward = λ ms d. record { from = 0; within = omega arith; is = rw (← q) (h ∙ (s.is ms d).head _ l); skips = omega arith };
  }

  module _ {left : Found} {k : ℕ} (s : Trailing x t offsets heads nexts i left) (e : left ≡ Some k) where
    word-is : word_of left ≡ k + 1
    word-is = ap word_of e

    here : {ms : List Member} (o : Offsets x t ms offsets) → Lead (names_of ms) (text_at x t i) (s.onward ms o).from (word_of left)
    here {ms} o = trail-lead (s.onward ms o) (λ z. omega (arith, word-is, z))

    pub trail-inside : k < length offsets
    trail-inside = let o = s.objects.stand in let r = here o in omega (arith, r.is, word-is, r.inside, names-all o)

    pub trail-few : k < 1024
    trail-few = omega (arith, trail-inside, s.objects.stand.few)

    pub trail-text : TextNode x t (get_or offsets k 0)
    trail-text = object-text s.objects trail-inside

    -- the word of the next one
    on : {m : ℕ} {ms : List Member} → Offsets x t ms offsets → m ≡ get_or nexts k 0 → m ≡ head_from (chain_of (text_at x t i)) (k + 1) (drop (k + 1) (names_of ms))
    on {m} {ms} o q =
        let r = here o in
        let y : r.at ≡ k = omega (arith, r.is, word-is) in
        let g : chain_of (get_or (names_of ms) k []) ≡ chain_of (text_at x t i) = rw (← y) r.goes in
        rw (← g) (q ∙ (s.chains.is ms o).next k (omega arith) (omega (arith, r.inside, y)))

    module _ {b : Bool} (h : b ≡ same (text_at x t (get_or offsets k 0)) (text_at x t i)) where
      told : (ms : List Member) → Offsets x t ms offsets → object_number (names_of ms) (text_at x t i) ≡ k + cond b 0 (suc (object_number (drop (k + 1) (names_of ms)) (text_at x t i)))
      told ms o =
          let u = s.onward ms o in
          let r = here o in
          let y : r.at ≡ k = omega (arith, r.is, word-is) in
          let w : object_number (names_of ms) (text_at x t i) ≡ k + object_number (drop k (names_of ms)) (text_at x t i) = sym u.skips ∙ rw y at r.skips in
          let n : b ≡ same (get_or (names_of ms) k []) (text_at x t i) = rw (name-is o trail-inside) h in
          rw n (w ∙ ap (λ l. k + l) (number-cons (names_of ms) k (omega (arith, r.inside, y)) (text_at x t i)))

      pub trail-found : b ≡ true → Numbers x t offsets i (Some k)
      trail-found f = record { is = λ ms o. omega (arith, rw f at (told ms o)); low = λ j q. let z : k ≡ j = cc in omega (arith, trail-inside, z) }

      pub trail-again : {next : Found} → b ≡ false → word_of next ≡ get_or nexts k 0 → Trailing x t offsets heads nexts i next
      trail-again f q = record {
        objects = s.objects;
        chains = s.chains;
        onward = λ ms o. record { from = k + 1; within = omega (arith, trail-inside, names-all o); is = on o q; skips = omega (arith, rw f at (told ms o)) };
      }

    -- the next of a chain is a later one, or none
    pub trail-less : (next : Found) → word_of next ≡ get_or nexts k 0 → to_go next < to_go left
    trail-less next q = rw e (by next q)
      where
        by : (n : Found) → word_of n ≡ get_or nexts k 0 → to_go n < 1024 - k
        by None q = omega (arith, trail-few)
        by (Some m) q =
            let o = s.objects.stand in
            let us = names_of s.objects.members in
            let l = lead us (text_at x t i) (length us - (k + 1)) (k + 1) (m + 1) (omega (arith, trail-inside, names-all o)) (on o q) (λ z. omega (arith, z)) in
            omega (arith, l.onward, l.is, l.inside, names-all o, o.few)

  pub trail-done : {left : Found} → Trailing x t offsets heads nexts i left → left ≡ None → Numbers x t offsets i None
  trail-done s h = record {
    is = λ ms o.
        let u = s.onward ms o in
        let us = names_of ms in
        let n : u.from + object_number (drop u.from us) (text_at x t i) ≡ length us =
        lead-none us (text_at x t i) (length us - u.from) u.from (omega (arith, u.within)) (sym u.is ∙ ap word_of h)
        in
        sym (names-all o) ∙ (sym n ∙ u.skips);
    low = λ k q. absurd (cc);
  }

pub ruleset chains = (
  ids,
  goes_to,
  put-told,
  filling-start,
  filling-few,
  filling-text,
  filling-turn,
  filling-done,
  trail-begin,
  trail-few,
  trail-inside,
  trail-text,
  trail-less,
  trail-found,
  trail-again,
  trail-done,
)
