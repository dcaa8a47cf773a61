-- A loop over the values of a list, whatever it gathers: P all left says what holds of the list and of what is left of it.
use Rattle.std.specs.Prelude.{ℕ, ◌+◌, ◌-◌, ◌≤◌, ◌<◌, ◌≡◌, Bool, true, false, not, cond, List, [], ◌∷◌, length, get_or}
use Rattle.std.proofs.Common.{arith, refl, sym, ◌∙◌}
use Rattle.std.proofs.lemmas.Bool.{not-false}
use Rattle.json_text.specs.Tree.{Json, Items, no_items, empty}
use Rattle.json_text.specs.Table.{Sub, sizes, widths, nil, last}
use Rattle.json_text.specs.Laws.{Left, Past, past, over, ended, MembersLeft, MemberPast, member-past, member-over, members-ended}
use Rattle.nodes.specs.Access.{is_array_value, is_object_value, listed, elements, pairs, members, Member, name_of}
use Rattle.strings.specs.Spans.{Span, decode_at}
use Rattle.nodes.specs.Reads.{string-first, string-second, string-some, string-span}
use Rattle.nodes.specs.Laws.{StringAt, quoted-at, elements-begin, fields-begin, no-elements, no-members}
use Rattle.nodes.specs.Siblings.{Elements, Names, StepsPast}
use Rattle.nodes.specs.declared.Siblings.{Siblings}
use Rattle.nodes.specs.Says.{Node, Gives}

-- the loop over the list at the node i has come to the node k
pub record Walking (x t : List ℕ) (i n k : ℕ) (P : List Json → List Json → Type 0) : Type 0 where
  node : Node x t i
  left : (v : Json) → Sub x t i v → Left x t k n (λ vs. P (elements v) (listed vs))

module _ {x t : List ℕ} {i : ℕ} where
  pub walk-begin : {n : ℕ} {b : Bool} (P : List Json → List Json → Type 0) → Node x t i → Gives is_array_value x t i b → not b ≡ false
      → n ≡ get_or t (i + 2) 0 → ((l : List Json) → P l l) → Walking x t i n (i + 3) P
  walk-begin {b = b} P d a h q f = record {
    node = d;
    left = λ v s. rw q (elements-begin (P (elements v)) s (sym (a.is v s) ∙ not-false b h) (f (elements v)));
  }

  module _ {n k : ℕ} {P : List Json → List Json → Type 0} (w : Walking x t i n k P) where
    module _ (l : k < n) where
      present : Past x t k n (λ vs. P (elements w.node.value) (listed vs))
      present = past (w.left w.node.value w.node.stands) l

      pub walk-node : Node x t k
      walk-node = let u = present in record { value = u.value; stands = u.stands; short = w.node.short }

      pub walk-next : k + 2 < length t
      walk-next = present.word.room

      pub walk-less : {m : ℕ} → m ≡ get_or t (k + 2) 0 → n - m < n - k
      walk-less q = let u = present in omega (arith, u.more, u.within)

      -- what follows where a value is left
      pub walk-known : {A : Type 0} {v : Json} → Sub x t i v → ((u : Json) (vs : List Json) → P (elements v) (u ∷ vs) → A) → A
      unfolding listed
      walk-known {v = v} s f = let u = past (w.left v s) l in f u.value (listed u.others) u.holds

      pub walk_turn : {m : ℕ} (Q : List Json → List Json → Type 0) → m ≡ get_or t (k + 2) 0
          → ((all : List Json) (v : Json) (vs : List Json) → Sub x t k v → P all (v ∷ vs) → Q all vs) → Walking x t i n m Q
      unfolding listed
      walk_turn Q q f = record {
        node = w.node;
        left = λ v s. let u = past (w.left v s) l in rw q (over u (f (elements v) u.value (listed u.others) u.stands u.holds));
      }

    pub walk-done : {v : Json} → n ≤ k → Sub x t i v → P (elements v) []
    unfolding listed
    walk-done {v} h s = ended (w.left v s) h

-- Where the loop goes by an iterator: what is known of it where it begins
module _ {x t : List ℕ} {i : ℕ} {s : Siblings} (e : Elements x t i s) where
  pub elements_left : {v : Json} (P : List Json → Type 0) → Sub x t i v → P (elements v) → Left x t s.at s.end (λ vs. P (listed vs))
  unfolding listed sizes
  elements_left {v} P z p = go (is_array_value v) refl (e.end v z)
    where
      go : (b : Bool) → is_array_value v ≡ b → s.end ≡ cond b (get_or t (i + 2) 0) (i + 3) → Left x t s.at s.end (λ vs. P (listed vs))
      go true h q = rw (e.at, q) (elements-begin P z h p)
      go false h q = record { items = no_items; stand = nil; ends = omega (arith, e.at, q); holds = rw (no-elements v h) at p }

-- past the node k, what is left is the others
pub left_onward : {x t : List ℕ} {s u : Siblings} {k : ℕ} {P Q : Items → Type 0} → StepsPast s k u → s.table.now ≡ t → s.lead ≡ 0 → (y : Past x t s.at s.end P)
    → Q y.others → Left x t u.at u.end Q
left_onward {s = s} g e l y q = let n : s.at + s.lead + 2 ≡ s.at + 2 = omega (arith, l) in rw (g.at, g.end, e, n) (over y q)

-- a loop by an iterator over the elements of the value at the node i, which has come to s: P all left says what holds of the list and of what is left
pub record Running (x t : List ℕ) (i : ℕ) (s : Siblings) (P : List Json → List Json → Type 0) : Type 0 where
  pub node : Node x t i
  pub table : s.table.now ≡ t
  pub lead : s.lead ≡ 0
  pub left : (v : Json) → Sub x t i v → Left x t s.at s.end (λ vs. P (elements v) (listed vs))

module _ {x t : List ℕ} {i : ℕ} {s : Siblings} where
  pub run-begin : {r : Siblings} (P : List Json → List Json → Type 0) → Node x t i → Elements x t i r → s ≡ r → ((l : List Json) → P l l) → Running x t i s P
  run-begin P d e q f = rw q (record { node = d; table = e.table; lead = e.lead; left = λ v z. elements_left e (P (elements v)) z (f (elements v)) })

  module _ {P : List Json → List Json → Type 0} (w : Running x t i s P) where
    module _ {k : ℕ} {u : Siblings} (g : StepsPast s k u) where
      now : Past x t s.at s.end (λ vs. P (elements w.node.value) (listed vs))
      now = past (w.left w.node.value w.node.stands) g.more

      pub run-node : Node x t k
      run-node = let u = now in rw g.node (record { value = u.value; stands = u.stands; short = w.node.short })

      -- what follows where a value is left
      pub run-known : {A : Type 0} {v : Json} → Sub x t i v → ((y : Json) (vs : List Json) → Sub x t k y → P (elements v) (y ∷ vs) → A) → A
      unfolding listed
      run-known {v = v} z f = let y = past (w.left v z) g.more in f y.value (listed y.others) (rw g.node y.stands) y.holds

      pub run_turn : (Q : List Json → List Json → Type 0) → ((all : List Json) (v : Json) (vs : List Json) → Sub x t k v → P all (v ∷ vs) → Q all vs)
          → Running x t i u Q
      unfolding listed
      run_turn Q f = record {
        node = w.node;
        table = g.table ∙ w.table;
        lead = g.lead ∙ w.lead;
        left = λ v z.
            let y = past (w.left v z) g.more in
            left_onward g w.table w.lead y (f (elements v) y.value (listed y.others) (rw g.node y.stands) y.holds);
      }

    pub run-done : {v : Json} → s.end ≤ s.at → Sub x t i v → P (elements v) []
    unfolding listed
    run-done {v} h z = ended (w.left v z) h

-- The same over the names of the members of the value at the node i
pub record RunningNames (x t : List ℕ) (i : ℕ) (s : Siblings) (P : List Member → List Member → Type 0) : Type 0 where
  pub node : Node x t i
  pub table : s.table.now ≡ t
  pub lead : s.lead ≡ 3
  pub left : (v : Json) → Sub x t i v → MembersLeft x t s.at s.end (λ ms. P (members v) (pairs ms))

module _ {x t : List ℕ} {i : ℕ} {s : Siblings} where
  names_left : (e : Names x t i s) {v : Json} (P : List Member → Type 0) → Sub x t i v → P (members v) → MembersLeft x t s.at s.end (λ ms. P (pairs ms))
  unfolding pairs widths
  names_left e {v} P z p = go (is_object_value v) refl (e.end v z)
    where
      go : (b : Bool) → is_object_value v ≡ b → s.end ≡ cond b (get_or t (i + 2) 0) (i + 3) → MembersLeft x t s.at s.end (λ ms. P (pairs ms))
      go true h q = rw (e.at, q) (fields-begin P z h p)
      go false h q = record { members = empty; stand = last; ends = omega (arith, e.at, q); holds = rw (no-members v h) at p }

  pub names-begin : {r : Siblings} (P : List Member → List Member → Type 0) → Node x t i → Names x t i r → s ≡ r → ((l : List Member) → P l l)
      → RunningNames x t i s P
  names-begin P d e q f = record {
    node = d;
    table = rw q e.table;
    lead = rw q e.lead;
    left = λ v z. names_left (rw q e) (P (members v)) z (f (members v));
  }

  module _ {P : List Member → List Member → Type 0} (w : RunningNames x t i s P) where
    module _ {k : ℕ} {u : Siblings} (g : StepsPast s k u) where
      -- the member whose name stands at k, and the others
      pub names-past : {v : Json} → Sub x t i v → MemberPast x t k s.end (λ ms. P (members v) (pairs ms))
      names-past z = rw g.node (member-past (w.left _ z) g.more)

      pub names-node : Node x t (k + 3)
      names-node = let y = names-past w.node.stands in record { value = y.value; stands = y.stands; short = w.node.short }

      names-string : StringAt x t k (names-past w.node.stands).key.raw
      names-string = quoted-at (names-past w.node.stands).quoted

      pub names-first : k < length t
      names-first = string-first names-string

      pub names-second : k + 1 < length t
      names-second = string-second names-string

      pub names-some : {e : ℕ} → e ≡ get_or t (k + 1) 0 → 1 ≤ e
      names-some q = string-some names-string q

      pub names-span : {p e : ℕ} → p ≡ get_or t k 0 → e ≡ get_or t (k + 1) 0 → Span x (p + 1) (e - 1)
      names-span q r = string-span names-string q r

      pub names-turn : (Q : List Member → List Member → Type 0)
          → ((all : List Member) (m : Member) (ms : List Member) → Sub x t (k + 3) m.1 → name_of m ≡ decode_at x (get_or t k 0 + 1) (get_or t (k + 1) 0 - 1)
          → P all (m ∷ ms) → Q all ms)
          → RunningNames x t i u Q
      unfolding pairs name_of
      names-turn Q f = record {
        node = w.node;
        table = g.table ∙ w.table;
        lead = g.lead ∙ w.lead;
        left = λ v z.
            let y = names-past z in
            let n : s.at + s.lead + 2 ≡ k + 3 + 2 = omega (arith, w.lead, g.node) in
            rw (g.at, g.end, w.table, n) (member-over y (f (members v) (y.key, y.value) (pairs y.others) y.stands (quoted-at y.quoted).text y.holds));
      }

    pub names-done : {v : Json} → s.end ≤ s.at → Sub x t i v → P (members v) []
    unfolding pairs
    names-done {v} h z = members-ended (w.left v z) h
