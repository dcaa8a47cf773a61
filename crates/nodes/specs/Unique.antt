-- One value stands at a node of a table: the table tells the tree.
use Rattle.std.specs.Prelude.{ℕ, ◌≡◌, refl, Bool, true, false, List, get_or}
use Rattle.std.proofs.Common.{arith, sym, ap, ◌∙◌}
use Rattle.utf8.specs.Laws.{clash}
use Rattle.json_text.specs.Tree.{Json, Items, Members, Name}
use Rattle.json_text.specs.Table.{size, sizes, widths, Words, lead, Sub, null, bool, num, str, arr, obj, Subs, nil, cons, Fields, last, field}
use Rattle.json_text.specs.Laws.{kind_of, kind-of, size-pos}

same-lead : (b c : Bool) → lead b ≡ lead c → b ≡ c
same-lead true true h = refl
same-lead true false h = absurd (omega arith)
same-lead false true h = absurd (omega arith)
same-lead false false h = refl

same_name : (k l : Name) → k.place ≡ l.place → k.end ≡ l.end → k.raw ≡ l.raw → k ≡ l
same_name k l p e r = λ i. record { place = p i; end = e i; raw = r i }

-- the words at a node are those of one place, end and next node
record Agree (p e n p' e' n' : ℕ) : Type 0 where
  start : p ≡ p'
  end : e ≡ e'
  next : n ≡ n'

module _ {x t : List ℕ} where
  agree : {i p e b n p' e' b' n' : ℕ} → Words x t i p e b n → Words x t i p' e' b' n' → Agree p e n p' e' n'
  agree u w = record { start = sym u.start ∙ w.start; end = sym u.end ∙ w.end; next = sym u.next ∙ w.next }

  -- a value starts with one byte
  same_byte : {i p e b n p' e' b' n' : ℕ} → Words x t i p e b n → Words x t i p' e' b' n' → b ≡ b'
  same_byte u w = sym u.byte ∙ ap (λ k. get_or x k 0) (agree u w).start ∙ w.byte

  same_kind : {i : ℕ} {v w : Json} → Sub x t i v → Sub x t i w → kind_of v ≡ kind_of w
  same_kind s u = sym (kind-of s) ∙ kind-of u

  mutual
    unfolding size kind_of

    go : {i : ℕ} {v w : Json} → Sub x t i v → Sub x t i w → kind_of v ≡ kind_of w → v ≡ w
    go (null u) (null w) k = let a = agree u w in rw (a.start, a.end)
    go (null u) (bool w) k = clash cc
    go (null u) (num w n r) k = clash cc
    go (null u) (str q) k = clash cc
    go (null u) (arr w ss) k = clash cc
    go (null u) (obj w fs) k = clash cc
    go (bool u) (null w) k = clash cc
    go (bool {b = b} u) (bool {b = c} w) k = let a = agree u w in rw (a.start, a.end, same-lead b c (same_byte u w))
    go (bool u) (num w n r) k = clash cc
    go (bool u) (str q) k = clash cc
    go (bool u) (arr w ss) k = clash cc
    go (bool u) (obj w fs) k = clash cc
    go (num u m o) (null w) k = clash cc
    go (num u m o) (bool w) k = clash cc
    go (num u m o) (num w n r) k = let a = agree u w in rw (o, r, a.start, a.end)
    go (num u m o) (str q) k = clash cc
    go (num u m o) (arr w ss) k = clash cc
    go (num u m o) (obj w fs) k = clash cc
    go (str p) (null w) k = clash cc
    go (str p) (bool w) k = clash cc
    go (str p) (num w n r) k = clash cc
    go (str p) (str q) k = let a = agree p.words q.words in rw (p.between, q.between, a.start, a.end)
    go (str p) (arr w ss) k = clash cc
    go (str p) (obj w fs) k = clash cc
    go (arr u rs) (null w) k = clash cc
    go (arr u rs) (bool w) k = clash cc
    go (arr u rs) (num w n r) k = clash cc
    go (arr u rs) (str q) k = clash cc
    go (arr u rs) (arr w ss) k = let a = agree u w in rw (a.start, a.end, unique-items rs ss (omega (arith, a.next)))
    go (arr u rs) (obj w fs) k = clash cc
    go (obj u gs) (null w) k = clash cc
    go (obj u gs) (bool w) k = clash cc
    go (obj u gs) (num w n r) k = clash cc
    go (obj u gs) (str q) k = clash cc
    go (obj u gs) (arr w ss) k = clash cc
    go (obj u gs) (obj w fs) k = let a = agree u w in rw (a.start, a.end, unique-members gs fs (omega (arith, a.next)))

    unique-items : {i : ℕ} {vs ws : Items} → Subs x t i vs → Subs x t i ws → sizes vs ≡ sizes ws → vs ≡ ws
    unique-items nil nil h = refl
    unique-items nil (cons {v = w} u us) h = absurd (omega (arith, size-pos w))
    unique-items (cons {v = v} s ss) nil h = absurd (omega (arith, size-pos v))
    unique-items (cons {v = v} {vs = vs} s ss) (cons {v = w} {vs = ws} u us) h =
        let e = go s u (same_kind s u) in
        rw (e, unique-items ss (rw (← e) at us) (omega (arith, ap size e)))

    unique-members : {i : ℕ} {ms ns : Members} → Fields x t i ms → Fields x t i ns → widths ms ≡ widths ns → ms ≡ ns
    unique-members last last h = refl
    unique-members last (field {v = w} q u us) h = absurd (omega (arith, size-pos w))
    unique-members (field {v = v} p s ss) last h = absurd (omega (arith, size-pos v))
    unique-members (field {k = k} {v = v} p s ss) (field {k = l} {v = w} q u us) h =
        let e = go s u (same_kind s u) in
        let a = agree p.words q.words in
        let z : k ≡ l = same_name k l a.start a.end (p.between ∙ rw (a.start, a.end) (sym q.between)) in
        rw (z, e, unique-members ss (rw (← e) at us) (omega (arith, ap size e)))

  pub unique : {i : ℕ} {v w : Json} → Sub x t i v → Sub x t i w → v ≡ w
  unique s u = go s u (same_kind s u)
