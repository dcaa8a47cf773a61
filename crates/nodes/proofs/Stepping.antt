-- The iterator over what stands one after another in a table.
use Rattle.std.specs.Prelude.{ℕ, ◌+◌, ◌-◌, ◌<◌, ◌≡◌, List, Bool, true, false, length, get_or, Some, ⊤}
use Rattle.std.specs.Iterator.{at_most, MakesProgress}
use Rattle.std.proofs.Common.{add_assoc, arith, ap, refl, sym, ◌∙◌, rules}
use Rattle.json_text.specs.Tree.{Items, Members}
use Rattle.json_text.specs.Table.{size, sizes, widths, Subs, nil, cons, Fields, last, field}
use Rattle.json_text.specs.Laws.{words, size-pos}
use Rattle.nodes.specs.Access.{is_array_value, is_object_value}
use Rattle.nodes.specs.Laws.{elements-begin, object-begin}
use Rattle.nodes.specs.Says.{Node, Gives}
use Rattle.nodes.specs.Reads.{node-room}
use Rattle.nodes.specs.Siblings.{Chain, here, onward, CanStep, StepsPast, Begins, Elements, Names}
use Rattle.nodes.specs.declared.Siblings.{Siblings}

-- a step, where there is one
record Turn (t : List ℕ) (lead n k : ℕ) : Type 0 where
  room : k + lead + 2 < length t
  more : k < get_or t (k + lead + 2) 0
  then : Chain t lead n (get_or t (k + lead + 2) 0)

turn : {t : List ℕ} {lead n k : ℕ} → Chain t lead n k → k < n → Turn t lead n k
turn here l = absurd (omega arith)
turn (onward r m c) l = record { room = r; more = m; then = c }

module _ {s : Siblings} (c : CanStep s) (l : s.at < s.end) where
  pub step-room : s.at + s.lead + 2 < length s.table.now
  step-room = (turn c.chain l).room

  step-onward : {m : ℕ} → m ≡ get_or s.table.now (s.at + s.lead + 2) 0 → s.at < m
  step-onward q = rw q (turn c.chain l).more

  pub step-progress : {m : ℕ} → m ≡ get_or s.table.now (s.at + s.lead + 2) 0
      → MakesProgress CanStep (λ u. at_most (u.end - u.at)) s (Some s.at) (record { table = s.table; at = m; end = s.end; lead = s.lead })
  step-progress {m} q =
      let o = step-onward q in
      let d : s.end - m < s.end - s.at = omega (arith, o, l) in
      let k : CanStep (record { table = s.table; at = m; end = s.end; lead = s.lead }) = record { chain = rw q (turn c.chain l).then } in
      record { on = λ f. (k, f, d); keeps = k; rests = λ f. tt }

  pub step-past : {m : ℕ} → m ≡ get_or s.table.now (s.at + s.lead + 2) 0
      → StepsPast s s.at (record { table = s.table; at = m; end = s.end; lead = s.lead })
  step-past q = record { more = l; node = refl; table = refl; end = refl; lead = refl; at = q; onward = step-onward q }

-- the words of elements, and those of members, lead so to their end
module _ {x t : List ℕ} where
  chain-items : {k n : ℕ} {vs : Items} → Subs x t k vs → k + sizes vs ≡ n → Chain t 0 n k
  unfolding sizes
  chain-items {k} {n} nil e = let z : n ≡ k = omega (arith, e) in rw z here
  chain-items {k} {n} (cons {v = v} {vs = vs} s ss) e =
      let w = words s in
      let p : k + 0 + 2 ≡ k + 2 = omega arith in
      let z : get_or t (k + 0 + 2) 0 ≡ k + size v = rw p w.next in
      onward (omega (arith, w.room)) (rw z (omega (arith, size-pos v))) (rw z (chain-items ss (omega (arith, e))))

  chain-members : {k n : ℕ} {ms : Members} → Fields x t k ms → k + widths ms ≡ n → Chain t 3 n k
  unfolding widths
  chain-members {k} {n} last e = let z : n ≡ k = omega (arith, e) in rw z here
  chain-members {k} {n} (field {v = v} {ms = ms} q s fs) e =
      let w = words s in
      let z : get_or t (k + 3 + 2) 0 ≡ k + (3 + size v) = w.next ∙ add_assoc k 3 (size v) in
      onward w.room (rw z (omega (arith, size-pos v))) (rw z (chain-members fs (omega (arith, e))))

-- where it begins: at the first of an array or an object, or at its end
module _ {x : List ℕ} {t : List ℕ} {i : ℕ} {s : Siblings} (d : Node x t i) where
  pub elements-walk : {b : Bool} → Gives is_array_value x t i b → Begins t i b 0 s → CanStep s
  elements-walk {b = true} g e =
      let l = elements-begin (λ vs. ⊤) d.stands (sym (g.is d.value d.stands)) tt in
      record { chain = rw (e.table, e.at, e.lead, e.end) (chain-items l.stand l.ends) }
  elements-walk {b = false} g e = record { chain = rw (e.table, e.at, e.lead, e.end) here }

  pub elements-whole : {b : Bool} → Gives is_array_value x t i b → Begins t i b 0 s → Elements x t i s
  elements-whole g e = record { table = e.table; at = e.at; lead = e.lead; end = λ v z. rw (← g.is v z) e.end }

  pub names-walk : {b : Bool} → Gives is_object_value x t i b → Begins t i b 3 s → CanStep s
  names-walk {b = true} g e =
      let l = object-begin {P = λ ms. ⊤} d.stands (sym (g.is d.value d.stands)) tt in
      record { chain = rw (e.table, e.at, e.lead, e.end) (chain-members l.stand l.ends) }
  names-walk {b = false} g e = record { chain = rw (e.table, e.at, e.lead, e.end) here }

  pub names-whole : {b : Bool} → Gives is_object_value x t i b → Begins t i b 3 s → Names x t i s
  names-whole g e = record { table = e.table; at = e.at; lead = e.lead; end = λ v z. rw (← g.is v z) e.end }

pub ruleset siblings = (
  rules,
  node-room,
  step-room,
  step-progress,
  step-past,
  elements-walk,
  elements-whole,
  names-walk,
  names-whole,
)
