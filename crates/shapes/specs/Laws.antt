-- Laws for code that checks a value of a node table:
-- the least fault of composed checks, and loops over the elements of an array and over the members of an object.
use Rattle.std.specs.Prelude.{ℕ, ◌+◌, ◌-◌, ◌*◌, ◌^◌, ◌<◌, ◌≤◌, min, ◌≡◌, Bool, ◌||◌, List, [], ◌∷◌, ◌++◌, length, get_or}
use Prim.Native.String.{String}
use Rattle.std.proofs.Math.Path.{refl, sym, ap}
use Rattle.std.proofs.Common.{◌∙◌, arith, Fits, rules as simple}
use Rattle.std.proofs.Math.Bool.{true, false, not}
use Rattle.std.proofs.Math.Seq.{slice}
use Rattle.std.specs.Int.{w64}
use borrow.Author.Tests.{not-true, not-false}
use Rattle.utf8.specs.Ascii.{ascii}
use Rattle.utf8.specs.Laws.{both_left}
use Rattle.strings.specs.Spans.{decode_at}
use Rattle.json_text.specs.Tree.{Json}
use Rattle.json_text.specs.Table.{Sub}
use Rattle.json_text.specs.Laws.{words, Left, Past, past, over, ended, MembersLeft, MemberPast, member-past, member-over, members-ended}
use Rattle.nodes.specs.Access.{is_number_value, is_string_value, is_array_value, is_object_value, listed, elements, pairs, members, first_named, find, text_of, numeral_of}
use Rattle.nodes.specs.Faults.{fault, least}
use Rattle.nodes.specs.Says.{Node, Gives, Seeks}
use Rattle.nodes.specs.Says.{Found}
use Rattle.nodes.specs.Siblings.{Elements, StepsPast}
use Rattle.nodes.specs.declared.Siblings.{Siblings}
use Rattle.nodes.specs.Walk.{Running, run-begin, run-node, run_turn, run-done}
use Rattle.nodes.specs.Reads.{node-room, node-second, node-first, node-onward}
use Rattle.nodes.specs.Laws.{place_at, text-at, numeral-at, elements-begin, fields-begin, no-elements, no-members, least-++, least-comm}
use Rattle.shapes.specs.Checks.{Check, unless, all, for_each, each_element, values, each_member, object_kind, string_kind, number_kind, array_kind, is_some, needs, text, numeral}
use Rattle.shapes.specs.Shapes.{is_integer_value}
use Rattle.shapes.specs.Says.{Needs}

-- the faults of two checks, in any order
pub least-turn : (b : ℕ) (p q : List ℕ) → least (least b p) q ≡ least (least b q) p
least-turn b p q = sym (least-++ b p q) ∙ (least-comm b p q ∙ least-++ b q p)

pub least-mix : (b : ℕ) (p q r s : List ℕ) → least b ((p ++ q) ++ (r ++ s)) ≡ least b ((p ++ r) ++ (q ++ s))
least-mix b p q r s = simp least-++ (ap (λ (m : ℕ). least m s) (least-turn (least b p) q r))

-- the least fault, check by check
pub least-for_each : (b : ℕ) (c : Check) (v : Json) (vs : List Json) → least b (for_each c (v ∷ vs)) ≡ least (least b (c v)) (for_each c vs)
unfolding for_each
least-for_each b c v vs = least-++ b (c v) (for_each c vs)

pub least-needs : (b : ℕ) (n : String) (ns : List String) (v : Json)
    → least b (needs (n ∷ ns) v) ≡ least (least b (unless (not (is_object_value v) || is_some (find n v)) 8 v)) (needs ns v)
unfolding needs
least-needs b n ns v = least-++ b (unless (not (is_object_value v) || is_some (find n v)) 8 v) (needs ns v)

-- two checks of each are one check of each and the other of each
pub least-for_each-++ : (b : ℕ) (c d : Check) (vs : List Json) → least b (for_each (λ w. c w ++ d w) vs) ≡ least b (for_each c vs ++ for_each d vs)
unfolding for_each
least-for_each-++ b c d [] = refl
least-for_each-++ b c d (v ∷ vs) =
    least-++ b (c v ++ d v) (for_each (λ w. c w ++ d w) vs)
    ∙ (least-for_each-++ (least b (c v ++ d v)) c d vs
    ∙ (sym (least-++ b (c v ++ d v) (for_each c vs ++ for_each d vs)) ∙ least-mix b (c v) (d v) (for_each c vs) (for_each d vs)))

pub least-each-++ : (b : ℕ) (c d : Check) (v : Json) → least b (each_element (λ w. c w ++ d w) v) ≡ least b (each_element c v ++ each_element d v)
unfolding each_element
least-each-++ b c d v = least-for_each-++ b c d (elements v)

-- a value that is no array has no faults in its elements, and one that is no object none in its members
pub each_none : (c : Check) (v : Json) → is_array_value v ≡ false → each_element c v ≡ []
unfolding each_element for_each
each_none c v e = ap (for_each c) (no-elements v e)

pub each_member-none : (c : Check) (v : Json) → is_object_value v ≡ false → each_member c v ≡ []
unfolding each_member for_each values
each_member-none c v e = ap (λ ms. for_each c (values ms)) (no-members v e)

pub least-none : {b : ℕ} {xs : List ℕ} → xs ≡ [] → b ≡ least b xs
unfolding least
least-none {b} e = sym (ap (least b) e)

-- an integer value is a number
pub integer-number : (v : Json) → is_integer_value v ≡ true → is_number_value v ≡ true
unfolding is_integer_value
integer-number v h = both_left (is_number_value v) _ h

pub unless-true : (best rule : ℕ) (v : Json) {b : Bool} → b ≡ true → best ≡ least best (unless b rule v)
unfolding least unless
unless-true best rule v e = rw e

module _ {x t : List ℕ} {i : ℕ} where
  pub place-fits : {p : ℕ} → Node x t i → p ≡ get_or t i 0 → p ≤ 65535
  place-fits d e = let w = words d.stands in let s = d.short in omega (arith, w.start, w.some, w.inside)

  -- where a numeral starts and ends
  module _ {r : Bool} {p e : ℕ} (d : Node x t i) (g : Gives is_number_value x t i r) (h : not r ≡ false) (q : p ≡ get_or t i 0) (s : e ≡ get_or t (i + 1) 0) where
    pub numeral-low : p ≤ e
    numeral-low = rw (q, s) (numeral-at d.stands (sym (g.is d.value d.stands) ∙ not-false r h)).low

    pub numeral-high : e ≤ length x
    numeral-high = rw s (numeral-at d.stands (sym (g.is d.value d.stands) ∙ not-false r h)).high

  -- the fault of a rule, unless it is kept
  module _ (best rule : ℕ) {kept : Bool} where
    pub unless-yes : kept ≡ true → Gives (λ v. least best (unless kept rule v)) x t i best
    unless-yes e = record { is = λ v s. unless-true best rule v e }

    pub unless-no : {p f r : ℕ} → kept ≡ false → p ≡ get_or t i 0 → f ≡ fault rule p → r ≡ min best f → Gives (λ v. least best (unless kept rule v)) x t i r
    unfolding least unless
    unless-no e q o m = record { is = λ v s. rw (e, m, o, q, ← place_at s) }

  -- a test that was computed
  pub unless-told : (best rule : ℕ) {r : ℕ} {test : Json → Bool} {b : Bool} → Gives test x t i b → Gives (λ v. least best (unless b rule v)) x t i r
      → Gives (λ v. least best (unless (test v) rule v)) x t i r
  unless-told best rule g u = record { is = λ v s. u.is v s ∙ ap (λ (b : Bool). least best (unless b rule v)) (g.is v s) }

  -- another check that has the same least fault
  pub gives_as : (best : ℕ) (c d : Check) {r : ℕ} → ((v : Json) → least best (c v) ≡ least best (d v)) → Gives (λ v. least best (c v)) x t i r
      → Gives (λ v. least best (d v)) x t i r
  gives_as best c d e g = record { is = λ v s. g.is v s ∙ e v }

  -- one check, then another
  pub gives_then : (best m : ℕ) (c d : Check) {r : ℕ} → Gives (λ v. least best (c v)) x t i m → Gives (λ v. least m (d v)) x t i r
      → Gives (λ v. least best (c v ++ d v)) x t i r
  gives_then best m c d g h = record { is = λ v s. h.is v s ∙ (ap (λ (n : ℕ). least n (d v)) (g.is v s) ∙ sym (least-++ best (c v) (d v))) }

  pub all_none : {best : ℕ} → Gives (λ v. least best (all [] v)) x t i best
  unfolding least all
  all_none = record { is = λ v s. refl }

  pub all_then : (best m : ℕ) (c : Check) (cs : List Check) {r : ℕ} → Gives (λ v. least best (c v)) x t i m → Gives (λ v. least m (all cs v)) x t i r
      → Gives (λ v. least best (all (c ∷ cs) v)) x t i r
  unfolding all
  all_then best m c cs g h = gives_then best m c (all cs) g h

  -- rule 8, name by name
  pub needs-none : {best : ℕ} → Gives (λ v. least best (needs [] v)) x t i best
  unfolding least needs
  needs-none = record { is = λ v s. refl }

  pub needs-then : (best m : ℕ) (n : String) (ns : List String) {r : ℕ} {found : Found} → Seeks (λ v. find n v) x t i found → Needs x t found i best m
      → Gives (λ v. least m (needs ns v)) x t i r → Gives (λ v. least best (needs (n ∷ ns) v)) x t i r
  needs-then best m n ns f g h =
      record { is = λ v s. h.is v s ∙ (ap (λ (a : ℕ). least a (needs ns v)) (g.is v (find n v) s (f.finds v s)) ∙ sym (least-needs best n ns v)) }

  -- a search for a name that is written as bytes
  pub seeks-find : {ws : List ℕ} {found : Found} (name : String) → ws ≡ ascii name → Seeks (λ v. first_named ws (members v)) x t i found
      → Seeks (λ v. find name v) x t i found
  unfolding find
  seeks-find name e f = rw e at f

  -- rule 7
  module _ (best : ℕ) {r : ℕ} (b : Bool) (u : Gives (λ v. least best (unless b 7 v)) x t i r) where
    pub object-is : Gives is_object_value x t i b → Gives (λ v. least best (object_kind v)) x t i r
    unfolding object_kind
    object-is g = unless-told best 7 g u

    pub string-is : Gives is_string_value x t i b → Gives (λ v. least best (string_kind v)) x t i r
    unfolding string_kind
    string-is g = unless-told best 7 g u

    pub number_is : Gives is_number_value x t i b → Gives (λ v. least best (number_kind v)) x t i r
    unfolding number_kind
    number_is g = unless-told best 7 g u

    pub array-is : Gives is_array_value x t i b → Gives (λ v. least best (array_kind v)) x t i r
    unfolding array_kind
    array-is g = unless-told best 7 g u

  -- a rule about a numeral's bytes
  pub numeral-none : (best rule : ℕ) (ok : List ℕ → Bool) {b : Bool} → Gives is_number_value x t i b → not b ≡ true
      → Gives (λ v. least best (numeral rule ok v)) x t i best
  unfolding numeral
  numeral-none best rule ok {b} g e =
      record {
        is = λ v s.
            let z : is_number_value v ≡ false = sym (g.is v s) ∙ not-true b e in
            unless-true best rule v (ap (λ (b : Bool). not b || ok (numeral_of v)) z);
      }

  pub numeral-is : (best rule : ℕ) (ok : List ℕ → Bool) {p e r : ℕ} {b k : Bool} → Gives is_number_value x t i b → not b ≡ false → p ≡ get_or t i 0
      → e ≡ get_or t (i + 1) 0 → k ≡ ok (slice p e x) → Gives (λ v. least best (unless k rule v)) x t i r → Gives (λ v. least best (numeral rule ok v)) x t i r
  unfolding numeral
  numeral-is best rule ok {p} {e} {r} {b} {k} g h q o m u = record { is = λ v s. u.is v s ∙ ap (λ (b : Bool). least best (unless b rule v)) (told v s) }
    where
      told : (v : Json) → Sub x t i v → k ≡ not (is_number_value v) || ok (numeral_of v)
      told v s = let z : is_number_value v ≡ true = sym (g.is v s) ∙ not-false b h in rw (z, (numeral-at s z).bytes, ← q, ← o) m

  -- a rule about a string's text
  pub text-none : (best rule : ℕ) (ok : List ℕ → Bool) {b : Bool} → Gives is_string_value x t i b → not b ≡ true
      → Gives (λ v. least best (text rule ok v)) x t i best
  unfolding text
  text-none best rule ok {b} g e =
      record {
        is = λ v s. let z : is_string_value v ≡ false = sym (g.is v s) ∙ not-true b e in unless-true best rule v (ap (λ (b : Bool). not b || ok (text_of v)) z);
      }

  pub text-is : (best rule : ℕ) (ok : List ℕ → Bool) {p e r : ℕ} {b k : Bool} → Gives is_string_value x t i b → not b ≡ false → p ≡ get_or t i 0
      → e ≡ get_or t (i + 1) 0 → k ≡ ok (decode_at x (p + 1) (e - 1)) → Gives (λ v. least best (unless k rule v)) x t i r
      → Gives (λ v. least best (text rule ok v)) x t i r
  unfolding text
  text-is best rule ok {p} {e} {r} {b} {k} g h q o m u = record { is = λ v s. u.is v s ∙ ap (λ (b : Bool). least best (unless b rule v)) (told v s) }
    where
      told : (v : Json) → Sub x t i v → k ≡ not (is_string_value v) || ok (text_of v)
      told v s = let z : is_string_value v ≡ true = sym (g.is v s) ∙ not-false b h in rw (z, text-at s z, ← q, ← o) m

-- A loop over the elements of the array at the node i that checks each with c has come to the node k, of those before n, with the least fault acc
pub record Pass (c : Check) (x t : List ℕ) (i best n k acc : ℕ) : Type 0 where
  pub node : Node x t i
  pub left : (v : Json) → Sub x t i v → Left x t k n (λ vs. least acc (for_each c (listed vs)) ≡ least best (each_element c v))

-- a value that is no array
pub pass-none : (c : Check) {x t : List ℕ} {i : ℕ} (best : ℕ) {r : Bool} → Gives is_array_value x t i r → not r ≡ true
    → Gives (λ v. least best (each_element c v)) x t i best
pass-none c best {r} g e = record { is = λ v s. least-none (each_none c v (sym (g.is v s) ∙ not-true r e)) }

module _ {c : Check} {x t : List ℕ} {i best : ℕ} where
  -- where the loop begins, at an array
  pub pass-start : {n : ℕ} → Node x t i → Gives is_array_value x t i true → n ≡ get_or t (i + 2) 0 → Pass c x t i best n (i + 3) best
  unfolding each_element
  pass-start d g q =
      record { node = d; left = λ v s. rw q (elements-begin (λ vs. least best (for_each c vs) ≡ least best (each_element c v)) s (sym (g.is v s)) refl) }

  pub pass-begin : {r : Bool} {n : ℕ} → Node x t i → Gives is_array_value x t i r → not r ≡ false → n ≡ get_or t (i + 2) 0 → Pass c x t i best n (i + 3) best
  pass-begin {r} d g e q = pass-start d (rw (not-false r e) at g) q

  module _ {n k acc : ℕ} (p : Pass c x t i best n k acc) where
    here : k < n → Past x t k n (λ vs. least acc (for_each c (listed vs)) ≡ least best (each_element c p.node.value))
    here l = past (p.left p.node.value p.node.stands) l

    -- the node where it has come to
    pub pass-node : k < n → Node x t k
    pass-node l = let u = here l in record { value = u.value; stands = u.stands; short = p.node.short }

    pub pass-room : k < n → k + 2 < length t
    pass-room l = (here l).word.room

    -- one turn
    pub pass-turn : {m acc' : ℕ} → k < n → Gives (λ w. least acc (c w)) x t k acc' → m ≡ get_or t (k + 2) 0 → Pass c x t i best n m acc'
    unfolding listed
    pass-turn l g q =
        record {
          node = p.node;
          left = λ v s.
              let u = past (p.left v s) l in
              rw q
              (over u
              (ap (λ (a : ℕ). least a (for_each c (listed u.others))) (g.is u.value u.stands)
              ∙ (sym (least-for_each acc c u.value (listed u.others)) ∙ u.holds)));
        }

    pub pass-less : {m : ℕ} → k < n → m ≡ get_or t (k + 2) 0 → n - m < n - k
    pass-less l q = let u = here l in omega (arith, u.more, u.within)

    -- its end
    pub pass-done : n ≤ k → Gives (λ v. least best (each_element c v)) x t i acc
    unfolding listed for_each least
    pass-done h = record { is = λ v s. ended (p.left v s) h }

-- The same loop by an iterator, which has come to s
pub record Passing (c : Check) (x t : List ℕ) (i best : ℕ) (s : Siblings) (acc : ℕ) : Type 0 where
  pub run : Running x t i s (λ all left. least acc (for_each c left) ≡ least best (for_each c all))

pub passing-begin : {c : Check} {x t : List ℕ} {i best : ℕ} {s r : Siblings} → Node x t i → Elements x t i r → s ≡ r → Passing c x t i best s best
passing-begin {c} {best = best} d e q = record { run = run-begin (λ all left. least best (for_each c left) ≡ least best (for_each c all)) d e q (λ l. refl) }

module _ {c : Check} {x t : List ℕ} {i best : ℕ} {s : Siblings} {acc : ℕ} (p : Passing c x t i best s acc) where
  module _ {k : ℕ} {u : Siblings} (g : StepsPast s k u) where
    pub passing-node : Node x t k
    passing-node = run-node p.run g

    -- one turn
    pub passing-turn : {acc' : ℕ} → Gives (λ w. least acc (c w)) x t k acc' → Passing c x t i best u acc'
    passing-turn {acc'} h = record {
      run = run_turn p.run g (λ all left. least acc' (for_each c left) ≡ least best (for_each c all))
          (λ all v vs z o. ap (λ (a : ℕ). least a (for_each c vs)) (h.is v z) ∙ (sym (least-for_each acc c v vs) ∙ o));
    }

  -- its end
  pub passing-done : {u : Siblings} → (s.end ≤ s.at) × (u ≡ s) → Gives (λ v. least best (each_element c v)) x t i acc
  unfolding each_element for_each least
  passing-done h = record { is = λ v z. run-done p.run h.0 z }

-- two checks of each element
pub each_both : {x t : List ℕ} {i : ℕ} (best : ℕ) (c d : Check) {r : ℕ} → Gives (λ v. least best (each_element (λ w. c w ++ d w) v)) x t i r
    → Gives (λ v. least best (each_element c v ++ each_element d v)) x t i r
each_both best c d g = gives_as best (each_element (λ w. c w ++ d w)) (λ v. each_element c v ++ each_element d v) (least-each-++ best c d) g

-- the fault of a rule at a value of another kind, and a check d of the kind's values, which finds none in others: at such a value, and at one of the kind
module _ {x t : List ℕ} {i : ℕ} (best rule : ℕ) {kind : Json → Bool} (d : Check) {r : ℕ} {b : Bool} (g : Gives kind x t i b) where
  pub kind-no : ((v : Json) → kind v ≡ false → d v ≡ []) → not b ≡ true → Gives (λ v. least best (unless b rule v)) x t i r
      → Gives (λ v. least best (unless (kind v) rule v ++ d v)) x t i r
  kind-no f e u =
      gives_then best r (λ v. unless (kind v) rule v) d (unless-told best rule g u) (record { is = λ v s. least-none (f v (sym (g.is v s) ∙ not-true b e)) })

  pub kind-yes : not b ≡ false → Gives (λ v. least best (d v)) x t i r → Gives (λ v. least best (unless (kind v) rule v ++ d v)) x t i r
  kind-yes e p = gives_then best best (λ v. unless (kind v) rule v) d (unless-told best rule g (unless-yes best rule (not-false b e))) p

-- A loop over the members of the object at the node i that checks each member's value with c has come to the name's node k,
-- of those before n, with the least fault acc
pub record MemberPass (c : Check) (x t : List ℕ) (i best n k acc : ℕ) : Type 0 where
  pub node : Node x t i
  pub left : (v : Json) → Sub x t i v → MembersLeft x t k n (λ ms. least acc (for_each c (values (pairs ms))) ≡ least best (each_member c v))

-- a value that is no object
pub members-none : (c : Check) {x t : List ℕ} {i : ℕ} (best : ℕ) {r : Bool} → Gives is_object_value x t i r → not r ≡ true
    → Gives (λ v. least best (each_member c v)) x t i best
members-none c best {r} g e = record { is = λ v s. least-none (each_member-none c v (sym (g.is v s) ∙ not-true r e)) }

module _ {c : Check} {x t : List ℕ} {i best : ℕ} where
  -- where the loop begins, at an object
  pub members-start : {n : ℕ} → Node x t i → Gives is_object_value x t i true → n ≡ get_or t (i + 2) 0 → MemberPass c x t i best n (i + 3) best
  unfolding each_member
  members-start d g q =
      record { node = d; left = λ v s. rw q (fields-begin (λ ms. least best (for_each c (values ms)) ≡ least best (each_member c v)) s (sym (g.is v s)) refl) }

  pub members-begin : {r : Bool} {n : ℕ} → Node x t i → Gives is_object_value x t i r → not r ≡ false → n ≡ get_or t (i + 2) 0
      → MemberPass c x t i best n (i + 3) best
  members-begin {r} d g e q = members-start d (rw (not-false r e) at g) q

  module _ {n k acc : ℕ} (p : MemberPass c x t i best n k acc) where
    this : k < n → MemberPast x t k n (λ ms. least acc (for_each c (values (pairs ms))) ≡ least best (each_member c p.node.value))
    this l = member-past (p.left p.node.value p.node.stands) l

    -- the node of the value of the member where it has come to
    pub members-node : k < n → Node x t (k + 3)
    members-node l = let u = this l in record { value = u.value; stands = u.stands; short = p.node.short }

    pub members-room : k < n → k + 3 + 2 < length t
    members-room l = (this l).word.room

    pub members-onward : k < n → length t * 4 < 2 ^ 63 → Fits w64 (k + 3)
    members-onward l h = let u = this l in record { fits = omega (arith, u.word.room) }

    -- one turn
    pub members-turn : {m acc' : ℕ} → k < n → Gives (λ w. least acc (c w)) x t (k + 3) acc' → m ≡ get_or t (k + 3 + 2) 0 → MemberPass c x t i best n m acc'
    unfolding pairs values
    members-turn l g q =
        record {
          node = p.node;
          left = λ v s.
              let u = member-past (p.left v s) l in
              rw q
              (member-over u
              (ap (λ (a : ℕ). least a (for_each c (values (pairs u.others)))) (g.is u.value u.stands)
              ∙ (sym (least-for_each acc c u.value (values (pairs u.others))) ∙ u.holds)));
        }

    pub members-less : {m : ℕ} → k < n → m ≡ get_or t (k + 3 + 2) 0 → n - m < n - k
    members-less l q = let u = this l in omega (arith, u.more, u.within)

    -- its end
    pub members-done : n ≤ k → Gives (λ v. least best (each_member c v)) x t i acc
    unfolding pairs values for_each least
    members-done h = record { is = λ v s. members-ended (p.left v s) h }

-- what `search` is handed to close what a function over checks leaves
pub ruleset checking = (
  simple,
  node-room,
  node-second,
  node-first,
  node-onward,
  place-fits,
  numeral-low,
  numeral-high,
  unless-yes,
  object-is,
  string-is,
  number_is,
  array-is,
  numeral-none,
  numeral-is,
  text-none,
  text-is,
  pass-none,
  pass-start,
  pass-begin,
  pass-node,
  pass-room,
  pass-turn,
  pass-less,
  pass-done,
  passing-begin,
  passing-node,
  passing-turn,
  passing-done,
  members-none,
  members-start,
  members-begin,
  members-node,
  members-room,
  members-onward,
  members-turn,
  members-less,
  members-done,
)
