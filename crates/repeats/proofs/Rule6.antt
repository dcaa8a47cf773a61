-- Rule 6 at one name and at one object.
use Prim.Native.Nat.{ℕ, ◌+◌, ◌*◌, ◌≤◌, ◌<◌, min}
use mathlib.Core.Path.{◌≡◌, refl, sym, ap, ◌∙◌}
use mathlib.Core.Bool.{Bool, true, false, cond, ◌||◌, or-false, or-true}
use mathlib.Core.List.{List, [], ◌∷◌, map, map-append}
use native.Mathlib.Nat.{add-zero}
use native.Mathlib.Omega.{arith}
use lib.ListN.{length, get_or, replicate}
use borrow.Author.Rules.{rules}
use Rattle.std.proofs.Common.{add_assoc}
use borrow.Author.Tests.{eq-eqb, ne_eqb}
use Rattle.std.specs.Prelude.{Option, Some, None}
use Rattle.utf8.specs.Utf8.{same}
use Rattle.strings.specs.Strings.{decode}
use Rattle.json_text.specs.Tree.{Json, Members, member, with, Name}
use Rattle.json_text.specs.Tree as tree
use Rattle.json_text.specs.Table.{size, widths, Quoted, Sub, Fields, last, field}
use Rattle.json_text.specs.Laws.{Tree, words, size-pos, widths-with, fields-with, MembersLeft, MemberPast, member-past, member-over, members-ended}
use Rattle.nodes.specs.Access.{is_object_value}
use Rattle.nodes.specs.Faults.{fault, least}
use Rattle.everywhere.specs.Everywhere.{among, repeated}
use Rattle.nodes.specs.Laws.{quoted-at, kinds, fields_of, object-begin, no_fields, least-++, fresh-zero, fresh-length}
use Rattle.everywhere.specs.Parts.{Part, value}
use Rattle.everywhere.specs.Says.{Stands, of-value, of-name, AnyPart, PartGives, text_at}
use Rattle.repeats.specs.Names.{own6, PartTells, earlier, NameText, NameNode, Repeats, RepeatGives}
use Rattle.repeats.specs.Chains.{Chains, ChainAt, ChainGives, LongObject}
use Rattle.repeats.specs.Entries.{Entries, EntryAt, EntryGives, FreshObject}
use Rattle.repeats.specs.declared.Turn.{Turn}
use Rattle.repeats.proofs.Links.{chains-begin}
use Rattle.repeats.proofs.Entries.{entries-begin}
use Rattle.repeats.proofs.Passes.{Lent, lent-begin, lent-on}
use Rattle.nodes.specs.Siblings.{Chain, here, onward, CanStep, Names, StepsPast}
use Rattle.nodes.specs.declared.Siblings.{Siblings}
use Rattle.everywhere.proofs.Any.{any-third}

-- is a text among the names of some members, in their order?
unfoldable named : Members → List ℕ → Bool
unfolding decode
named tree.empty w = false
named (member k v ms) w = same (decode k.raw) w || named ms w

-- the order does not matter
swap : (a b c : Bool) → (b || (a || c)) ≡ (a || b || c)
swap true b c = or-true b
swap false b c = refl

among-earlier : (us : List (List ℕ)) (ms : Members) (w : List ℕ) → among (earlier us ms) w ≡ (named ms w || among us w)
unfolding earlier named among
among-earlier us tree.empty w = refl
among-earlier us (member k v ms) w = among-earlier (decode k.raw ∷ us) ms w ∙ swap (same (decode k.raw) w) (named ms w) (among us w)

among-named : (ms : Members) (w : List ℕ) → among (earlier [] ms) w ≡ named ms w
unfolding among
among-named ms w = among-earlier [] ms w ∙ or-false (named ms w)

-- one name more
earlier-with : (us : List (List ℕ)) (ms : Members) (k : Name) (v : Json) → earlier us (with ms k v) ≡ decode k.raw ∷ earlier us ms
unfolding earlier with
earlier-with us tree.empty k v = refl
earlier-with us (member j u ms) k v = earlier-with (decode j.raw ∷ us) ms k v

-- The iterator s gives names of members of the table t
record Over (t : List ℕ) (s : Siblings) : Type 0 where
  table : s.table.now ≡ t
  lead : s.lead ≡ 3

-- past one name, which stands at the node k
over-past : {x t : List ℕ} {s u : Siblings} {k : ℕ} {P : Members → Type 0} → StepsPast s k u → MembersLeft x t s.at s.end P → MemberPast x t k s.end P
over-past g l = rw g.node (member-past l g.more)

module _ {t : List ℕ} {s u : Siblings} {k : ℕ} (o : Over t s) (g : StepsPast s k u) where
  over-at : u.at ≡ get_or t (k + 3 + 2) 0
  over-at = let n : s.at + s.lead + 2 ≡ k + 3 + 2 = omega (arith, o.lead, g.node) in rw (g.at, o.table, n) refl

  over-on : {x : List ℕ} {P Q : Members → Type 0} (y : MemberPast x t k s.end P) → Q y.others → MembersLeft x t u.at u.end Q
  over-on y q = rw (over-at, g.end) (member-over y q)

  over-again : Over t u
  over-again = record { table = g.table ∙ o.table; lead = g.lead ∙ o.lead }

-- Comparing the name at the node k with those before it: it is among them if it is among those that s gives
pub record Compares (x t : List ℕ) (first k : ℕ) (s : Siblings) : Type 0 where
  pub node : NameNode x t first k
  over : Over t s
  left : (ms : Members) → Fields x t first ms → first + widths ms ≡ k → MembersLeft x t s.at s.end (λ os. among (earlier [] ms) (text_at x t k) ≡ named os (text_at x t k))

-- the words of members lead from name to name
names-chain : {x t : List ℕ} {j k : ℕ} {ms : Members} → Fields x t j ms → j + widths ms ≡ k → Chain t 3 k j
unfolding widths
names-chain {j = j} {k = k} last e = let z : k ≡ j = omega (arith, e) in rw z here
names-chain {t = t} {j = j} (field {v = v} {ms = ms} q s fs) e =
    let w = words s in
    let z : get_or t (j + 3 + 2) 0 ≡ j + (3 + size v) = w.next ∙ add_assoc j 3 (size v) in
    onward w.room (rw z (omega (arith, size-pos v))) (rw z (names-chain fs (omega (arith, e))))

-- the iterator r gives the names before one
module _ {x : List ℕ} {r s : Siblings} (d : NameNode x r.table.now r.at r.end) (l : r.lead ≡ 3) (q : s ≡ r) where
  pub compare-walk : CanStep s
  compare-walk = rw q (record { chain = rw l (names-chain d.stand d.ends) })

  pub compare-begin : Compares x r.table.now r.at r.end s
  compare-begin = rw q (record {
    node = d;
    over = record { table = refl; lead = l };
    left = λ ms f z. record { members = ms; stand = f; ends = z; holds = among-named ms (text_at x r.table.now r.end) };
  })

module _ {x t : List ℕ} {first k : ℕ} where
  module _ {s : Siblings} (c : Compares x t first k s) where
    module _ {j : ℕ} {u : Siblings} (g : StepsPast s j u) where
      pub compare-name : NameText x t j
      compare-name = let y = over-past g (c.left c.node.before c.node.stand c.node.ends) in record { raw = y.key.raw; string = quoted-at y.quoted }

      module _ {b : Bool} (h : b ≡ same (text_at x t j) (text_at x t k)) where
        tested : {n : ℕ} {P : Members → Type 0} (y : MemberPast x t j n P) → same (decode y.key.raw) (text_at x t k) ≡ b
        unfolding text_at
        tested y = rw (quoted-at y.quoted).text (sym h)

        pub compare-found : b ≡ true → Repeats x t first k true
        unfolding named
        compare-found e = record { is = λ ms f z. let y = over-past g (c.left ms f z) in sym (y.holds ∙ rw (tested y, e)) }

        pub compare-again : b ≡ false → Compares x t first k u
        unfolding named
        compare-again e = record {
          node = c.node;
          over = over-again c.over g;
          left = λ ms f z. let y = over-past g (c.left ms f z) in over-on c.over g y (y.holds ∙ rw (tested y, e));
        }

    pub compare-done : s.end ≤ s.at → Repeats x t first k false
    unfolding named
    compare-done h = record { is = λ ms f z. sym (members-ended (c.left ms f z) h) }

  -- the fault of a name that repeats another
  pub repeat-none : {r : Bool} (b : ℕ) → Repeats x t first k r → r ≡ false → RepeatGives x t first k b b
  unfolding least
  repeat-none {r} b g e = record { is = λ ms f z. rw (sym (g.is ms f z) ∙ e) }

  pub repeat-found : {r : Bool} {b p u w : ℕ} → Repeats x t first k r → r ≡ true → p ≡ get_or t k 0 → u ≡ fault 6 p → w ≡ min b u → RepeatGives x t first k b w
  unfolding least
  repeat-found {r} {b} {p} {u} {w} g e q y z = record { is = λ ms f o. rw (sym (g.is ms f o) ∙ e) (z ∙ (ap (min b) y ∙ ap (λ (m : ℕ). min b (fault 6 m)) q)) }

-- The names of an object: those of the members `before` come before k, Q holds of their texts, and the faults of `fields` are those of the members that are left
record Earlier (x t : List ℕ) (first k b₀ b : ℕ) (Q : List (List ℕ) → Type 0) (fields left : Members) : Type 0 where
  before : Members
  stand : Fields x t first before
  ends : first + widths before ≡ k
  also : Q (earlier [] before)
  holds : least b (map (fault 6) (repeated (earlier [] before) left)) ≡ least b₀ (map (fault 6) (repeated [] fields))

-- what the loop over the names of the object at i knows where s gives those that are left, and the least so far is b
pub record Sweeps (x t : List ℕ) (i b₀ : ℕ) (s : Siblings) (b : ℕ) (Q : List (List ℕ) → Type 0) : Type 0 where
  pub some : AnyPart x t i
  pub brace : get_or x (get_or t i 0) 0 ≡ 123
  over : Over t s
  ends : s.end ≡ get_or t (i + 2) 0
  left : (v : Json) → Sub x t i v → MembersLeft x t s.at s.end (Earlier x t (i + 3) s.at b₀ b Q (fields_of v))

-- what starts with a brace is an object, and no name
module _ {x t : List ℕ} {i : ℕ} where
  is-object : {v : Json} → get_or x (get_or t i 0) 0 ≡ 123 → Sub x t i v → is_object_value v ≡ true
  is-object h s = sym (kinds s).object ∙ eq-eqb _ _ h

  no_name : {p e : ℕ} {raw : List ℕ} → get_or x (get_or t i 0) 0 ≡ 123 → Quoted x t i p e raw → ⊥
  no_name h q = let z : ◌≡◌ {A = ℕ} 123 34 = sym h ∙ rw q.words.start q.words.byte in omega arith

of-object : {x t : List ℕ} {i : ℕ} {d : Part} → Stands x t i d → get_or x (get_or t i 0) 0 ≡ 123 → Tree x t i
of-object (of-value {v = v} s) h = record { value = v; stands = s }
of-object (of-name q) h = absurd (no_name h q)

-- anything else breaks rule 6 nowhere
no-object : (v : Json) → is_object_value v ≡ false → own6 (value v) ≡ []
unfolding own6 repeated
no-object v h = ap (repeated []) (no_fields v h)

other-part : {x t : List ℕ} {i : ℕ} {d : Part} → Stands x t i d → (get_or x (get_or t i 0) 0 ≡ 123 → ⊥) → own6 d ≡ []
unfolding own6
other-part (of-value {v = v} s) n = no-object v (sym (kinds s).object ∙ ne_eqb _ _ n)
other-part (of-name q) n = refl

repeated-none : {x t : List ℕ} {i p : ℕ} (b : ℕ) → p ≡ get_or t i 0 → (get_or x p 0 ≡ 123 → ⊥) → PartGives 6 own6 x t i b b
unfolding least
repeated-none b e n = record { is = λ d s. rw (other-part s (λ h. n (rw e h))) }

pub repeated-told : {x t : List ℕ} {i p : ℕ} (others b : ℕ) → p ≡ get_or t i 0 → (get_or x p 0 ≡ 123 → ⊥) → PartTells others 6 own6 x t i b (Some b)
repeated-told others b e n = record { told = repeated-none b e n }

-- a way that is left to another may be left to it where there are some
tells-other : {x t : List ℕ} {i b others : ℕ} {o : Option ℕ} → PartTells 1 6 own6 x t i b o → (others ≡ 0 → ⊥) → PartTells others 6 own6 x t i b o
tells-other {o = Some r} p n = record { told = p.told }
tells-other {o = None} p n = record { told = n }

-- r is the least of b and of the fault of the name at the node k, if it is among the texts us
abbrev Least : List ℕ → List ℕ → ℕ → ℕ → ℕ → List (List ℕ) → Type 0
Least x t k b r us = r ≡ least b (map (fault 6) (cond (among us (text_at x t k)) (get_or t k 0 ∷ []) []))

-- the faults from one member on
repeated-step :
    {x t : List ℕ} {first k n b₀ b r : ℕ} {Q R : List (List ℕ) → Type 0} {fields : Members} (u : MemberPast x t k n (Earlier x t first k b₀ b Q fields))
    → Least x t k b r (earlier [] u.holds.before) → R (text_at x t k ∷ earlier [] u.holds.before)
    → Earlier x t first (get_or t (k + 3 + 2) 0) b₀ r R fields u.others
unfolding repeated text_at
repeated-step {x} {t} {first} {k} {n} {b₀} {b} {r} {Q} {R} {fields} u g q =
    let o = u.holds in
    let a = quoted-at u.quoted in
    let p : u.key.place ≡ get_or t k 0 = sym u.quoted.words.start in
    record {
      before = with o.before u.key u.value;
      stand = fields-with o.stand o.ends u.quoted u.stands;
      ends = omega (arith, widths-with o.before u.key u.value, o.ends, u.word.next);
      also = rw (earlier-with [] o.before u.key u.value, a.text) q;
      holds =
          let y : r ≡ least b (map (fault 6) (cond (among (earlier [] o.before) (decode u.key.raw)) (u.key.place ∷ []) [])) = rw (a.text, p) g in
          rw (earlier-with [] o.before u.key u.value, y, ← least-++, ← map-append) o.holds;
    }

-- nothing is asked of the texts of the names
abbrev pub Any : List (List ℕ) → Type 0
Any us = Unit

module _ {x t : List ℕ} {i : ℕ} where
  pub sweep-begin : {p : ℕ} {r s : Siblings} {Q : List (List ℕ) → Type 0} (b : ℕ) → AnyPart x t i → p ≡ get_or t i 0 → get_or x p 0 ≡ 123 → Names x t i r → s ≡ r
      → Q [] → Sweeps x t i b s b Q
  unfolding widths earlier
  sweep-begin {p} {r} {s} {Q} b a q h e y z = rw y (record { some = a; brace = brace; over = record { table = e.table; lead = e.lead }; ends = ends d.stands; left = begun })
    where
      brace : get_or x (get_or t i 0) 0 ≡ 123
      brace = rw (← q) h

      d : Tree x t i
      d = of-object a.stands brace

      ends : {v : Json} → Sub x t i v → r.end ≡ get_or t (i + 2) 0
      ends {v} w = e.end v w ∙ rw (is-object brace w) refl

      begun : (v : Json) → Sub x t i v → MembersLeft x t r.at r.end (Earlier x t (i + 3) r.at b b Q (fields_of v))
      begun v w = rw (e.at, ends w) (object-begin w (is-object brace w) (record { before = tree.empty; stand = last; ends = add-zero (i + 3); also = z; holds = refl }))

  module _ {b₀ b : ℕ} {s : Siblings} {Q : List (List ℕ) → Type 0} (c : Sweeps x t i b₀ s b Q) where
    module _ {k : ℕ} {u : Siblings} (g : StepsPast s k u) where
      turn : {v : Json} → Sub x t i v → MemberPast x t k s.end (Earlier x t (i + 3) k b₀ b Q (fields_of v))
      turn {v} w = rw g.node (member-past (c.left v w) g.more)

      now : MemberPast x t k s.end (Earlier x t (i + 3) k b₀ b Q (fields_of (of-object c.some.stands c.brace).value))
      now = turn (of-object c.some.stands c.brace).stands

      name-text : NameText x t k
      name-text = let y = now in record { raw = y.key.raw; string = quoted-at y.quoted }

      pub sweep-name : NameNode x t (i + 3) k
      sweep-name = let o = now.holds in record { before = o.before; stand = o.stand; ends = o.ends; name = name-text; short = c.some.short }

      -- past one name
      again : {r : ℕ} {R : List (List ℕ) → Type 0}
          → ((ms : Members) → Fields x t (i + 3) ms → i + 3 + widths ms ≡ k → Q (earlier [] ms) → Least x t k b r (earlier [] ms) × R (text_at x t k ∷ earlier [] ms))
          → Sweeps x t i b₀ u r R
      again {r} {R} f = record { some = c.some; brace = c.brace; over = over-again c.over g; ends = g.end ∙ c.ends; left = λ v w. onto (turn w) }
        where
          onto : {fields : Members} (y : MemberPast x t k s.end (Earlier x t (i + 3) k b₀ b Q fields)) → MembersLeft x t u.at u.end (Earlier x t (i + 3) u.at b₀ r R fields)
          onto y = let o = y.holds in let e = f o.before o.stand o.ends o.also in over-on c.over g y (rw (over-at c.over g) (repeated-step y e.0 e.1))

      -- links for all nodes of an object that has a name are some
      pub sweep-other : {n b' : ℕ} {ls₀ ls : List ℕ} {o : Option ℕ} → Lent ls₀ ls → n ≡ get_or t (i + 2) 0 → n ≤ length ls * 3 → PartTells 1 6 own6 x t i b' o
          → PartTells (length ls₀) 6 own6 x t i b' o
      sweep-other l q h p = tells-other p (λ z. omega (arith, g.more, c.ends, l.same))

    done : s.end ≤ s.at → PartGives 6 own6 x t i b₀ b
    unfolding own6 repeated least
    done h = record { is = λ d z. it z }
      where
        it : {d : Part} → Stands x t i d → b ≡ least b₀ (map (fault 6) (own6 d))
        it (of-value {v = v} z) = (members-ended (c.left v z) h).holds
        it (of-name q) = absurd (no_name c.brace q)

    pub sweep-told : {u : Siblings} (others : ℕ) → (s.end ≤ s.at) × (u ≡ s) → PartTells others 6 own6 x t i b₀ (Some b)
    sweep-told others h = record { told = done h.0 }

  pub sweep-onward : {b₀ b r k : ℕ} {s u : Siblings} → Sweeps x t i b₀ s b Any → StepsPast s k u → RepeatGives x t (i + 3) k b r → Sweeps x t i b₀ u r Any
  sweep-onward c g h = again c g (λ ms f e z. (h.is ms f e, tt))

-- the same loop by chains
pub record Threads (x t ls₀ ls hs : List ℕ) (i b₀ : ℕ) (s : Siblings) (b : ℕ) : Type 0 where
  pub sweeps : Sweeps x t i b₀ s b (Chains x t ls hs s.at)
  room : get_or t (i + 2) 0 ≤ length ls * 3
  pub lent : Lent ls₀ ls
  heads : length hs ≡ 4096

chains-at : {x t ls hs : List ℕ} {k m : ℕ} {us : List (List ℕ)} → k ≡ m → Chains x t ls hs m us → Chains x t ls hs k us
chains-at q c = rw q c

module _ {x t : List ℕ} {i : ℕ} where
  module _ {ls : List ℕ} (d : LongObject x t ls i) where
    pub thread-begin : {r s : Siblings} {hs : List ℕ} (b : ℕ) → Names x t i r → s ≡ r → hs ≡ replicate 4096 0 → Threads x t ls ls hs i b s b
    thread-begin {s = s} {hs = hs} b e y z =
        let a : s.at ≡ i + 3 = rw y e.at in
        record {
          sweeps = sweep-begin b d.some refl d.brace e y (rw a (chains-begin x t ls hs (i + 3) (fresh-zero 4096 z) (omega arith)));
          room = d.ends;
          lent = lent-begin d.few;
          heads = fresh-length 4096 z;
        }

  module _ {b₀ b : ℕ} {s : Siblings} {ls₀ ls hs : List ℕ} (c : Threads x t ls₀ ls hs i b₀ s b) where
    module _ {k : ℕ} {u : Siblings} (g : StepsPast s k u) where
      pub thread-name : ChainAt x t ls hs k
      thread-name =
          let y = now c.sweeps g in
          record {
            texts = earlier [] y.holds.before;
            chains = chains-at g.node y.holds.also;
            name = name-text c.sweeps g;
            short = c.sweeps.some.short;
            inside = omega (arith, c.room, c.sweeps.ends, g.more, g.node);
            low = omega (arith, c.room, c.lent.few, c.sweeps.ends, g.more, g.node);
            value = y.word.room;
            heads = c.heads;
          }

      pub thread-again : {r : ℕ} {ls' hs' : List ℕ} → ChainGives x t ls hs ls' hs' k b (Some r) → Threads x t ls₀ ls' hs' i b₀ u r
      thread-again h =
          let m : k + 3 ≤ u.at = omega (arith, over-at c.sweeps.over g, (now c.sweeps g).word.next) in
          record {
            sweeps = again c.sweeps g (λ ms f e z. let w = chains-at g.node z in (h.is _ w, h.more _ u.at w m));
            room = rw h.links c.room;
            lent = lent-on c.lent h.links;
            heads = h.heads;
          }

    pub thread-told : {u : Siblings} → (s.end ≤ s.at) × (u ≡ s) → PartTells 1 6 own6 x t i b₀ (Some b)
    thread-told h = sweep-told c.sweeps 1 h

-- the same loop by a trie, which was q₀ and has c entries
pub record Enters (x t q₀ q : List ℕ) (c i b₀ : ℕ) (s : Siblings) (b : ℕ) : Type 0 where
  pub sweeps : Sweeps x t i b₀ s b (Entries x t q c)
  pub same : length q ≡ length q₀
  room : length q ≤ 327680
  later : 3 ≤ s.at
  some : 0 < c
  few : c * 5 ≤ length q

module _ {x t : List ℕ} {i : ℕ} where
  module _ {q : List ℕ} (f : FreshObject x t q i) where
    pub enter-begin : {r s : Siblings} (b : ℕ) → Names x t i r → s ≡ r → Enters x t q q 1 i b s b
    enter-begin {s = s} b e y =
        let d = f.object in
        let a : s.at ≡ i + 3 = rw y e.at in
        record {
          sweeps = sweep-begin b d.part refl d.object e y (entries-begin x t q f.value);
          same = refl;
          room = d.room.few;
          later = omega (arith, a);
          some = omega arith;
          few = d.room.root;
        }

  module _ {b₀ b c : ℕ} {s : Siblings} {q₀ q : List ℕ} (e : Enters x t q₀ q c i b₀ s b) where
    module _ {k : ℕ} {u : Siblings} (g : StepsPast s k u) where
      pub enter-name : EntryAt x t q c k
      enter-name =
          let y = now e.sweeps g in
          record {
            texts = earlier [] y.holds.before;
            entries = y.holds.also;
            name = name-text e.sweeps g;
            short = e.sweeps.some.short;
            later = rw g.node e.later;
            room = e.room;
            some = e.some;
            few = e.few;
          }

      pub enter-again : {w : Turn} {q' : List ℕ} → EntryGives x t q c q' k b (Some w) → Enters x t q₀ q' w.count i b₀ u w.least
      enter-again h =
          let o = h.told in
          record {
            sweeps = again e.sweeps g (λ ms f y z. (o.is _ z, o.more _ z));
            same = h.room ∙ e.same;
            room = rw h.room e.room;
            later = omega (arith, e.later, g.onward);
            some = o.some;
            few = o.few;
          }

    pub enter-done : {u : Siblings} → (s.end ≤ s.at) × (u ≡ s) → PartTells 1 6 own6 x t i b₀ (Some b)
    enter-done h = sweep-told e.sweeps 1 h

pub ruleset names = (rules, repeat-none, repeat-found)

pub ruleset sweeps = (rules, any-third, repeated-told)

pub ruleset threads = (rules, thread-begin)

pub ruleset enters = (rules, enter-begin)
