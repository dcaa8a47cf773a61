-- Filling the index of the city objects, and checking them.
use Prim.Native.Nat.{ℕ, ◌+◌, ◌*◌, ◌^◌, ◌≤◌, ◌<◌, min}
use native.Mathlib.Omega.{arith}
use native.Mathlib.Decide.{dec_lt}
use mathlib.Core.Path.{◌≡◌, refl, sym, ap, ◌∙◌, subst}
use mathlib.Core.Logic.{◌≢◌}
use mathlib.Core.Option.{Option, none, some}
use mathlib.Core.List.{List, [], ◌∷◌, ◌++◌, append_assoc, append-nil}
use lib.ListN.{length, get_or, set, drop, replicate, length-append, length-set, get_or-append, drop_of_length-le}
use lib.Seq.{drop_at, get_or-set_same, get_or-set_other, get_or-append_seam}
use Rattle.std.specs.Int.{w64}
use Rattle.std.proofs.Common.{Fits}
use Rattle.json_text.specs.Tree.{Json}
use Rattle.json_text.specs.Table.{Sub}
use Rattle.json_text.specs.Laws.{member-over}
use Rattle.utf8.specs.Ascii.{ascii}
use Rattle.nodes.specs.Access.{Member, pairs, members, first_named, find}
use Rattle.nodes.specs.Says.{Node, Gives, Finds, Seeks}
use Rattle.nodes.specs.Faults.{fault, least}
use Rattle.nodes.specs.Laws.{StringAt, quoted-at, quoted-place, fresh-zero, fresh-length}
use Rattle.nodes.specs.Says.{Found}
use Rattle.nodes.specs.Siblings.{Names, StepsPast}
use Rattle.nodes.specs.declared.Siblings.{Siblings}
use Rattle.nodes.specs.Walk.{RunningNames, names-begin, names-past, names-node, names-turn, names-done}
use Rattle.std.specs.Prelude.{Some, None}
use Rattle.fields.specs.Says.{MemberAt, Indexed}
use Rattle.shapes.specs.Checks.{Check, for_each, values, object_kind, each_member}
use Rattle.shapes.specs.Laws.{least-for_each}
use Rattle.fields.specs.Fields.{members_in, objects_of}
use Rattle.fields.specs.declared.Index.{Index}
use Rattle.rules.specs.Schema.{name_fault, object_limit, city_object, city_objects}
use Rattle.geometry.specs.Says.{Checked}
use Rattle.geometry.proofs.Lines.{lines, checked, line-object, line-then, line-none}
use Rattle.schema.specs.Says.{Extra, Named, Limited, ExtraAt, ExtraFound, FillsAt, Empty, Fills, IndexedAt}

-- members of which the index names all but those that are left
pub record Done (x t : List ℕ) (index : Index) (all left : List Member) : Type 0 where
  pub done : List Member
  pub whole : all ≡ done ++ left
  pub many : length done ≡ index.count
  pub each : (j : ℕ) (d : Member) → j < index.count → MemberAt x t (get_or index.offsets j 0) (get_or done j d)

-- what the loop over the names knows where it has come to s
pub record Filling (x t : List ℕ) (i : ℕ) (s : Siblings) (index : Index) : Type 0 where
  pub run : RunningNames x t i s (Done x t index)
  pub room : length index.offsets ≡ 1024
  pub few : index.count ≤ 1024
  pub clear : (j : ℕ) → index.count ≤ j → get_or index.offsets j 0 ≡ 0

-- all members: those that the index names, before one more
front : {x t : List ℕ} {index : Index} {all left : List Member} (d : Done x t index all left) → index.count ≡ min 1024 (length all) → length index.offsets ≡ 1024
    → ((j : ℕ) → index.count ≤ j → get_or index.offsets j 0 ≡ 0) → Indexed x t all index
front {left = left} d count room clear = record {
  room = room;
  count = count;
  each = λ j e r. rw (d.whole, get_or-append d.done left e j (omega (arith, d.many))) (d.each j e r);
  rest = clear;
}

pub fill-begin : {x t : List ℕ} {i : ℕ} {s r : Siblings} {index : Index} → Empty index → Node x t i → Names x t i r → s ≡ r → Filling x t i s index
fill-begin {x} {t} {index = index} l d e q = record {
  run = names-begin (Done x t index) d e q (λ ms. record { done = []; whole = refl; many = sym l.count; each = λ j e h. absurd (omega (arith, l.count)) });
  room = fresh-length 1024 l.offsets;
  few = omega (arith, l.count);
  clear = λ j h. fresh-zero 1024 l.offsets j;
}

module _ {x t : List ℕ} {i : ℕ} {s : Siblings} {index : Index} (f : Filling x t i s index) where
  module _ {k : ℕ} {u : Siblings} (g : StepsPast s k u) where
    -- one member more
    pub fill-turn : (index.count ≡ 1024 → ⊥) → Filling x t i u (record { offsets = set index.offsets index.count k; count = index.count + 1 })
    unfolding pairs
    fill-turn h = record {
      run = record {
        node = f.run.node;
        table = g.table ∙ f.run.table;
        lead = g.lead ∙ f.run.lead;
        left = λ v z.
            let y = names-past f.run g z in
            let n : s.at + s.lead + 2 ≡ k + 3 + 2 = omega (arith, f.run.lead, g.node) in
            rw (g.at, g.end, f.run.table, n) (member-over y (one (y.key, y.value) y.holds (record { name = y.quoted; value = y.stands })));
      };
      room = length-set index.offsets index.count k ∙ f.room;
      few = omega (arith, f.few);
      clear = λ j r. get_or-set_other index.offsets index.count j k 0 (λ y. omega arith) ∙ f.clear j (omega arith);
    }
      where
        one : {all left : List Member} (m : Member) → Done x t index all (m ∷ left) → MemberAt x t k m
            → Done x t (record { offsets = set index.offsets index.count k; count = index.count + 1 }) all left
        one {left = left} m d a = record {
          done = d.done ++ (m ∷ []);
          whole = d.whole ∙ sym (append_assoc d.done (m ∷ []) left);
          many = length-append d.done (m ∷ []) ∙ ap (λ a. a + 1) d.many;
          each = λ j e r. at j e r (dec_lt j index.count);
        }
          where
            at : (j : ℕ) (e : Member) → j < index.count + 1 → Dec (j < index.count) → MemberAt x t (get_or (set index.offsets index.count k) j 0) (get_or (d.done ++ (m ∷ [])) j e)
            at j e r (yes w) =
                let z : j ≢ index.count = λ y. omega arith in
                rw (get_or-set_other index.offsets index.count j k 0 z, get_or-append d.done (m ∷ []) e j (omega (arith, d.many))) (d.each j e w)
            at j e r (no w) =
                let y : j ≡ index.count = omega arith in
                rw (y, get_or-set_same index.offsets index.count k 0 (omega (arith, f.room, f.few)), sym d.many, get_or-append_seam d.done m [] e) a

    -- the 1,025th member
    pub fill_stop : index.count ≡ 1024 → FillsAt x t i index (Some k)
    unfolding pairs Extra
    fill_stop h = record { indexed = λ v z. all v z; more = record { is = λ v z. next v z } }
      where
        all : (v : Json) → Sub x t i v → Indexed x t (members v) index
        all v z =
            let y = names-past f.run g z in
            let d = y.holds in
            front d (omega (arith, ap length d.whole, length-append d.done ((y.key, y.value) ∷ pairs y.others), d.many, h)) f.room f.clear

        next : (v : Json) → Sub x t i v → Extra x t (drop 1024 (members v)) (Some k)
        next v z =
            let y = names-past f.run g z in
            let d = y.holds in
            let new : Member = (y.key, y.value) in
            (new, pairs y.others, ap (drop 1024) d.whole ∙ drop_at d.done (new ∷ pairs y.others) 1024 (d.many ∙ h), record { name = y.quoted; value = y.stands })

  -- no more members
  pub fill_done : {u : Siblings} → (s.end ≤ s.at) × (u ≡ s) → FillsAt x t i index None
  unfolding Extra
  fill_done l = record { indexed = λ v z. all v (names-done f.run l.0 z); more = record { is = λ v z. next v (names-done f.run l.0 z) } }
    where
      short : (v : Json) → Done x t index (members v) [] → length (members v) ≡ index.count
      short v d = ap length (d.whole ∙ append-nil d.done) ∙ d.many

      all : (v : Json) → Done x t index (members v) [] → Indexed x t (members v) index
      all v d = front d (omega (arith, short v d, f.few)) f.room f.clear

      next : (v : Json) → Done x t index (members v) [] → Extra x t (drop 1024 (members v)) None
      next v d = drop_of_length-le (members v) {i = 1024} (omega (arith, short v d, f.few))

-- ---- rule 9

-- nothing is too many
pub few-enough : {x t : List ℕ} {best : ℕ} {extra : Found} → extra ≡ None → Limited x t extra best best
unfolding Extra name_fault least
few-enough {x} {t} e = record { is = λ ms h. let z : ms ≡ [] = subst (Extra x t ms) e h in rw z }

module _ {x t : List ℕ} {k : ℕ} {extra : Found} (n : Named x t extra) (e : extra ≡ Some k) where
  named : (m : Member) × StringAt x t k m.0.raw
  unfolding Extra
  named = let (m, rest, q, a) : Extra x t n.members (Some k) = subst (Extra x t n.members) e n.extra in (m, quoted-at a.name)

  pub name-first : k < length t
  name-first = omega (arith, named.1.room)

  pub name-low : {p : ℕ} → p ≡ get_or t k 0 → p ≤ 65535
  name-low q = omega (arith, named.1.fits, n.short)

pub one_more : {x t : List ℕ} {best k p f r : ℕ} {extra : Found} → extra ≡ Some k → p ≡ get_or t k 0 → f ≡ fault 9 p → r ≡ min best f → Limited x t extra best r
unfolding Extra name_fault least
one_more {x} {t} e q g h =
    record { is = λ ms d. let (m, rest, z, a) : Extra x t ms (Some _) = subst (Extra x t ms) e d in rw (z, quoted-place a.name, sym q, sym g) h }

-- ---- the city objects

-- no members have an empty index
none-indexed : (x t : List ℕ) (l : List Member) {index : Index} → Empty index → l ≡ [] → Indexed x t l index
none-indexed x t l h e = record { room = fresh-length 1024 h.offsets; count = rw e h.count; each = λ k d r. absurd (omega (arith, h.count)); rest = λ k r. fresh-zero 1024 h.offsets k }

-- nothing was found, or a value
module _ {x t : List ℕ} {found : Found} where
  pub fill-nothing : {index : Index} → Empty index → found ≡ None → Fills x t found index None
  unfolding Finds members_in Extra
  fill-nothing h e =
      record { indexed = λ o f. none-indexed x t (members_in o) h (empty o f); more = record { is = λ o f. ap (drop 1024) (empty o f) } }
    where
      empty : (o : Option Json) → Finds x t o found → members_in o ≡ []
      empty o f = let z : o ≡ none = subst (Finds x t o) e f in ap members_in z

  pub fill-found : {i : ℕ} {index : Index} {extra : Found} → found ≡ Some i → FillsAt x t i index extra → Fills x t found index extra
  unfolding Finds members_in
  fill-found {index = index} {extra = extra} e g =
      record {
        indexed = λ o f.
            let (v, p, s) : Finds x t o (Some _) = subst (Finds x t o) e f in
            subst (λ (o : Option Json). Indexed x t (members_in o) index) (sym p) (g.indexed v s);
        more =
            record {
              is = λ o f.
                  let (v, p, s) : Finds x t o (Some _) = subst (Finds x t o) e f in
                  subst (λ (o : Option Json). Extra x t (drop 1024 (members_in o)) extra) (sym p) (g.more.is v s);
            };
      }

  -- the member that was found
  pub extra-at : {i : ℕ} {extra : Found} → ExtraFound x t found extra → found ≡ Some i → ExtraAt x t i extra
  unfolding Finds members_in
  extra-at m e = record { is = λ v s. m.is (some v) (subst (Finds x t (some v)) (sym e) (v, refl, s)) }

  pub root-indexed : {index : Index} {extra : Found} → Seeks (λ v. first_named (ascii "CityObjects") (members v)) x t 0 found → Fills x t found index extra → IndexedAt x t index
  unfolding objects_of find
  root-indexed f g = record { is = λ v s. g.indexed (find "CityObjects" v) (f.finds v s) }

pub extra-named : {x t : List ℕ} {i : ℕ} {extra : Found} → Node x t i → ExtraAt x t i extra → Named x t extra
extra-named d m = record { members = drop 1024 (members d.value); extra = m.is d.value d.stands; short = d.short }

-- A loop over the names of members that checks each member's value with c, and has come to s
pub record PassingNames (c : Check) (x t : List ℕ) (i best : ℕ) (s : Siblings) (acc : ℕ) : Type 0 where
  pub run : RunningNames x t i s (λ all left. least acc (for_each c (values left)) ≡ least best (for_each c (values all)))

pub members_begin : {c : Check} {x t : List ℕ} {i best : ℕ} {s r : Siblings} → Node x t i → Names x t i r → s ≡ r → PassingNames c x t i best s best
members_begin {c} {best = best} d e q =
    record { run = names-begin (λ all left. least best (for_each c (values left)) ≡ least best (for_each c (values all))) d e q (λ l. refl) }

module _ {c : Check} {x t : List ℕ} {i best : ℕ} {s : Siblings} {acc : ℕ} (p : PassingNames c x t i best s acc) where
  module _ {k : ℕ} {u : Siblings} (g : StepsPast s k u) where
    pub members_node : Node x t (k + 3)
    members_node = names-node p.run g

    pub members_onward : length t * 4 < 2 ^ 63 → Fits w64 (k + 3)
    members_onward h = record { fits = omega (arith, (names-past p.run g p.run.node.stands).word.room) }

    pub members_turn : {r : ℕ} → Gives (λ w. least acc (c w)) x t (k + 3) r → PassingNames c x t i best u r
    unfolding values
    members_turn {r} h = record {
      run = names-turn p.run g (λ all left. least r (for_each c (values left)) ≡ least best (for_each c (values all)))
          (λ all m ms z n o. ap (λ (a : ℕ). least a (for_each c (values ms))) (h.is m.1 z) ∙ (sym (least-for_each acc c m.1 (values ms)) ∙ o));
    }

  pub members_done : {u : Siblings} → (s.end ≤ s.at) × (u ≡ s) → Gives (λ v. least best (each_member c v)) x t i acc
  unfolding each_member values for_each least
  members_done h = record { is = λ v z. names-done p.run h.0 z }

-- rules 7 and 9, and each member
pub objects-told : {x t : List ℕ} {i best a m r : ℕ} {extra : Found} (n : ℕ) → Gives (λ v. least best (object_kind v)) x t i a → ExtraAt x t i extra → Limited x t extra a m
    → Gives (λ v. least m (each_member (city_object n) v)) x t i r → Checked (city_objects n) x t i best r
unfolding city_objects object_limit
objects-told n g e l h =
    line-object (object_limit ∷ each_member (city_object n) ∷ []) g
    (line-then (each_member (city_object n) ∷ []) (record { is = λ v s. l.is (drop 1024 (members v)) (e.is v s) })
    (line-then [] (checked (each_member (city_object n)) h) line-none))

-- the index that the root makes
pub empty-index : {offsets : List ℕ} → offsets ≡ replicate 1024 0 → Empty (record { offsets = offsets; count = 0 })
empty-index e = record { offsets = e; count = refl }

-- what `search` is handed to close what the root leaves
pub ruleset filling = (lines, root-indexed, empty-index)
