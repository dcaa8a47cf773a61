-- Rule 15 of the values of a list, one after the other: a set has the objects so far.
use Prim.Native.Nat.{ℕ, ◌≤◌, ◌<◌}
use native.Mathlib.Omega.{arith}
use mathlib.Core.Path.{◌≡◌, refl, sym, ap, ◌∙◌}
use mathlib.Core.Bool.{Bool, true, false, not, ◌&&◌}
use mathlib.Core.List.{List, [], ◌∷◌, ◌++◌}
use lib.ListN.{length, replicate}
use lib.Dec.{ltb}
use borrow.Author.Tests.{not-true, not-false, ltb-true}
use Rattle.grid.specs.Laws.{empty}
use Rattle.words.specs.Words.{has}
use Rattle.json_text.specs.Tree.{Json}
use Rattle.model.specs.Model.{object_number}
use Rattle.nodes.specs.Access.{is_string_value, text_of, members, Member, first_named}
use Rattle.everywhere.specs.Everywhere.{among}
use Rattle.nodes.specs.Faults.{least}
use Rattle.nodes.specs.Laws.{least-++, fresh-zero, fresh-length}
use Rattle.nodes.specs.Says.{Node, Gives, Seeks}
use Rattle.nodes.specs.Says.{Found}
use Rattle.std.specs.Prelude.{Some, None}
use Rattle.nodes.specs.Siblings.{Elements, StepsPast}
use Rattle.std.proofs.Common.{◌⊎◌}
use Rattle.nodes.specs.declared.Siblings.{Siblings}
use Rattle.shapes.specs.Checks.{unless, is_some}
use Rattle.ids.specs.Says.{names_of}
use Rattle.marks.specs.Says.{Row, MarkGives}
use Rattle.marks.proofs.Numbers.{mark-told}
use Rattle.rows.specs.Rows.{link_number}
use Rattle.rules.specs.Links.{ids_among}
use Rattle.links.specs.Passes.{absent_at, absent}
use Rattle.links.specs.Says.{numbers_of, AbsentGives, Sized, AbsentsGive, AbsentUnder}
use Rattle.links.proofs.Numbers.{among-has, string-number, some_number, names-count}
use Rattle.links.proofs.Lists.{Numbered, numbered-begin, numbered-node, numbered-turn, numbered-done, under_none, under_some}

-- ---- one value

ids-string : (v : Json) → is_string_value v ≡ true → (earlier : List (List ℕ)) → ids_among (v ∷ []) ++ earlier ≡ text_of v ∷ earlier
unfolding ids_among
ids-string v z earlier = rw z

ids-other : (v : Json) → is_string_value v ≡ false → (earlier : List (List ℕ)) → ids_among (v ∷ []) ++ earlier ≡ earlier
unfolding ids_among
ids-other v z earlier = rw z

-- rule 15 is kept of a string if its number is below the count and not among the earlier ones
module _ (ms : List Member) (earlier : List (List ℕ)) (v : Json) (z : is_string_value v ≡ true) where
  number_is : link_number (names_of ms) v ≡ object_number (names_of ms) (text_of v)
  number_is = string-number (names_of ms) v z

  kept-is : (is_some (first_named (text_of v) ms) && not (among earlier (text_of v))) ≡ (ltb (link_number (names_of ms) v) (length ms) && not (has (numbers_of ms earlier) (link_number (names_of ms) v)))
  unfolding numbers_of names_of
  kept-is = rw (number_is, some_number ms (text_of v)) (of (ltb (object_number (names_of ms) (text_of v)) (length ms)) refl)
    where
      of : (b : Bool) → ltb (object_number (names_of ms) (text_of v)) (length ms) ≡ b
          → (b && not (among earlier (text_of v))) ≡ (b && not (has (numbers_of ms earlier) (object_number (names_of ms) (text_of v))))
      of false e = refl
      of true e =
          let l : object_number (names_of ms) (text_of v) < length ms = ltb-true _ (length ms) e in
          ap not (among-has (names_of ms) earlier (text_of v) (omega (arith, names-count ms)))

  pub absent-is : (best : ℕ)
      → least best (unless (ltb (link_number (names_of ms) v) (length ms) && not (has (numbers_of ms earlier) (link_number (names_of ms) v))) 15 v) ≡ least best (absent_at ms earlier v)
  unfolding absent_at
  absent-is best = rw (z, kept-is)

  pub numbers-cons : numbers_of ms (ids_among (v ∷ []) ++ earlier) ≡ link_number (names_of ms) v ∷ numbers_of ms earlier
  unfolding numbers_of
  numbers-cons = rw (ids-string v z earlier, number_is)

module _ {x t : List ℕ} {k number count : ℕ} {b : Bool} {g : List ℕ} (s : Gives is_string_value x t k b) where
  pub absent-other : (best : ℕ) → not b ≡ true → AbsentGives x t k number count g g best best
  unfolding absent_at least
  absent-other best h = record {
    room = refl;
    is = λ ms q v w n earlier r. let z : is_string_value v ≡ false = sym (s.is v w) ∙ not-true b h in (rw z, rw (ids-other v z earlier) r);
  }

  pub absent-told : {g' : List ℕ} {kept : Bool} {best r : ℕ} → not b ≡ false → MarkGives g g' 0 number count kept → Gives (λ v. least best (unless kept 15 v)) x t k r
      → AbsentGives x t k number count g g' best r
  absent-told {kept = kept} {best} h p u = record {
    room = p.beside.room;
    is = λ ms q v w n earlier r.
        let z : is_string_value v ≡ true = sym (s.is v w) ∙ not-false b h in
        let c : kept ≡ (ltb (link_number (names_of ms) v) (length ms) && not (has (numbers_of ms earlier) (link_number (names_of ms) v)))
        = mark-told p r ∙ rw (n, q) refl in
        (u.is v w ∙ (ap (λ b. least best (unless b 15 v)) c ∙ absent-is ms earlier v z best), rw (numbers-cons ms earlier v z, ← n) (p.puts (numbers_of ms earlier) r));
  }

-- ---- a list

absent-cons : (b : ℕ) (ms : List Member) (earlier : List (List ℕ)) (v : Json) (vs : List Json)
    → least b (absent ms earlier (v ∷ vs)) ≡ least (least b (absent_at ms earlier v)) (absent ms (ids_among (v ∷ []) ++ earlier) vs)
unfolding absent
absent-cons b ms earlier v vs = least-++ b (absent_at ms earlier v) (absent ms (ids_among (v ∷ []) ++ earlier) vs)

-- after the IDs `earlier` the set is right, and the faults of `all` are those of what is left
pub record Rest (count best acc : ℕ) (g : List ℕ) (ms : List Member) (all left : List Json) : Type 0 where
  of : count ≡ length ms → (earlier : List (List ℕ)) × (Row count g 0 (numbers_of ms earlier)) × (least acc (absent ms earlier left) ≡ least best (absent ms [] all))

-- what the loop over the values of the list at the node i knows where it has come to s, with the numbers ls left, the least fault acc and the set g
pub record Listing (x t : List ℕ) (i : ℕ) (ns : List ℕ) (count best : ℕ) (s : Siblings) (ls : List ℕ) (acc : ℕ) (g : List ℕ) : Type 0 where
  pub list : Numbered x t i ns s ls (Rest count best acc g)
  pub room : length g ≡ 128

module _ {x t : List ℕ} {i : ℕ} {ns : List ℕ} where
  pub listing-begin : (count best : ℕ) {s r : Siblings} {g : List ℕ} → Sized x t i ns → Elements x t i r → s ≡ r → g ≡ replicate 128 0
      → Listing x t i ns count best s ns best g
  unfolding numbers_of has
  listing-begin count best {g = g} d e q f = record {
    list = numbered-begin (Rest count best best g) d e q (λ ms l. record { of = λ c. ([], record { is = λ m l. empty g (fresh-zero 128 f) 0 m }, refl) });
    room = fresh-length 128 f;
  }

  module _ {count best acc : ℕ} {s : Siblings} {ls g : List ℕ} (p : Listing x t i ns count best s ls acc g) where
    module _ {k : ℕ} {u : Siblings} (a : StepsPast s k u) where
      pub listing-node : Node x t k
      listing-node = numbered-node p.list a

      pub listing-turn : {number acc' : ℕ} {ls' g' : List ℕ} → ls ≡ number ∷ ls' → AbsentGives x t k number count g g' acc acc'
          → Listing x t i ns count best u ls' acc' g'
      listing-turn {acc' = acc'} {g' = g'} n e = record {
        list = numbered-turn p.list a (Rest count best acc' g') n (λ ms all v vs s y u. record {
          of = λ c.
              let (earlier, right, faults) = u.of c in
              let (f, o) = e.is ms c v s y earlier right in
              (ids_among (v ∷ []) ++ earlier, o, rw f (sym (absent-cons acc ms earlier v vs) ∙ faults));
        });
        room = e.room ∙ p.room;
      }

    pub listing-room : 128 ≤ length g
    listing-room = omega (arith, p.room)

    pub listing-done : (s.end ≤ s.at) ⊎ (length ls ≡ 0) → AbsentsGive x t i ns count best acc
    unfolding absent least
    listing-done h = record { is = λ ms c v y z. ((numbered-done p.list h ms v y z).of c).2 }

-- ---- what an object lists

module _ {x t : List ℕ} {i : ℕ} (name : List ℕ) {ns : List ℕ} {found : Found} (s : Seeks (λ v. first_named name (members v)) x t i found) where
  pub absent-nothing : (count best : ℕ) → found ≡ None → AbsentUnder x t i name ns count best best
  unfolding absent least
  absent-nothing count best e = record { is = λ ms c v u z. rw (under_none name s e v u) refl }

  pub absent-some : {k count best r : ℕ} → found ≡ Some k → AbsentsGive x t k ns count best r → AbsentUnder x t i name ns count best r
  absent-some e a = record { is = λ ms c v u z. let (w, y, q) = under_some name s e v u in rw q (a.is ms c w y (rw (← q) z)) }
