-- Rule 17 of the values of a list, one after the other, where a set has what all objects list on the other side.
use Prim.Native.Nat.{ℕ, ◌*◌, ◌≤◌, ◌<◌}
use Prim.Native.String.{String}
use native.Mathlib.Omega.{arith}
use mathlib.Core.Path.{◌≡◌, refl, sym, ap, ◌∙◌}
use mathlib.Core.Bool.{Bool, true, false, not, ◌&&◌}
use mathlib.Core.List.{List, [], ◌∷◌, map}
use mathlib.Core.Option.{Option, none, some}
use lib.ListN.{length, get_or}
use lib.Dec.{ltb}
use borrow.Author.Tests.{not-true, not-false, lt-ltb, le-ltb, ltb-true, ltb-false}
use Rattle.utf8.specs.Ascii.{ascii}
use Rattle.utf8.specs.Laws.{clash, both_left, both_right}
use Rattle.grid.specs.Grid.{holds}
use Rattle.words.specs.Words.{has, is}
use Rattle.json_text.specs.Tree.{Json}
use Rattle.model.specs.Model.{object_number}
use Rattle.nodes.specs.Access.{is_string_value, text_of, members, Member, first_named, find}
use Rattle.everywhere.specs.Everywhere.{among}
use Rattle.nodes.specs.Faults.{least}
use Rattle.nodes.specs.Laws.{least-++}
use Rattle.nodes.specs.Says.{Node, Gives, Seeks}
use Rattle.nodes.specs.Says.{Found}
use Rattle.std.specs.Prelude.{Some, None}
use Rattle.nodes.specs.Siblings.{Elements, StepsPast}
use Rattle.std.proofs.Common.{◌⊎◌}
use Rattle.nodes.specs.declared.Siblings.{Siblings}
use Rattle.shapes.specs.Checks.{unless, is_some}
use Rattle.shapes.specs.Laws.{unless-true}
use Rattle.fields.specs.Fields.{listed_in, type_text}
use Rattle.ids.specs.Says.{names_of}
use Rattle.ids.proofs.Rules.{nobody}
use Rattle.marks.specs.Marks.{answers, answered}
use Rattle.rows.specs.Rows.{link_number, link_numbers}
use Rattle.rules.specs.Links.{ids_among, ids_in}
use Rattle.links.specs.Passes.{open_at, open_in, listed_under}
use Rattle.links.specs.Says.{Sized, OtherSide, OpenGives, OpensGive, OpenUnder, ChildrenOpen}
use Rattle.links.proofs.Numbers.{listed_has, string-number, some_number, named-number, names-count}
use Rattle.links.proofs.Split.{excused-none}
use Rattle.links.proofs.Lists.{Numbered, numbered-begin, numbered-node, numbered-turn, numbered-done, under_none, under_some}

-- ---- one value

no-object : (o : Option Json) → is_some o ≡ false → o ≡ none
unfolding is_some
no-object none e = refl
no-object (some v) e = clash cc

-- the set tells whether the object that a string names lists this one
module _ {number own : ℕ} {g : List ℕ} (ms : List Member) (back : String) (id : List ℕ) (o : OtherSide ms back g) (q : own ≡ object_number (names_of ms) id) (l : own < length ms)
    (v : Json) (z : is_string_value v ≡ true) (n : number ≡ link_number (names_of ms) v) where
  number_is : number ≡ object_number (names_of ms) (text_of v)
  number_is = n ∙ string-number (names_of ms) v z

  pub answers-is : answers g own number ≡ among (ids_in back (first_named (text_of v) ms)) id
  unfolding answers ids_in among names_of link_numbers
  answers-is = of (ltb number (length ms)) refl
    where
      of : (b : Bool) → ltb number (length ms) ≡ b → (ltb (number * 128) (length g) && holds g number own) ≡ among (ids_in back (first_named (text_of v) ms)) id
      of false e =
          let h : length ms ≤ number = ltb-false number (length ms) e in
          let f : first_named (text_of v) ms ≡ none = no-object _ (some_number ms (text_of v) ∙ (ap (λ (k : ℕ). ltb k (length ms)) (sym number_is) ∙ e)) in
          rw (le-ltb (number * 128) (length g) (omega (arith, o.room)), f) refl
      of true e =
          let h : number < length ms = ltb-true number (length ms) e in
          let f : first_named (text_of v) ms ≡ some (get_or ms number nobody).1 = rw number_is (named-number ms nobody (text_of v) (omega (arith, number_is))) in
          let c : holds g number own ≡ has (link_numbers (names_of ms) back (get_or ms number nobody).1) own = (o.is number nobody h).is own l in
          let w : has (link_numbers (names_of ms) back (get_or ms number nobody).1) own ≡ among (ids_among (listed_in back (get_or ms number nobody).1)) id
          = rw q (listed_has (names_of ms) (listed_in back (get_or ms number nobody).1) id (omega (arith, names-count ms))) in
          rw (lt-ltb (number * 128) (length g) (omega (arith, o.room)), f) (c ∙ w)

module _ {x t : List ℕ} {k number own : ℕ} {b : Bool} {g : List ℕ} (s : Gives is_string_value x t k b) where
  pub open-other : (best : ℕ) → not b ≡ true → OpenGives x t k number g own best best
  unfolding open_at least
  open-other best h = record { is = λ ms back o id q l v w n. let z : is_string_value v ≡ false = sym (s.is v w) ∙ not-true b h in rw z }

  pub open_told : {best r : ℕ} {f : Bool} → not b ≡ false → f ≡ answers g own number → Gives (λ v. least best (unless f 17 v)) x t k r → OpenGives x t k number g own best r
  unfolding open_at
  open_told {best} {f = f} h i e = record {
    is = λ ms back o id q l v w n.
        let z : is_string_value v ≡ true = sym (s.is v w) ∙ not-false b h in
        e.is v w ∙ rw (z, ← answers-is ms back id o q l v z n, i);
  }

-- ---- a list

open-cons : (b : ℕ) (ms : List Member) (back : String) (id : List ℕ) (v : Json) (vs : List Json)
    → least b (open_in ms back id false (v ∷ vs)) ≡ least (least b (open_at ms back id false v)) (open_in ms back id false vs)
unfolding open_in
open-cons b ms back id v vs = least-++ b (open_at ms back id false v) (open_in ms back id false vs)

-- the faults of `all` are those of what is left
pub record Rest (g : List ℕ) (own best acc : ℕ) (ms : List Member) (all left : List Json) : Type 0 where
  of : (back : String) → OtherSide ms back g → (id : List ℕ) → own ≡ object_number (names_of ms) id → own < length ms
      → least acc (open_in ms back id false left) ≡ least best (open_in ms back id false all)

-- what the loop over the values of the list at the node i knows where it has come to s, with the numbers ls left and the least fault acc
pub record Opening (x t : List ℕ) (i : ℕ) (ns g : List ℕ) (own best : ℕ) (s : Siblings) (ls : List ℕ) (acc : ℕ) : Type 0 where
  pub list : Numbered x t i ns s ls (Rest g own best acc)

module _ {x t : List ℕ} {i : ℕ} {ns g : List ℕ} {own : ℕ} where
  pub opening-begin : (best : ℕ) {s r : Siblings} → Sized x t i ns → Elements x t i r → s ≡ r → Opening x t i ns g own best s ns best
  opening-begin best d e q = record { list = numbered-begin (Rest g own best best) d e q (λ ms l. record { of = λ back o id e m. refl }) }

  module _ {best acc : ℕ} {s : Siblings} {ls : List ℕ} (p : Opening x t i ns g own best s ls acc) where
    module _ {k : ℕ} {u : Siblings} (a : StepsPast s k u) where
      pub opening-node : Node x t k
      opening-node = numbered-node p.list a

      pub opening-turn : {number acc' : ℕ} {ls' : List ℕ} → ls ≡ number ∷ ls' → OpenGives x t k number g own acc acc' → Opening x t i ns g own best u ls' acc'
      opening-turn {acc' = acc'} n e = record {
        list = numbered-turn p.list a (Rest g own best acc') n (λ ms all v vs s y u. record {
          of = λ back o id c m. rw (e.is ms back o id c m v s y) (sym (open-cons acc ms back id v vs) ∙ u.of back o id c m);
        });
      }

    pub opening-done : (s.end ≤ s.at) ⊎ (length ls ≡ 0) → OpensGive x t i ns g own best acc
    unfolding open_in least
    opening-done h = record { is = λ ms back o id c m v y z. (numbered-done p.list h ms v y z).of back o id c m }

-- ---- what an object lists

module _ {x t : List ℕ} {i : ℕ} (name : List ℕ) {ns g : List ℕ} {own : ℕ} {found : Found} (s : Seeks (λ v. first_named name (members v)) x t i found) where
  pub open-nothing : (best : ℕ) → found ≡ None → OpenUnder x t i name ns g own best best
  unfolding open_in least
  open-nothing best e = record { is = λ ms back o id c m v u z. rw (under_none name s e v u) refl }

  pub open-some : {k best r : ℕ} → found ≡ Some k → OpensGive x t k ns g own best r → OpenUnder x t i name ns g own best r
  open-some e a = record { is = λ ms back o id c m v u z. let (w, y, q) = under_some name s e v u in rw q (a.is ms back o id c m w y (rw (← q) z)) }

-- a row of which each number is answered has no fault
pub answered-none : {g : List ℕ} {own : ℕ} (best : ℕ) (ms : List Member) (back : String) (id : List ℕ) → OtherSide ms back g → own ≡ object_number (names_of ms) id → own < length ms
    → (vs : List Json) → answered g own (map (link_number (names_of ms)) vs) ≡ true → best ≡ least best (open_in ms back id false vs)
unfolding open_in open_at answered least
answered-none best ms back id o q l [] e = refl
answered-none {g} {own} best ms back id o q l (v ∷ vs) e =
    answered-none best ms back id o q l vs (both_right (answers g own (link_number (names_of ms) v)) _ e)
    ∙ (ap (λ (n : ℕ). least n (open_in ms back id false vs)) (one (is_string_value v) refl)
    ∙ sym (least-++ best (open_at ms back id false v) (open_in ms back id false vs)))
  where
    one : (b : Bool) → is_string_value v ≡ b → best ≡ least best (open_at ms back id false v)
    one false z = rw z
    one true z = rw z (unless-true best 17 v (sym (answers-is ms back id o q l v z refl) ∙ both_left (answers g own (link_number (names_of ms) v)) _ e))

-- the children of an object, which are excused if it is a group
module _ {x t : List ℕ} {i : ℕ} {ns g : List ℕ} {own : ℕ} {b : Bool} (d : Gives (λ v. is "CityObjectGroup" (type_text v)) x t i b) where
  pub children-excused : (best : ℕ) → b ≡ true → ChildrenOpen x t i ns g own best best
  children-excused best h = record {
    is = λ ms back o id c m v s z.
        let e : is "CityObjectGroup" (type_text v) ≡ true = sym (d.is v s) ∙ h in
        rw e (excused-none best ms back id (listed_in "children" v));
  }

  pub children-told : {best r : ℕ} → b ≡ false → OpenUnder x t i (ascii "children") ns g own best r → ChildrenOpen x t i ns g own best r
  unfolding listed_under listed_in find
  children-told h a = record {
    is = λ ms back o id c m v s z.
        let e : is "CityObjectGroup" (type_text v) ≡ false = sym (d.is v s) ∙ h in
        rw e (a.is ms back o id c m v s z);
  }
