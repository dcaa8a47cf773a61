-- The objects one after the other: first rule 15, which fills the sets, then rules 16 and 17.
use Prim.Native.Nat.{ℕ, suc, ◌+◌, ◌*◌, ◌^◌, ◌≤◌, ◌<◌}
use Prim.Native.String.{String}
use native.Mathlib.Omega.{arith}
use native.Mathlib.Numerals.{add-one}
use mathlib.Core.Path.{◌≡◌, refl, sym, ap, ◌∙◌}
use mathlib.Core.Bool.{Bool, true, false, not, ◌&&◌, and-true, and-false}
use mathlib.Core.List.{List, [], ◌∷◌, ◌++◌, map}
use lib.ListN.{length, get_or, drop, drop_of_length-le, length-map}
use lib.Seq.{drop-cons, ext_get_or}
use lib.Dec.{eqb, ltb}
use borrow.Author.Tests.{ne_eqb, ltb-true}
use mir.Val.{Fits}
use mir.Syntax.{w64}
use Rattle.utf8.specs.Ascii.{ascii}
use Rattle.utf8.specs.Utf8.{same}
use Rattle.utf8.specs.Laws.{both_left, both_right}
use Rattle.words.specs.Words.{object_words, code_of, has, is, is_second_level}
use Rattle.grid.specs.Laws.{empty}
use Rattle.json_text.specs.Tree.{Json}
use Rattle.model.specs.Code.{concat_map}
use Rattle.model.specs.Model.{object_number}
use Rattle.nodes.specs.Access.{is_string_value, name_of, Member, find}
use Rattle.nodes.specs.Faults.{least}
use Rattle.nodes.specs.Laws.{least-++}
use Rattle.nodes.specs.Says.{Node, Seeks, Gives, GivesFound}
use Rattle.nodes.specs.Says.{Found}
use Rattle.shapes.specs.Checks.{unless, is_empty}
use Rattle.shapes.specs.Laws.{unless-true}
use Rattle.fields.specs.Fields.{text_in, listed_in, type_text, objects_of}
use Rattle.ids.specs.Says.{Offsets, names_of}
use Rattle.ids.proofs.Rules.{nobody, name-text, object-node, object-value, member-onward}
use Rattle.ids.proofs.Chains.{names-all, name-is}
use Rattle.utf8.specs.Finite.{each_below}
use Rattle.marks.specs.Marks.{row_of, once, answered}
use Rattle.marks.specs.Says.{RowAt, SetTo, Whole}
use Rattle.marks.specs.Says as marks
use Rattle.rows.specs.Rows.{link_number, link_numbers}
use Rattle.rows.specs.Says.{Listed}
use Rattle.rules.specs.Links.{ids_among, parent_link, link_faults}
use Rattle.links.specs.declared.City.{City}
use Rattle.links.specs.Passes.{absent_at, absent, listed_under, absent_under, open_in, open_children, open_parents}
use Rattle.links.specs.Says.{numbers_of, SizedUnder, AbsentUnder, ListedAs, ObjectGives, AllGive, Fills, OtherSide, Links, OpenUnder, ChildrenOpen, ParentGives, OpenFaults, Empty, EachGives, Town, Marks, LinkFaults, Ready, LinksGive}
use Rattle.links.proofs.Numbers.{other-number, names-count}
use Rattle.links.proofs.Absents.{absent-is, numbers-cons}
use Rattle.links.proofs.Split.{split-objects, excused-none}
use Rattle.links.proofs.Opens.{answered-none}

-- ---- all objects

-- the objects from the k-th on
object-cons : (os : List Member) (k : ℕ) → k < length os → drop k os ≡ get_or os k nobody ∷ drop (k + 1) os
object-cons os k h = rw (add-one, drop-cons os k nobody)

-- what a loop over the objects knows where it has come to the k-th, with the least fault acc
pub record Sweeping (x t offsets : List ℕ) (f : List Member → Member → List ℕ) (best k acc : ℕ) : Type 0 where
  of : (ms : List Member) → Offsets x t ms offsets → least acc (concat_map (f ms) (drop k ms)) ≡ least best (concat_map (f ms) ms)

module _ {x t offsets : List ℕ} {f : List Member → Member → List ℕ} where
  pub sweep-begin : (best : ℕ) → Sweeping x t offsets f best 0 best
  sweep-begin best = record { of = λ ms o. refl }

  module _ {best k acc : ℕ} (s : Sweeping x t offsets f best k acc) where
    pub sweep-turn : {acc' : ℕ} → k < length offsets → ObjectGives x t offsets f k acc acc' → Sweeping x t offsets f best (k + 1) acc'
    unfolding concat_map
    sweep-turn l m = record {
      of = λ ms o. rw (m.is ms o nobody)
          (sym (ap (λ (os : List Member). least acc (concat_map (f ms) os)) (object-cons ms k (omega (arith, o.all))) ∙ least-++ acc (f ms (get_or ms k nobody)) (concat_map (f ms) (drop (k + 1) ms)))
          ∙ s.of ms o);
    }

    pub sweep-done : length offsets ≤ k → AllGive x t offsets f best acc
    unfolding concat_map least
    sweep-done h = record { is = λ ms o. sym (ap (λ (os : List Member). least acc (concat_map (f ms) os)) (drop_of_length-le ms {i = k} (omega (arith, o.all)))) ∙ s.of ms o }

-- a loop over the objects that checks each, with the least fault acc, whatever the faults are
pub record Checking (offsets : List ℕ) (post : ℕ → ℕ → ℕ → Type 0) (best k acc : ℕ) : Type 0 where
  pub fits : acc < 2 ^ 32
  pub sweep : (x t : List ℕ) (f : List Member → Member → List ℕ)
      → ((k b r : ℕ) → k < length offsets → b < 2 ^ 32 → post k b r → ObjectGives x t offsets f k b r) → Sweeping x t offsets f best k acc

module _ {offsets : List ℕ} {post : ℕ → ℕ → ℕ → Type 0} where
  pub check-begin : (best : ℕ) → best < 2 ^ 32 → Checking offsets post best 0 best
  check-begin best h = record { fits = h; sweep = λ x t f e. sweep-begin best }

  module _ {best k acc : ℕ} (s : Checking offsets post best k acc) where
    pub check-turn : {acc' : ℕ} → k < length offsets → post k acc acc' → acc' < 2 ^ 32 → Checking offsets post best (k + 1) acc'
    check-turn l p h = record { fits = h; sweep = λ x t f e. sweep-turn (s.sweep x t f e) l (e k _ _ l s.fits p) }

    pub check-done : length offsets ≤ k → EachGives offsets post best acc
    check-done h = record { is = λ x t f e. sweep-done (s.sweep x t f e) h }

-- ---- what an object lists

under-word : (word : String) (v : Json) → listed_under (ascii word) v ≡ listed_in word v
unfolding listed_under listed_in find
under-word word v = refl

pub row-of : {x t offsets : List ℕ} {word : String} {rows : List ℕ} {k : ℕ} → Listed x t offsets word rows → k < length offsets → RowAt rows k
row-of {k = k} d l = d.table.row k l

pub listed-onward : {x t offsets name rows : List ℕ} {k : ℕ} → ListedAs x t offsets name rows → k < length offsets → length t * 4 < 2 ^ 63 → Fits w64 (get_or offsets k 0 + 3)
listed-onward d l h = member-onward (object-node d.objects l) h

-- the object of number k, and the numbers of what it lists
module _ {x t offsets name rows : List ℕ} {k : ℕ} {ns : List ℕ} (d : ListedAs x t offsets name rows) (l : k < length offsets) (e : ns ≡ row_of rows k) where
  numbers-are : (ms : List Member) → Offsets x t ms offsets → (m : Member) → ns ≡ map (link_number (names_of ms)) (listed_under name (get_or ms k m).1)
  unfolding link_numbers
  numbers-are ms o m =
      let v = (get_or ms k m).1 in
      e ∙ (d.listed.is ms o k m l ∙ ap (map (link_number (names_of ms))) (sym (ap (λ (w : List ℕ). listed_under w v) d.bytes ∙ under-word d.word v)))

  pub listed-sized : SizedUnder x t (get_or offsets k 0 + 3) name ns
  listed-sized =
      let ms = d.objects.members in
      let o = d.objects.stand in
      record {
        node = record { value = (get_or ms k nobody).1; stands = (o.each k nobody l).value; short = d.objects.short };
        all = ap length (numbers-are ms o nobody) ∙ length-map (listed_under name (get_or ms k nobody).1) _;
      }

  pub object-absent : {best r : ℕ} → AbsentUnder x t (get_or offsets k 0 + 3) name ns (length offsets) best r → ObjectGives x t offsets (absent_under name) k best r
  unfolding absent_under
  object-absent a = record { is = λ ms o m. a.is ms o.all (get_or ms k m).1 (o.each k m l).value (numbers-are ms o m) }

-- ---- rule 15 by the numbers

-- where each number of a list is below the count, and there once, rule 15 is kept
once-none : (best : ℕ) (ms : List Member) (earlier : List (List ℕ)) (vs : List Json) → once (length ms) (numbers_of ms earlier) (map (link_number (names_of ms)) vs) ≡ true
    → best ≡ least best (absent ms earlier vs)
unfolding once absent least
once-none best ms earlier [] e = refl
once-none best ms earlier (v ∷ vs) e =
    once-none best ms (ids_among (v ∷ []) ++ earlier) vs (rw (rest (is_string_value v) refl) (both_right (ltb n (length ms) && not (has (numbers_of ms earlier) n)) _ e))
    ∙ (ap (λ (m : ℕ). least m (absent ms (ids_among (v ∷ []) ++ earlier) vs)) (one (is_string_value v) refl)
    ∙ sym (least-++ best (absent_at ms earlier v) (absent ms (ids_among (v ∷ []) ++ earlier) vs)))
  where
    n : ℕ
    n = link_number (names_of ms) v

    low : n < length ms
    low = ltb-true n (length ms) (both_left _ _ (both_left _ _ e))

    -- it is no value of another kind, whose number is the count
    is-string : is_string_value v ≡ false → ⊥
    is-string z = omega (arith, low, other-number (names_of ms) v z, names-count ms)

    rest : (b : Bool) → is_string_value v ≡ b → numbers_of ms (ids_among (v ∷ []) ++ earlier) ≡ n ∷ numbers_of ms earlier
    rest true z = numbers-cons ms earlier v z
    rest false z = absurd (is-string z)

    one : (b : Bool) → is_string_value v ≡ b → best ≡ least best (absent_at ms earlier v)
    one true z = unless-true best 15 v (both_left _ _ e) ∙ absent-is ms earlier v z best
    one false z = absurd (is-string z)

-- no fault of each object: none at all
none_each : (best : ℕ) (f : Member → List ℕ) (ms : List Member) → ((k : ℕ) → k < length ms → best ≡ least best (f (get_or ms k nobody))) → best ≡ least best (concat_map f ms)
unfolding concat_map least
none_each best f [] h = refl
none_each best f (m ∷ ms) h =
    none_each best f ms (λ k l. h (suc k) (omega arith)) ∙ (ap (λ (n : ℕ). least n (concat_map f ms)) (h 0 (omega arith)) ∙ sym (least-++ best (f m) (concat_map f ms)))

-- the set of a table whose rows have each number once
module _ {x t offsets name rows : List ℕ} {g g' : List ℕ} (d : ListedAs x t offsets name rows) (e : Empty g (length offsets)) {good : Bool} (m : marks.AllGive rows g g' (length offsets) good) where
  begin : SetTo rows g (length offsets) 0
  unfolding has
  begin = record { done = λ j l. absurd (omega arith); left = λ j l h. record { is = λ n c. empty g e.clear j n } }

  side : (ms : List Member) → Offsets x t ms offsets → (back : String) → name ≡ ascii back → OtherSide ms back g'
  unfolding link_numbers
  side ms o back q = record {
    room = rw (← o.all) (m.room ∙ e.room);
    few = rw (← o.all) o.few;
    is = λ n w l.
        let h : n < length offsets = omega (arith, o.all) in
        let v = (get_or ms n w).1 in
        let u : row_of rows n ≡ map (link_number (names_of ms)) (listed_in back v)
        = numbers-are d h refl ms o w ∙ ap (map (link_number (names_of ms))) (ap (λ (b : List ℕ). listed_under b v) q ∙ under-word back v) in
        rw (← u, ← o.all) ((m.set begin).done n h);
  }

  pub marked-once : (best : ℕ) → good ≡ true → Fills x t offsets name g g' best best
  unfolding absent_under numbers_of
  marked-once best z = record {
    faults = record {
      is = λ ms o. none_each best (absent_under name ms) ms (λ k l.
          let h : k < length offsets = omega (arith, o.all) in
          once-none best ms [] (listed_under name (get_or ms k nobody).1) (rw (← numbers-are d h refl ms o nobody, ← o.all) (each_below _ (length offsets) k (sym (m.is begin) ∙ z) h)));
    };
    room = m.room;
    set = side;
  }

  pub marked-told : {best r : ℕ} → AllGive x t offsets (absent_under name) best r → Fills x t offsets name g g' best r
  marked-told a = record { faults = a; room = m.room; set = side }

-- ---- rule 16

empty-count : (l : List Json) → is_empty l ≡ eqb (length l) 0
unfolding is_empty
empty-count [] = refl
empty-count (v ∷ l) = sym (ne_eqb (length (v ∷ l)) 0 (λ e. omega arith))

-- rule 16 by the level of the object's type and the count of its parents
parent_by : (best : ℕ) (v : Json) (second : Bool) (count : ℕ) → second ≡ is_second_level (code_of object_words (type_text v)) → count ≡ length (listed_in "parents" v)
    → least best (unless (not (second && eqb count 0)) 16 v) ≡ least best (parent_link v)
unfolding parent_link
parent_by best v second count c n = rw (← c, empty-count (listed_in "parents" v), ← n)

module _ {x t : List ℕ} {i count : ℕ} (best : ℕ) where
  pub parent-some : (count ≡ 0 → ⊥) → ParentGives x t i count best best
  parent-some h = record {
    is = λ v s n.
        let b = is_second_level (code_of object_words (type_text v)) in
        let kept : not (b && eqb count 0) ≡ true = rw (ne_eqb count 0 h, and-false b) in
        unless-true best 16 v kept ∙ parent_by best v b count refl n;
  }

  pub parent-told : {kind : Found} {b : Bool} {r : ℕ} → count ≡ 0 → Seeks (λ v. find "type" v) x t i kind → GivesFound (λ o. is_second_level (code_of object_words (text_in o))) x t kind b
      → Gives (λ v. least best (unless (not b) 16 v)) x t i r → ParentGives x t i count best r
  unfolding type_text
  parent-told {b = b} z y g u = record {
    is = λ v s n. u.is v s ∙ (ap (λ c. least best (unless (not c) 16 v)) (sym (and-true b)) ∙ parent_by best v b 0 (g.is (find "type" v) (y.finds v s)) (sym z ∙ n));
  }

-- ---- rules 16 and 17

-- what is told of the type of the object at the node i
module _ {x t : List ℕ} {i : ℕ} {kind : Found} (s : Seeks (λ v. find "type" v) x t i kind) where
  pub type-is : (word : String) {b : Bool} → GivesFound (λ o. same (ascii word) (text_in o)) x t kind b → Gives (λ v. is word (type_text v)) x t i b
  unfolding type_text is
  type-is word g = record { is = λ v u. g.is (find "type" v) (s.finds v u) }

module _ {x t offsets : List ℕ} {name : String} {rows : List ℕ} {back : String} {g : List ℕ} (d : Links x t offsets name rows back g) where
  pub links-whole : Whole g
  links-whole = record { rows = length d.objects.members; all = (d.set d.objects.members d.objects.stand).room }

  module _ {k : ℕ} (l : k < length offsets) where
    pub links-few : k < 1024
    links-few = omega (arith, d.objects.stand.few)

    pub links-row : RowAt rows k
    links-row = d.listed.table.row k l

    pub links-onward : length t * 4 < 2 ^ 63 → Fits w64 (get_or offsets k 0 + 3)
    links-onward h = member-onward (object-node d.objects l) h

    pub links-node : Node x t (get_or offsets k 0 + 3)
    links-node = object-value d.objects (object-node d.objects l)

    own-number : (ms : List Member) → Offsets x t ms offsets → (m : Member) → k ≡ object_number (names_of ms) (name_of (get_or ms k m))
    own-number ms o m = sym (d.alone ms o k l) ∙ ap (object_number (names_of ms)) (name-is o l ∙ sym (name-text (o.each k m l)))

    module _ {ns : List ℕ} (e : ns ≡ row_of rows k) where
      numbers-of : (ms : List Member) → Offsets x t ms offsets → (m : Member) → ns ≡ map (link_number (names_of ms)) (listed_in name (get_or ms k m).1)
      unfolding link_numbers
      numbers-of ms o m = e ∙ d.listed.is ms o k m l

      pub links-sized : SizedUnder x t (get_or offsets k 0 + 3) (ascii name) ns
      links-sized = listed-sized (record { objects = d.objects; word = name; bytes = refl; listed = d.listed }) l e

-- the children of an object
module _ {x t offsets rows g : List ℕ} (d : Links x t offsets "children" rows "parents" g) {k : ℕ} (l : k < length offsets) {ns : List ℕ} (e : ns ≡ row_of rows k) where
  pub children-answered : (best : ℕ) {f : Bool} → f ≡ answered g k ns → f ≡ true → ObjectGives x t offsets open_children k best best
  unfolding open_children
  children-answered best i h = record {
    is = λ ms o m.
        let v = (get_or ms k m).1 in
        let id = name_of (get_or ms k m) in
        by ms o m (is "CityObjectGroup" (type_text v));
  }
    where
      by : (ms : List Member) (o : Offsets x t ms offsets) (m : Member) (b : Bool) → best ≡ least best (open_in ms "parents" (name_of (get_or ms k m)) b (listed_in "children" (get_or ms k m).1))
      by ms o m true = excused-none best ms "parents" (name_of (get_or ms k m)) (listed_in "children" (get_or ms k m).1)
      by ms o m false =
          answered-none best ms "parents" (name_of (get_or ms k m)) (d.set ms o) (own-number d l ms o m) (omega (arith, o.all)) (listed_in "children" (get_or ms k m).1)
          (rw (← numbers-of d l e ms o m) (sym i ∙ h))

  pub children-open : {best r : ℕ} → ChildrenOpen x t (get_or offsets k 0 + 3) ns g k best r → ObjectGives x t offsets open_children k best r
  unfolding open_children
  children-open a = record {
    is = λ ms o m. a.is ms "parents" (d.set ms o) (name_of (get_or ms k m)) (own-number d l ms o m) (omega (arith, o.all)) (get_or ms k m).1 (o.each k m l).value (numbers-of d l e ms o m);
  }

-- its parents
pub above-answered : {x t : List ℕ} {i own : ℕ} {name ns g : List ℕ} {f : Bool} (best : ℕ) → f ≡ answered g own ns → f ≡ true → OpenUnder x t i name ns g own best best
above-answered best i h = record { is = λ ms back o id q l v s z. answered-none best ms back id o q l _ (rw (← z) (sym i ∙ h)) }

pub parents-open : {x t offsets rows g : List ℕ} → Links x t offsets "parents" rows "children" g → {k : ℕ} → k < length offsets → {ns : List ℕ} → ns ≡ row_of rows k → {best a r : ℕ}
    → OpenUnder x t (get_or offsets k 0 + 3) (ascii "parents") ns g k best a → ParentGives x t (get_or offsets k 0 + 3) (length ns) a r → ObjectGives x t offsets open_parents k best r
unfolding open_parents listed_under listed_in find
parents-open d {k} l e {best} a p = record {
  is = λ ms o m.
      let v = (get_or ms k m).1 in
      let n = numbers-of d l e ms o m in
      p.is v (o.each k m l).value (ap length n ∙ length-map (listed_in "parents" v) _)
      ∙ (ap (λ (z : ℕ). least z (parent_link v)) (a.is ms "children" (d.set ms o) (name_of (get_or ms k m)) (own-number d l ms o m) (omega (arith, o.all)) v (o.each k m l).value n)
      ∙ sym (least-++ best _ (parent_link v)));
}

-- ---- all rules

pub open-both : {x t offsets : List ℕ} {best a r : ℕ} → AllGive x t offsets open_children best a → AllGive x t offsets open_parents a r → OpenFaults x t offsets best r
open-both p q = record { is = λ ms o. q.is ms o ∙ ap (λ (z : ℕ). least z (concat_map (open_parents ms) ms)) (p.is ms o) }

module _ {c : City} (d : Town c) where
  pub town-below : {name : List ℕ} → name ≡ ascii "children" → ListedAs c.text.now c.table.now c.offsets.now name c.children.now
  town-below q = record { objects = d.objects; word = "children"; bytes = q; listed = d.below }

  pub town-above : {name : List ℕ} → name ≡ ascii "parents" → ListedAs c.text.now c.table.now c.offsets.now name c.parents.now
  town-above q = record { objects = d.objects; word = "parents"; bytes = q; listed = d.above }

  pub town-marks : {best a r : ℕ} {n m g₀ g p₀ p : List ℕ} → n ≡ ascii "children" → m ≡ ascii "parents" → Fills c.text.now c.table.now c.offsets.now n g₀ g best a
      → Fills c.text.now c.table.now c.offsets.now m p₀ p a r → Marks c g₀ g p₀ p best r
  town-marks {m = m} z y f g = record {
    faults = λ ms o. rw (← z, ← y) (g.faults.is ms o ∙ ap (λ (k : ℕ). least k (concat_map (absent_under m ms) ms)) (f.faults.is ms o));
    room-below = f.room;
    room-above = g.room;
    up = record { objects = d.objects; alone = d.alone; listed = d.below; set = λ ms o. g.set ms o "parents" y };
    down = record { objects = d.objects; alone = d.alone; listed = d.above; set = λ ms o. f.set ms o "children" z };
  }

pub marks-links : {c : City} {g₀ g p₀ p : List ℕ} {best a r : ℕ} → Marks c g₀ g p₀ p best a → OpenFaults c.text.now c.table.now c.offsets.now a r
    → LinkFaults c.text.now c.table.now c.offsets.now best r
marks-links {best = best} {a} f h = record {
  is = λ ms o.
      let c = least best (concat_map (absent_under (ascii "children") ms) ms) in
      split-objects ms ms best {p = c} {q = a} {r = least a (concat_map (open_children ms) ms)} refl (f.faults ms o) refl (h.is ms o);
}

-- members at the same offsets have the same IDs
names_same : {x t offsets : List ℕ} {ms os : List Member} → Offsets x t ms offsets → Offsets x t os offsets → names_of ms ≡ names_of os
names_same {ms = ms} {os} o u =
    ext_get_or [] (names_of ms) (names_of os) (names-all o ∙ sym (names-all u)) (λ k l. name-is o (omega (arith, names-all o)) ∙ sym (name-is u (omega (arith, names-all o))))

pub ready-town : {c : City} → Ready c.text.now c.table.now c.offsets.now c.children.now c.parents.now → Town c
ready-town d = let u = d.indexed d.value d.stands in record {
  objects = record { members = objects_of d.value; stand = u; short = d.short };
  alone = λ ms o k l. rw (names_same o u) (d.alone k (omega (arith, u.all)));
  below = d.below;
  above = d.above;
}

pub links-given : {x t offsets children parents : List ℕ} → Ready x t offsets children parents → {best r : ℕ} → LinkFaults x t offsets best r → LinksGive x t best r
unfolding link_faults
links-given d g = record { is = λ v s. g.is (objects_of v) (d.indexed v s) }
