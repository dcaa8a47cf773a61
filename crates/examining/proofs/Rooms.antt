-- A table that has room for a tree has room, by a third, for what its city objects list.
use Prim.Native.Nat.{ℕ, suc, ◌+◌, ◌*◌, ◌≤◌, ◌<◌}
use Prim.Native.String.{String}
use native.Mathlib.Omega.{arith}
use mathlib.Core.Path.{◌≡◌, refl, sym, ap, ◌∙◌}
use mathlib.Core.Bool.{Bool, true, false, cond}
use mathlib.Core.List.{List, [], ◌∷◌}
use mathlib.Core.Option.{Option, none, some}
use lib.ListN.{length, get_or}
use Rattle.utf8.specs.Ascii.{ascii}
use Rattle.utf8.specs.Utf8.{same}
use Rattle.json_text.specs.Tree.{Json, null, bool, num, str, arr, obj, Items, no_items, ◌▸◌, Members, empty, member}
use Rattle.json_text.specs.Table.{size, sizes, widths}
use Rattle.json_text.specs.Laws.{size-pos}
use Rattle.nodes.specs.Access.{elements, listed, members, pairs, Member, name_of, first_named, find}
use Rattle.nodes.specs.Unique.{unique}
use Rattle.fields.specs.Fields.{elements_in, listed_in, members_in, objects_of}
use Rattle.ids.proofs.Rules.{nobody}
use Rattle.rows.specs.Rows.{listed_count}
use Rattle.rows.specs.Says.{RoomFor}
use Rattle.examining.specs.Examining.{RowRoom, Linked}

-- ---- the words of a tree

items-words : (vs : Items) → 3 * length (listed vs) ≤ sizes vs
unfolding listed sizes
items-words no_items = omega arith
items-words (v ▸ vs) = omega (arith, size-pos v, items-words vs)

elements-words : (v : Json) → 3 * length (elements v) + 3 ≤ size v
unfolding elements size
elements-words (null p e) = omega arith
elements-words (bool p e b) = omega arith
elements-words (num p e raw) = omega arith
elements-words (str p e raw) = omega arith
elements-words (arr p e vs) = omega (arith, items-words vs)
elements-words (obj p e ms) = omega arith

-- those of members: each has a name and a value
member_words : List Member → ℕ
member_words [] = 0
member_words (m ∷ ms) = 3 + size m.1 + member_words ms

pairs-words : (ms : Members) → member_words (pairs ms) ≡ widths ms
unfolding member_words pairs widths
pairs-words empty = refl
pairs-words (member k v ms) = ap (λ (n : ℕ). 3 + size v + n) (pairs-words ms)

members-words : (v : Json) → member_words (members v) + 3 ≤ size v
unfolding members size member_words
members-words (null p e) = omega arith
members-words (bool p e b) = omega arith
members-words (num p e raw) = omega arith
members-words (str p e raw) = omega arith
members-words (arr p e vs) = omega arith
members-words (obj p e ms) = omega (arith, pairs-words ms)

-- a value that was found is no larger
words_in : Option Json → ℕ
words_in none = 0
words_in (some v) = size v

first-words : (name : List ℕ) (ms : List Member) → words_in (first_named name ms) ≤ member_words ms
unfolding first_named words_in member_words
first-words name [] = omega arith
first-words name (m ∷ ms) = of (same name (name_of m)) (first-words name ms)
  where
    of : (b : Bool) → words_in (first_named name ms) ≤ member_words ms → words_in (cond b (some m.1) (first_named name ms)) ≤ 3 + size m.1 + member_words ms
    of true h = omega arith
    of false h = omega arith

find-words : (name : String) (v : Json) → words_in (find name v) ≤ size v
unfolding find
find-words name v = omega (arith, first-words (ascii name) (members v), members-words v)

-- what an object lists
listed-words : (name : String) (v : Json) → 3 * length (listed_in name v) ≤ size v
unfolding listed_in words_in elements_in
listed-words name v = of (find name v) (find-words name v)
  where
    of : (o : Option Json) → words_in o ≤ size v → 3 * length (elements_in o) ≤ size v
    of none h = omega arith
    of (some w) h = omega (arith, elements-words w)

count-words : (name : String) (ms : List Member) → 3 * (length ms + listed_count name ms) ≤ member_words ms
unfolding listed_count member_words
count-words name [] = omega arith
count-words name (m ∷ ms) = omega (arith, listed-words name m.1, count-words name ms)

-- what the city objects list, with a word for each and one more
objects-words : (name : String) (v : Json) → 3 * (length (objects_of v) + 1 + listed_count name (objects_of v)) ≤ size v
unfolding objects_of words_in members_in listed_count
objects-words name v = of (find "CityObjects" v) (find-words "CityObjects" v)
  where
    of : (o : Option Json) → words_in o ≤ size v → 3 * (length (members_in o) + 1 + listed_count name (members_in o)) ≤ size v
    of none h = omega (arith, size-pos v)
    of (some w) h = omega (arith, count-words name (members w), members-words w)

-- ---- the rows

-- members at the same offsets have the same values, so they list as much
same_count : (name : String) (ms os : List Member) → length ms ≡ length os → ((k : ℕ) → k < length ms → (get_or ms k nobody).1 ≡ (get_or os k nobody).1) → listed_count name ms ≡ listed_count name os
unfolding listed_count
same_count name [] [] e h = refl
same_count name [] (o ∷ os) e h = absurd (omega arith)
same_count name (m ∷ ms) [] e h = absurd (omega arith)
same_count name (m ∷ ms) (o ∷ os) e h =
    ap (λ (v : Json). length (listed_in name v) + listed_count name ms) (h 0 (omega arith))
    ∙ ap (λ (n : ℕ). length (listed_in name o.1) + n) (same_count name ms os (omega arith) (λ k l. h (suc k) (omega arith)))

pub room_for : {x t offsets rows : List ℕ} (name : String) → Linked x t offsets → RowRoom x t rows → RoomFor x t offsets name rows
room_for {offsets = offsets} name d r = record {
  all = λ ms o.
      let v = d.value in
      let u = d.indexed v d.stands in
      let c : listed_count name ms ≡ listed_count name (objects_of v) = same_count name ms (objects_of v) (sym o.all ∙ u.all)
      (λ k l. unique (o.each k nobody (omega (arith, o.all))).value (u.each k nobody (omega (arith, o.all))).value) in
      omega (arith, c, u.all, objects-words name v, r.long v d.stands);
  short = r.short;
}
