-- Rules 15 to 17 of docs/RULES.md decided by computation: the least fault of the links in the tree of a small text.
use Rattle.std.specs.Prelude.{ℕ, ◌≡◌, refl, List}
use Rattle.utf8.specs.Ascii.{ascii, is_digit}
use Rattle.json_text.specs.Tree.{◌◂◌, with}
use Rattle.json_text.specs.Machine.{Outcome, reads, bad, too_deep, read, step, want_step, got_step, next_step, name_step, mant_step, nought_step, is_blank, is_hex, is_escape}
use Rattle.nodes.specs.Faults.{fault, least, no_fault}
use Rattle.rules.specs.Links.{link_faults}

-- the least fault of the links in the tree of a text; 0 of a text that has no tree
unfoldable judged : List ℕ → ℕ
unfolding read link_faults least fault ascii step want_step got_step next_step name_step mant_step nought_step is_blank is_digit is_hex is_escape ◌◂◌ with
judged text = in_tree (read text)
  where
    in_tree : Outcome → ℕ
    in_tree (reads v) = least no_fault (link_faults v)
    in_tree (bad n) = 0
    in_tree (too_deep n) = 0

-- ---- rule 15

-- a child that is listed twice: the later entry is at fault
child-twice :
    judged (ascii "{\"CityObjects\":{\"a\":{\"type\":\"Building\",\"children\":[\"b\",\"b\"]},\"b\":{\"type\":\"BuildingPart\",\"parents\":[\"a\"]}}}")
    ≡ fault 15 55
unfolding judged
child-twice = refl

-- entries are compared as decoded: \u0062 is b
child-twice-decoded :
    judged (ascii "{\"CityObjects\":{\"a\":{\"type\":\"Building\",\"children\":[\"b\",\"\\u0062\"]},\"b\":{\"type\":\"BuildingPart\",\"parents\":[\"a\"]}}}")
    ≡ fault 15 55
unfolding judged
child-twice-decoded = refl

-- a child that is no object
child-absent : judged (ascii "{\"CityObjects\":{\"a\":{\"type\":\"Building\",\"children\":[\"c\"]}}}") ≡ fault 15 51
unfolding judged
child-absent = refl

-- a parent that is no object
parent-absent : judged (ascii "{\"CityObjects\":{\"a\":{\"type\":\"BuildingPart\",\"parents\":[\"c\"]}}}") ≡ fault 15 54
unfolding judged
parent-absent = refl

-- a group is excused from rule 17 only: its absent child is at fault
group-child-absent : judged (ascii "{\"CityObjects\":{\"g\":{\"type\":\"CityObjectGroup\",\"children\":[\"c\"]}}}") ≡ fault 15 58
unfolding judged
group-child-absent = refl

-- one ID in two lists is not listed twice in one
both-lists :
    judged (ascii "{\"CityObjects\":{\"a\":{\"children\":[\"b\"],\"parents\":[\"b\"]},\"b\":{\"children\":[\"a\"],\"parents\":[\"a\"]}}}")
    ≡ no_fault
unfolding judged
both-lists = refl

-- ---- rule 16

-- a second-level object without `parents`, at the object
no-parents : judged (ascii "{\"CityObjects\":{\"b\":{\"type\":\"BuildingPart\"}}}") ≡ fault 16 20
unfolding judged
no-parents = refl

-- a second-level object with an empty list
empty-parents : judged (ascii "{\"CityObjects\":{\"b\":{\"type\":\"BuildingPart\",\"parents\":[]}}}") ≡ fault 16 20
unfolding judged
empty-parents = refl

-- the first code of the second level, 17
first-of-second-level : judged (ascii "{\"CityObjects\":{\"b\":{\"type\":\"BridgePart\"}}}") ≡ fault 16 20
unfolding judged
first-of-second-level = refl

-- the last code of the first level, 16, needs no parent
last-of-first-level : judged (ascii "{\"CityObjects\":{\"b\":{\"type\":\"Waterway\",\"parents\":[]}}}") ≡ no_fault
unfolding judged
last-of-first-level = refl

-- ---- rule 17

-- a one-sided child, at the listed string
child-one-sided : judged (ascii "{\"CityObjects\":{\"a\":{\"type\":\"Building\",\"children\":[\"b\"]},\"b\":{\"type\":\"Building\"}}}") ≡ fault 17 51
unfolding judged
child-one-sided = refl

-- a one-sided parent, at the listed string
parent-one-sided : judged (ascii "{\"CityObjects\":{\"a\":{\"type\":\"Building\"},\"b\":{\"type\":\"BuildingPart\",\"parents\":[\"a\"]}}}") ≡ fault 17 78
unfolding judged
parent-one-sided = refl

-- a group's one-sided child is excused
group-child : judged (ascii "{\"CityObjects\":{\"g\":{\"type\":\"CityObjectGroup\",\"children\":[\"b\"]},\"b\":{\"type\":\"Building\"}}}") ≡ no_fault
unfolding judged
group-child = refl

-- its one-sided parent is not
group-parent : judged (ascii "{\"CityObjects\":{\"g\":{\"type\":\"CityObjectGroup\",\"parents\":[\"b\"]},\"b\":{\"type\":\"Building\"}}}") ≡ fault 17 57
unfolding judged
group-parent = refl

-- only the object that lists is excused: a group that is listed as a child lists its parent
group-listed : judged (ascii "{\"CityObjects\":{\"a\":{\"type\":\"Building\",\"children\":[\"g\"]},\"g\":{\"type\":\"CityObjectGroup\"}}}") ≡ fault 17 51
unfolding judged
group-listed = refl

-- a link with both sides
two-sided :
    judged (ascii "{\"CityObjects\":{\"a\":{\"type\":\"Building\",\"children\":[\"b\"]},\"b\":{\"type\":\"BuildingPart\",\"parents\":[\"a\"]}}}")
    ≡ no_fault
unfolding judged
two-sided = refl
