-- Sample readings (docs/TRACE.md) that rules 5 and 6 of docs/RULES.md decide, by computation: the places in the tree of the text.
-- Then the parts of a tree.
use Rattle.std.specs.Prelude.{ℕ, ◌≡◌, refl, List, [], ◌∷◌, map}
use Rattle.utf8.specs.Ascii.{ascii, is_digit}
use Rattle.json_text.specs.Tree.{Json, ◌◂◌, with}
use Rattle.json_text.specs.Machine.{Outcome, reads, bad, too_deep, read, step, want_step, got_step, next_step, name_step, mant_step, nought_step, is_blank, is_hex, is_escape}
use Rattle.everywhere.specs.Everywhere.{rule5, rule6}
use Rattle.everywhere.specs.Parts.{part_place, part_end, parts}

-- the places of a rule in the tree of a text
unfoldable places : (Json → List ℕ) → List ℕ → List ℕ
unfolding read rule5 rule6 ascii step want_step got_step next_step name_step mant_step nought_step is_blank is_digit is_hex is_escape ◌◂◌ with
places rule text = in_tree (read text)
  where
    in_tree : Outcome → List ℕ
    in_tree (reads v) = rule v
    in_tree (bad n) = []
    in_tree (too_deep n) = []

-- "\uD800": 5 at 1
high-alone : places rule5 (ascii "\"\\uD800\"") ≡ 1 ∷ []
unfolding places
high-alone = refl

-- a name and a value, each with a surrogate alone
names-too : places rule5 (ascii "{\"\\uDC00\":[\"\\uD800\\u0041\"]}") ≡ 2 ∷ 12 ∷ []
unfolding places
names-too = refl

-- {"type":1,"type":1}: 6 at 10
twice : places rule6 (ascii "{\"type\":1,\"type\":1}") ≡ 10 ∷ []
unfolding places
twice = refl

-- {"\u0061":1,"a":2}: 6 at 12, names compared as decoded
twice-decoded : places rule6 (ascii "{\"\\u0061\":1,\"a\":2}") ≡ 12 ∷ []
unfolding places
twice-decoded = refl

-- in any object, and each later name
in-any-object : places rule6 (ascii "[{\"a\":{\"b\":1,\"b\":2},\"a\":3,\"a\":4}]") ≡ 20 ∷ 26 ∷ 13 ∷ []
unfolding places
in-any-object = refl

-- the parts of {"a" : [10, null ] } are the object, the name, the array, the number and the word, in this order; a blank after one is no part of it
part-places : places (λ v. map part_place (parts v)) (ascii "{\"a\" : [10, null ] }") ≡ 0 ∷ 1 ∷ 7 ∷ 8 ∷ 12 ∷ []
unfolding places parts part_place
part-places = refl

part-ends : places (λ v. map part_end (parts v)) (ascii "{\"a\" : [10, null ] }") ≡ 20 ∷ 4 ∷ 18 ∷ 10 ∷ 16 ∷ []
unfolding places parts part_end
part-ends = refl
