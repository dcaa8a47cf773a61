-- Rules 5 and 6 of docs/RULES.md, which hold in every part of a text: all places at which a tree breaks them.
use Rattle.std.specs.Prelude.{ℕ, ◌+◌, Bool, false, cond, ◌||◌, List, [], ◌∷◌, ◌++◌}
use Rattle.utf8.specs.Utf8.{same}
use Rattle.strings.specs.Strings.{decode, unpaired_from}
use Rattle.json_text.specs.Tree.{Json, null, bool, num, str, arr, obj, Items, no_items, ◌▸◌, Members, empty, member, Name}

-- every string and every name of a tree, in the text's order
unfoldable mutual
  pub strings : Json → List Name
  strings (null p e) = []
  strings (bool p e b) = []
  strings (num p e raw) = []
  strings (str p e raw) = record { place = p; end = e; raw = raw } ∷ []
  strings (arr p e vs) = strings_in vs
  strings (obj p e ms) = strings_of ms

  pub strings_in : Items → List Name
  strings_in no_items = []
  strings_in (v ▸ vs) = strings v ++ strings_in vs

  pub strings_of : Members → List Name
  strings_of empty = []
  strings_of (member k v ms) = k ∷ (strings v ++ strings_of ms)

-- rule 5, in each of some strings and names, and in all of a tree
unfoldable pub unpaired_in : List Name → List ℕ
unfolding unpaired_from
unpaired_in [] = []
unpaired_in (s ∷ ss) = unpaired_from (s.place + 1) s.raw ++ unpaired_in ss

unfoldable pub rule5 : Json → List ℕ
unfolding strings unpaired_in
rule5 v = unpaired_in (strings v)

-- is the text among these?
unfoldable pub among : List (List ℕ) → List ℕ → Bool
unfolding same
among [] t = false
among (u ∷ us) t = same u t || among us t

-- rule 6: "a name repeats an earlier one of its object" at "the later name"; `earlier` are the names before these members
unfoldable pub repeated : List (List ℕ) → Members → List ℕ
unfolding among decode
repeated earlier empty = []
repeated earlier (member k v ms) = cond (among earlier (decode k.raw)) (k.place ∷ []) [] ++ repeated (decode k.raw ∷ earlier) ms

unfoldable mutual
  unfolding repeated

  -- "(any object)"
  pub rule6 : Json → List ℕ
  rule6 (null p e) = []
  rule6 (bool p e b) = []
  rule6 (num p e raw) = []
  rule6 (str p e raw) = []
  rule6 (arr p e vs) = rule6_in vs
  rule6 (obj p e ms) = repeated [] ms ++ rule6_of ms

  pub rule6_in : Items → List ℕ
  rule6_in no_items = []
  rule6_in (v ▸ vs) = rule6 v ++ rule6_in vs

  pub rule6_of : Members → List ℕ
  rule6_of empty = []
  rule6_of (member k v ms) = rule6 v ++ rule6_of ms
