-- What the numbers of objects tell of their IDs.
use Prim.Native.Nat.{ℕ, suc, ◌<◌, ◌≤◌}
use native.Mathlib.Omega.{arith}
use mathlib.Core.Path.{◌≡◌, refl, sym, ap, ◌∙◌}
use mathlib.Core.Bool.{Bool, true, false, cond, ◌||◌}
use mathlib.Core.List.{List, [], ◌∷◌, ◌++◌, map}
use mathlib.Core.Option.{some}
use lib.ListN.{length, get_or, length-map}
use lib.Dec.{eqb, ltb}
use borrow.Author.Tests.{eq-eqb, ne_eqb, lt-ltb, le-ltb, ltb-true, ltb-false}
use Rattle.utf8.specs.Utf8.{same}
use Rattle.utf8.specs.Laws.{same-equal, same_refl, never}
use Rattle.words.specs.Words.{has}
use Rattle.json_text.specs.Tree.{Json}
use Rattle.model.specs.Model.{object_number}
use Rattle.nodes.specs.Access.{is_string_value, text_of, Member, name_of, first_named}
use Rattle.everywhere.specs.Everywhere.{among}
use Rattle.ids.specs.Says.{names_of}
use Rattle.shapes.specs.Checks.{is_some}
use Rattle.rows.specs.Rows.{link_number}
use Rattle.rules.specs.Links.{ids_among}

-- `same` looks the same from either side
same_turn : (u w : List ℕ) → same u w ≡ same w u
same_turn u w = of (same u w) (same w u) refl refl
  where
    of : (a b : Bool) → same u w ≡ a → same w u ≡ b → a ≡ b
    of true true p q = refl
    of true false p q = absurd (never (same_refl u) (rw (← same-equal u w p) at q))
    of false true p q = absurd (never (same_refl w) (rw (← same-equal w u q) at p))
    of false false p q = refl

-- a number below the count is that of the ID
number-hit : (names : List (List ℕ)) (u : List ℕ) → object_number names u < length names → get_or names (object_number names u) [] ≡ u
unfolding object_number
number-hit [] u h = absurd (omega arith)
number-hit (i ∷ names) u h = of (same i u) refl (number-hit names u) h
  where
    of : (b : Bool) → same i u ≡ b → (object_number names u < length names → get_or names (object_number names u) [] ≡ u) → cond b 0 (suc (object_number names u)) < length (i ∷ names)
        → get_or (i ∷ names) (cond b 0 (suc (object_number names u))) [] ≡ u
    of true e r l = same-equal i u e
    of false e r l = r (omega arith)

-- two IDs are the same if they name the same object
same_number : (names : List (List ℕ)) (u w : List ℕ) → object_number names w < length names → same u w ≡ eqb (object_number names u) (object_number names w)
same_number names u w h = of (same u w) refl
  where
    of : (b : Bool) → same u w ≡ b → b ≡ eqb (object_number names u) (object_number names w)
    of true e = sym (eq-eqb (object_number names u) (object_number names w) (ap (object_number names) (same-equal u w e)))
    of false e = sym (ne_eqb (object_number names u) (object_number names w) (λ q.
        let k : get_or names (object_number names u) [] ≡ u = number-hit names u (rw q h) in
        let z : w ≡ u = sym (number-hit names w h) ∙ (ap (λ (n : ℕ). get_or names n []) (sym q) ∙ k) in
        never (same_refl u) (rw z at e)))

-- an ID is among some others if its object is one of those that they name
pub among-has : (names us : List (List ℕ)) (w : List ℕ) → object_number names w < length names → among us w ≡ has (map (object_number names) us) (object_number names w)
unfolding among has
among-has names [] w h = refl
among-has names (v ∷ us) w h = rw (same_number names v w h, among-has names us w h)

-- the number of a listed value
pub string-number : (names : List (List ℕ)) (v : Json) → is_string_value v ≡ true → link_number names v ≡ object_number names (text_of v)
unfolding link_number
string-number names v z = rw z

pub other-number : (names : List (List ℕ)) (v : Json) → is_string_value v ≡ false → link_number names v ≡ length names
unfolding link_number
other-number names v z = rw z

-- the same of listed values
pub listed_has : (names : List (List ℕ)) (vs : List Json) (w : List ℕ) → object_number names w < length names
    → has (map (link_number names) vs) (object_number names w) ≡ among (ids_among vs) w
unfolding among has ids_among
listed_has names [] w h = refl
listed_has names (v ∷ vs) w h = of (is_string_value v) refl (listed_has names vs w h)
  where
    of : (b : Bool) → is_string_value v ≡ b → has (map (link_number names) vs) (object_number names w) ≡ among (ids_among vs) w
        → (eqb (link_number names v) (object_number names w) || has (map (link_number names) vs) (object_number names w)) ≡ among (cond b (text_of v ∷ []) [] ++ ids_among vs) w
    of true z e = rw (string-number names v z, ← same_number names (text_of v) w h, e)
    of false z e = rw (other-number names v z, ne_eqb (length names) (object_number names w) (λ q. omega arith), e)

ltb-suc : (a b : ℕ) → ltb (suc a) (suc b) ≡ ltb a b
ltb-suc a b = of (ltb a b) refl
  where
    of : (c : Bool) → ltb a b ≡ c → ltb (suc a) (suc b) ≡ c
    of true e = let l : a < b = ltb-true a b e in lt-ltb (suc a) (suc b) (omega arith)
    of false e = let l : b ≤ a = ltb-false a b e in le-ltb (suc a) (suc b) (omega arith)

-- the object of an ID is there if its number is below the count
pub some_number : (ms : List Member) (u : List ℕ) → is_some (first_named u ms) ≡ ltb (object_number (map name_of ms) u) (length ms)
unfolding is_some first_named object_number
some_number [] u = refl
some_number (m ∷ ms) u = rw (same_turn u (name_of m)) (of (same (name_of m) u) (some_number ms u))
  where
    of : (b : Bool) → is_some (first_named u ms) ≡ ltb (object_number (map name_of ms) u) (length ms)
        → is_some (cond b (some m.1) (first_named u ms)) ≡ ltb (cond b 0 (suc (object_number (map name_of ms) u))) (suc (length ms))
    of true r = sym (lt-ltb 0 (suc (length ms)) (omega arith))
    of false r = r ∙ sym (ltb-suc (object_number (map name_of ms) u) (length ms))

-- and it is the one of that number
pub named-number : (ms : List Member) (d : Member) (u : List ℕ) → object_number (map name_of ms) u < length ms → first_named u ms ≡ some (get_or ms (object_number (map name_of ms) u) d).1
unfolding first_named object_number
named-number [] d u h = absurd (omega arith)
named-number (m ∷ ms) d u h = rw (same_turn u (name_of m)) (of (same (name_of m) u) (named-number ms d u) h)
  where
    of : (b : Bool) → (object_number (map name_of ms) u < length ms → first_named u ms ≡ some (get_or ms (object_number (map name_of ms) u) d).1)
        → cond b 0 (suc (object_number (map name_of ms) u)) < length (m ∷ ms)
        → cond b (some m.1) (first_named u ms) ≡ some (get_or (m ∷ ms) (cond b 0 (suc (object_number (map name_of ms) u))) d).1
    of true r l = refl
    of false r l = r (omega arith)

-- there is an ID for each object
pub names-count : (ms : List Member) → length (names_of ms) ≡ length ms
unfolding names_of
names-count ms = length-map ms _
