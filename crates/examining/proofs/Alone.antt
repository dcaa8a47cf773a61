-- A tree that keeps rule 6 has no two city objects of one ID.
use Prim.Native.Nat.{ℕ, zero, suc, ◌<◌}
use native.Mathlib.Omega.{arith}
use mathlib.Core.Path.{◌≡◌, refl}
use mathlib.Core.Bool.{Bool, true, false, cond}
use mathlib.Core.List.{List, [], ◌∷◌}
use mathlib.Core.Option.{Option, some}
use mathlib.Core.Option as option
use lib.ListN.{length, get_or}
use Rattle.utf8.specs.Ascii.{ascii}
use Rattle.utf8.specs.Utf8.{same}
use Rattle.utf8.specs.Laws.{same_refl, neither}
use Rattle.strings.specs.Strings.{decode}
use Rattle.json_text.specs.Tree.{Json, null, bool, num, str, arr, obj, Members, empty, member, Name}
use Rattle.nodes.specs.Access.{name_of, pairs, members, first_named, find}
use Rattle.everywhere.specs.Everywhere.{among, repeated, rule6, rule6_of}
use Rattle.fields.specs.Fields.{members_in, objects_of}
use Rattle.model.specs.Model.{object_number}
use Rattle.model.proofs.AlikeLaws.{members-keep, named-keeps}
use Rattle.ids.specs.Says.{names_of}
use Rattle.sheets.specs.Clear.{nil-left, nil-right}

-- ---- the names of one object

not-among : (b : Bool) (p : ℕ) → cond b (p ∷ []) [] ≡ [] → b ≡ false
not-among true p e = cc
not-among false p e = refl

-- whether the first name is among those before, and what is told of the later ones
first-place : List (List ℕ) → Name → List ℕ
unfolding among decode
first-place us n = cond (among us (decode n.raw)) (n.place ∷ []) []

later : (us : List (List ℕ)) (n : Name) (v : Json) (ms : Members) → repeated us (member n v ms) ≡ [] → repeated (decode n.raw ∷ us) ms ≡ []
unfolding repeated first-place
later us n v ms e = nil-right (first-place us n) (repeated (decode n.raw ∷ us) ms) e

-- a name is not among those that stand before all of them
fresh : (us : List (List ℕ)) (ms : Members) → repeated us ms ≡ [] → (k : ℕ) → k < length (pairs ms) → among us (get_or (names_of (pairs ms)) k []) ≡ false
unfolding repeated pairs names_of name_of among first-place
fresh us empty e k h = absurd (omega arith)
fresh us (member n v ms) e zero h = not-among (among us (decode n.raw)) n.place (nil-left (first-place us n) (repeated (decode n.raw ∷ us) ms) e)
fresh us (member n v ms) e (suc k) h =
    let u = get_or (names_of (pairs ms)) k [] in
    (neither (same (decode n.raw) u) (among us u) (fresh (decode n.raw ∷ us) ms (later us n v ms e) k (omega arith))).1

-- so the first of its name is itself
numbered : (us : List (List ℕ)) (ms : Members) → repeated us ms ≡ [] → (k : ℕ) → k < length (pairs ms) → object_number (names_of (pairs ms)) (get_or (names_of (pairs ms)) k []) ≡ k
unfolding pairs names_of name_of among object_number
numbered us empty e k h = absurd (omega arith)
numbered us (member n v ms) e zero h = rw (same_refl (decode n.raw)) refl
numbered us (member n v ms) e (suc k) h =
    let u = get_or (names_of (pairs ms)) k [] in
    let l = later us n v ms e in
    let other = (neither (same (decode n.raw) u) (among us u) (fresh (decode n.raw ∷ us) ms l k (omega arith))).0 in
    rw (other, numbered (decode n.raw ∷ us) ms l k (omega arith)) refl

-- ---- the object that holds the city objects

of-value : (o : Json) → rule6 o ≡ [] → (k : ℕ) → k < length (members o) → object_number (names_of (members o)) (get_or (names_of (members o)) k []) ≡ k
unfolding rule6 members
of-value (null p e) c k h = absurd (omega arith)
of-value (bool p e b) c k h = absurd (omega arith)
of-value (num p e raw) c k h = absurd (omega arith)
of-value (str p e raw) c k h = absurd (omega arith)
of-value (arr p e vs) c k h = absurd (omega arith)
of-value (obj p e ms) c k h = numbered [] ms (nil-left (repeated [] ms) (rule6_of ms) c) k h

-- the number of an ID is its object's place
pub alone : (v : Json) → rule6 v ≡ [] → (k : ℕ) → k < length (objects_of v) → object_number (names_of (objects_of v)) (get_or (names_of (objects_of v)) k []) ≡ k
unfolding objects_of find members_in
alone v c k h = by (first_named (ascii "CityObjects") (members v)) refl h
  where
    by : (o : Option Json) → first_named (ascii "CityObjects") (members v) ≡ o → k < length (members_in o) → object_number (names_of (members_in o)) (get_or (names_of (members_in o)) k []) ≡ k
    by option.none f l = absurd (omega arith)
    by (some o) f l = of-value o (named-keeps (ascii "CityObjects") (members v) o (members-keep v c) f) k l
