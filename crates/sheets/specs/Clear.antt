-- What it tells of a value that a check finds no fault in it.
use Rattle.std.specs.Prelude.{ℕ, ◌≡◌, refl, Bool, true, false, cond, not, ◌||◌, List, [], ◌∷◌, map, length}
use Prim.Native.String.{String}
use Rattle.std.proofs.Common.{sym, subst, ◌∙◌}
use Rattle.std.proofs.Math.Option.{Option, some}
use Rattle.std.proofs.Math.Option as option
use Rattle.std.proofs.lemmas.List.{length-map}
pub use Rattle.utf8.specs.Laws.{nil-left, nil-right}
use Rattle.json_text.specs.Tree.{Json, null}
use Rattle.nodes.specs.Access.{is_number_value, is_string_value, is_object_value, elements, members, text_of, numeral_of, find}
use Rattle.shapes.specs.Checks.{Check, unless, all, on, at, for_each, each_element, object_kind, string_kind, array_kind, is_some, needs, text, numeral}
use Rattle.fields.specs.Fields.{text_in, elements_in, listed_in, type_text, count_in, members_in, objects_of}
use Rattle.model.specs.Code.{All}
use Rattle.model.specs.Lists.{all_both, all_of_map}
use Rattle.model.specs.Read.{or_null, get}

-- ---- lists with no element

-- an empty list where the test passes
pub cond-left : (b : Bool) (l m : List ℕ) → b ≡ true → cond b l m ≡ [] → l ≡ []
cond-left true l m t e = e
cond-left false l m t e = cc

-- an empty list where it fails
pub cond-right : (b : Bool) (l m : List ℕ) → b ≡ false → cond b l m ≡ [] → m ≡ []
cond-right true l m t e = cc
cond-right false l m t e = e

-- ---- single checks

-- a rule with no fault is kept
pub kept : (b : Bool) (r : ℕ) (v : Json) → unless b r v ≡ [] → b ≡ true
unfolding unless
kept true r v e = refl
kept false r v e = cc

-- what a test that passes asks for
pub implied : (a b : Bool) → a ≡ true → (not a || b) ≡ true → b ≡ true
implied true b p q = q
implied false b p q = cc

-- one of two that is not the second
pub first_of : (a b : Bool) → (a || b) ≡ true → b ≡ false → a ≡ true
first_of true b p q = refl
first_of false b p q = cc

-- rule 7 of a string
pub is-string : (v : Json) → string_kind v ≡ [] → is_string_value v ≡ true
unfolding string_kind
is-string v e = kept (is_string_value v) 7 v e

-- a rule about a string's text
pub text-ok : (r : ℕ) (ok : List ℕ → Bool) (v : Json) → string_kind v ≡ [] → text r ok v ≡ [] → ok (text_of v) ≡ true
unfolding text
text-ok r ok v s e = implied (is_string_value v) (ok (text_of v)) (is-string v s) (kept _ r v e)

-- a rule about a numeral's bytes
pub numeral-ok : (r : ℕ) (ok : List ℕ → Bool) (v : Json) → is_number_value v ≡ true → numeral r ok v ≡ [] → ok (numeral_of v) ≡ true
unfolding numeral
numeral-ok r ok v s e = implied (is_number_value v) (ok (numeral_of v)) s (kept _ r v e)

-- ---- several checks

-- none of the checks finds a fault
abbrev pub Clear : List Check → Json → Type 0
Clear [] v = Unit {0}
Clear (c ∷ cs) v = (c v ≡ []) × Clear cs v

-- several checks with no fault
pub clear : (cs : List Check) (v : Json) → all cs v ≡ [] → Clear cs v
unfolding all
clear [] v e = tt
clear (c ∷ cs) v e = (nil-left (c v) (all cs v) e, clear cs v (nil-right (c v) (all cs v) e))

-- ---- members

-- the value has members of these names
abbrev pub Has : List String → Json → Type 0
Has [] v = Unit {0}
Has (n ∷ ns) v = (is_some (find n v) ≡ true) × Has ns v

-- rules 7 and 8
pub has : (ns : List String) (v : Json) → object_kind v ≡ [] → needs ns v ≡ [] → Has ns v
unfolding needs object_kind
has [] v o e = tt
has (n ∷ ns) v o e = (
  implied (is_object_value v) (is_some (find n v)) (kept (is_object_value v) 7 v o) (kept _ 8 v (nil-left _ (needs ns v) e)),
  has ns v o (nil-right (unless (not (is_object_value v) || is_some (find n v)) 8 v) (needs ns v) e),
)

-- a member that is there is what is read
pub found : (n : String) (v : Json) → is_some (find n v) ≡ true → find n v ≡ some (get n v)
unfolding get is_some or_null
found n v s = of (find n v) s
  where
    of : (o : Option Json) → is_some o ≡ true → o ≡ some (or_null o)
    of option.none e = cc
    of (some w) e = refl

-- so a check of such a member is a check of what is read
pub at_some : (n : String) (c : Check) (v : Json) → is_some (find n v) ≡ true → at n c v ≡ [] → c (get n v) ≡ []
unfolding at on
at_some n c v s e = subst (λ o. on c o ≡ []) (found n v s) e

-- a member that may be absent, where null will do
pub at_null : (c : Check) (P : Json → Type 0) → ((v : Json) → c v ≡ [] → P v) → P (null 0 0) → (n : String) (v : Json) → at n c v ≡ [] → P (get n v)
unfolding at get or_null on
at_null c P one z n v e = of (find n v) e
  where
    of : (o : Option Json) → on c o ≡ [] → P (or_null o)
    of option.none d = z
    of (some w) d = one w d

-- ---- elements

-- a check that finds no fault in a list finds none in each of its values
pub each-clear : (c : Check) (vs : List Json) → for_each c vs ≡ [] → All (λ v. c v ≡ []) vs
unfolding for_each
each-clear c [] e = tt
each-clear c (v ∷ vs) e = (nil-left (c v) (for_each c vs) e, each-clear c vs (nil-right (c v) (for_each c vs) e))

-- each of some values in which two checks find no fault reads as good
pub both-good : {A : Type 0} (c d : Check) (read : Json → A) (P : A → Type 0) → ((v : Json) → c v ≡ [] → d v ≡ [] → P (read v))
    → (vs : List Json) → for_each c vs ≡ [] → for_each d vs ≡ [] → All P (map read vs)
both-good c d read P one vs e f =
    all_of_map P read vs (all_both (λ v. c v ≡ []) (λ v. d v ≡ []) (λ v. P (read v)) one vs (each-clear c vs e) (each-clear d vs f))

-- the same of one check
pub each-good : {A : Type 0} (c : Check) (read : Json → A) (P : A → Type 0) → ((v : Json) → c v ≡ [] → P (read v)) → (vs : List Json) → for_each c vs ≡ []
    → All P (map read vs)
each-good c read P one vs e = both-good c c read P (λ v p q. one v p) vs e e

-- so does each element of a member that is an array, if it is there
pub list-good : {A : Type 0} (c : Check) (read : Json → A) (P : A → Type 0) → ((v : Json) → c v ≡ [] → P (read v))
    → (n : String) (v : Json) → at n (all (array_kind ∷ each_element c ∷ [])) v ≡ [] → All P (map read (elements (get n v)))
unfolding each_element elements
list-good c read P one n v e =
    at_null (all (array_kind ∷ each_element c ∷ [])) (λ w. All P (map read (elements w)))
    (λ w d. each-good c read P one (elements w) (clear (array_kind ∷ each_element c ∷ []) w d).1.0) tt n v e

-- ---- what the rules look up is what is read

-- the text of `type`
pub type-text : (v : Json) → type_text v ≡ text_of (get "type" v)
unfolding type_text get text_in or_null text_of
type-text v = of (find "type" v)
  where
    of : (o : Option Json) → text_in o ≡ text_of (or_null o)
    of option.none = refl
    of (some w) = refl

-- how many elements a member has
pub counted : {A : Type 0} (read : Json → A) (n : String) (v : Json) → count_in (find n v) ≡ length (map read (elements (get n v)))
unfolding get count_in or_null elements
counted read n v = of (find n v) ∙ sym (length-map (elements (get n v)) read)
  where
    of : (o : Option Json) → count_in o ≡ length (elements (or_null o))
    of option.none = refl
    of (some w) = refl

-- the elements of a member
pub listed-elements : (n : String) (v : Json) → listed_in n v ≡ elements (get n v)
unfolding listed_in get elements_in or_null elements
listed-elements n v = of (find n v)
  where
    of : (o : Option Json) → elements_in o ≡ elements (or_null o)
    of option.none = refl
    of (some w) = refl

-- the city objects
pub objects-members : (v : Json) → objects_of v ≡ members (get "CityObjects" v)
unfolding objects_of get members_in or_null members
objects-members v = of (find "CityObjects" v)
  where
    of : (o : Option Json) → members_in o ≡ members (or_null o)
    of option.none = refl
    of (some w) = refl
