-- The strings and names of an accepted text stand for whole characters, so the IDs, the links and the added names of its model are UTF-8
-- (docs/SHEET.md; the paper: "then the ID in UTF-8").
use Rattle.std.specs.Prelude.{ℕ, ◌+◌, ◌-◌, ◌≡◌, Bool, true, false, cond, get_or, eqb}
use Prim.Native.String.{String}
use Rattle.std.proofs.Common.{arith, sym, subst}
use mathlib.Core.List.{List, [], ◌∷◌, ◌++◌, map, map-eq-nil_iff, Memᴰ}
use Rattle.std.proofs.Math.Option.{Option, some}
use Rattle.std.proofs.Math.Option as option
use Rattle.std.proofs.Math.Seq.{slice}
use Rattle.utf8.specs.Utf8.{Whole, same}
use Rattle.utf8.specs.Utf8.Whole.{nil}
use Rattle.utf8.specs.Laws.{nil-left, nil-right}
use Rattle.utf8.specs.Splits.{whole-text, whole-between}
use Rattle.strings.specs.Strings.{decode, unpaired_from}
use Rattle.strings.proofs.Characters.{whole-decode}
use Rattle.words.specs.Words.{code_of, geometry_words}
use Rattle.json_text.specs.Tree.{Json, Items, ◌▸◌, Members, Name}
use Rattle.json_text.specs.Tree as tree
use Rattle.json_text.specs.Grammar.{Text}
use Rattle.grammar.proofs.Theorems.{read-text}
use Rattle.nodes.specs.Access.{Member, listed, elements, pairs, members, name_of, text_of, first_named, find}
use Rattle.nodes.specs.Faults.{fault}
use Rattle.everywhere.specs.Everywhere.{strings, strings_in, strings_of, unpaired_in, rule5, rule6}
use Rattle.rules.specs.Schema.{city_json}
use Rattle.rules.specs.Links.{link_faults}
use Rattle.verdict.specs.Verdict.{accepted, faults, verdict}
use Rattle.verdict.proofs.Exact.{accepted-clean}
use Rattle.model.specs.Code.{All}
use Rattle.model.specs.Lists.{one_of, all_map, all_both, all-parts, all_of_map}
use Rattle.model.specs.Model.{added}
use Rattle.model.specs.Model as model
use Rattle.model.specs.Read.{or_null, get, surface_named, surface_of, semantics_of, geometry_of, object_of, model_of}
use Rattle.json_text.specs.Machine.{tree_of}
use Rattle.sheets.specs.Laid.{model_of_text}
use Rattle.sheets.specs.Quoted.{InQuotes, chars-end, chars-escaped, text-quoted}
use Rattle.sheets.proofs.Answers.{tree_is}
use Rattle.sheets.specs.Characters.{WholeName, WholeSurface, WholeSemantics, WholeObject, WholeTexts}

-- ---- what is whole

-- ---- the strings of a text

-- a string has no unpaired surrogate escape
abbrev Paired : Name → Type 0
Paired s = unpaired_from (s.place + 1) s.raw ≡ []

-- a string of a text
string-whole : {x : List ℕ} → Whole x → (s : Name) → InQuotes x s → Paired s → WholeName s
string-whole {x} w s q e =
    let p = s.place in
    let r = slice (p + 1) (s.end - 1) x in
    let (l, z) = chars-end q.chars in
    let v : Whole r = whole-between w p (s.end - 1) (omega arith) z.inside (omega (arith, q.opening.byte)) (omega (arith, z.byte)) in
    let f : unpaired_from (p + 1) r ≡ [] = subst (λ t. unpaired_from (p + 1) t ≡ []) q.raw e in
    subst (λ t. Whole (decode t)) (sym q.raw) (whole-decode (p + 1) (chars-escaped q.chars) f v)

-- rule 5 is kept by each
each-paired : (ss : List Name) → unpaired_in ss ≡ [] → All Paired ss
unfolding unpaired_in
each-paired [] e = tt
each-paired (s ∷ ss) e = (nil-left _ _ e, each-paired ss (nil-right (unpaired_from (s.place + 1) s.raw) _ e))

-- so all of them
strings-whole : {l : ℕ} {x : List ℕ} {v : Json} → Whole x → Text l x v → rule5 v ≡ [] → All WholeName (strings v)
unfolding rule5
strings-whole {x = x} {v = v} w t e =
    all_both (InQuotes x) Paired WholeName (string-whole w) (strings v) (text-quoted t) (each-paired (strings v) e)

-- a tree with no fault keeps rule 5
clean-rule5 : (v : Json) → faults v ≡ [] → rule5 v ≡ []
unfolding faults
clean-rule5 v e =
    let a = map (fault 5) (rule5 v) in
    let b = map (fault 6) (rule6 v) in
    (map-eq-nil_iff (fault 5)).0 (nil-left a b (nil-left (a ++ b) (city_json v) (nil-left (a ++ b ++ city_json v) (link_faults v) e)))

-- the strings and names of an accepted text
texts-whole : (x : List ℕ) (n : ℕ) → verdict x ≡ accepted n → All WholeName (strings (tree_of x))
texts-whole x n e =
    let c = accepted-clean x n e in
    rw (tree_is x c.value c.reads) (strings-whole (whole-text x c.whole) ((read-text x c.value).0 c.reads) (clean-rule5 c.value c.clean))

-- every string and every name of an accepted text stands for whole characters
pub whole-strings : (x : List ℕ) (n : ℕ) → verdict x ≡ accepted n → (s : Name) → Memᴰ s (strings (tree_of x)) → Whole (decode s.raw)
whole-strings x n e s m = one_of WholeName m (texts-whole x n e)

-- ---- what is read of a tree

-- a value's strings and names
abbrev Texts : Json → Type 0
Texts v = All WholeName (strings v)

-- a member's
abbrev MemberTexts : Member → Type 0
MemberTexts m = WholeName m.0 × Texts m.1

listed-texts : (vs : Items) → All WholeName (strings_in vs) → All Texts (listed vs)
unfolding strings listed
listed-texts tree.no_items h = tt
listed-texts (v ▸ vs) h = let (g, k) = all-parts WholeName (strings v) (strings_in vs) h in (g, listed-texts vs k)

element-texts : (v : Json) → Texts v → All Texts (elements v)
unfolding strings elements
element-texts (tree.null p e) h = tt
element-texts (tree.bool p e b) h = tt
element-texts (tree.num p e raw) h = tt
element-texts (tree.str p e raw) h = tt
element-texts (tree.arr p e vs) h = listed-texts vs h
element-texts (tree.obj p e ms) h = tt

pairs-texts : (ms : Members) → All WholeName (strings_of ms) → All MemberTexts (pairs ms)
unfolding strings pairs
pairs-texts tree.empty h = tt
pairs-texts (tree.member n v ms) h = let (g, k) = all-parts WholeName (strings v) (strings_of ms) h.1 in ((h.0, g), pairs-texts ms k)

member-texts : (v : Json) → Texts v → All MemberTexts (members v)
unfolding strings members
member-texts (tree.null p e) h = tt
member-texts (tree.bool p e b) h = tt
member-texts (tree.num p e raw) h = tt
member-texts (tree.str p e raw) h = tt
member-texts (tree.arr p e vs) h = tt
member-texts (tree.obj p e ms) h = pairs-texts ms h

-- a string's text; that of another value is empty
text-whole : (v : Json) → Texts v → Whole (text_of v)
unfolding strings text_of
text-whole (tree.null p e) h = nil
text-whole (tree.bool p e b) h = nil
text-whole (tree.num p e raw) h = nil
text-whole (tree.str p e raw) h = h.0
text-whole (tree.arr p e vs) h = nil
text-whole (tree.obj p e ms) h = nil

-- a member that is found
abbrev TextsIn : Option Json → Type 0
TextsIn option.none = Unit {0}
TextsIn (some v) = Texts v

found-if : (b : Bool) (v : Json) (o : Option Json) → Texts v → TextsIn o → TextsIn (cond b (some v) o)
found-if true v o h k = h
found-if false v o h k = k

first-texts : (t : List ℕ) (ms : List Member) → All MemberTexts ms → TextsIn (first_named t ms)
unfolding first_named
first-texts t [] h = tt
first-texts t (m ∷ ms) h = found-if (same t (name_of m)) m.1 (first_named t ms) h.0.1 (first-texts t ms h.1)

find-texts : (n : String) (v : Json) → Texts v → TextsIn (find n v)
unfolding find
find-texts n v h = first-texts _ (members v) (member-texts v h)

null-texts : (o : Option Json) → TextsIn o → Texts (or_null o)
unfolding or_null strings
null-texts option.none h = tt
null-texts (some v) h = h

get-texts : (n : String) (v : Json) → Texts v → Texts (get n v)
unfolding get
get-texts n v h = null-texts (find n v) (find-texts n v h)

-- ---- the model

-- what is read of the elements of a member
each_read : {B : Type 0} (Q : B → Type 0) (read : Json → B) → ((v : Json) → Texts v → Q (read v))
    → (n : String) (v : Json) → Texts v → All Q (map read (elements (get n v)))
each_read Q read one n v h = all_of_map Q read (elements (get n v)) (all_map one (elements (get n v)) (element-texts (get n v) (get-texts n v h)))

surface-if : (b : Bool) (code : ℕ) (t : List ℕ) → Whole t → WholeSurface (cond b (added t) (model.listed code))
surface-if true code t w = w
surface-if false code t w = tt

surface-whole : (v : Json) → Texts v → WholeSurface (surface_of v)
unfolding surface_of surface_named
surface-whole v h = surface-if (eqb (get_or (text_of (get "type" v)) 0 0) 43) _ _ (text-whole (get "type" v) (get-texts "type" v h))

semantics-whole : (code : ℕ) (o : Option Json) → TextsIn o → WholeSemantics (option.map (semantics_of code) o)
unfolding semantics_of
semantics-whole code option.none h = tt
semantics-whole code (some v) h = each_read WholeSurface surface_of surface-whole "surfaces" v h

geometry-whole : (v : Json) → Texts v → WholeSemantics (geometry_of v).semantics
unfolding geometry_of
geometry-whole v h = semantics-whole (code_of geometry_words (text_of (get "type" v))) (find "semantics" v) (find-texts "semantics" v h)

object-whole : (m : Member) → MemberTexts m → WholeObject (object_of m)
unfolding object_of name_of
object-whole m h = record {
  id = h.0;
  children = each_read Whole text_of text-whole "children" m.1 h.1;
  parents = each_read Whole text_of text-whole "parents" m.1 h.1;
  names = each_read (λ g. WholeSemantics g.semantics) geometry_of geometry-whole "geometry" m.1 h.1;
}

model-whole : (v : Json) → Texts v → WholeTexts (model_of v)
unfolding model_of
model-whole v h =
    let o = get "CityObjects" v in
    all_of_map WholeObject object_of (members o) (all_map object-whole (members o) (member-texts o (get-texts "CityObjects" v h)))

-- the IDs, the links and the added names of the model of an accepted text are whole characters
pub whole-model : (x : List ℕ) (n : ℕ) → verdict x ≡ accepted n → WholeTexts (model_of_text x)
unfolding model_of_text
whole-model x n e = model-whole (tree_of x) (texts-whole x n e)
