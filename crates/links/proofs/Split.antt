-- The faults of links are those of rule 15, and after them those of rules 16 and 17.
use Prim.Native.Nat.{ℕ}
use Prim.Native.String.{String}
use mathlib.Core.Path.{◌≡◌, refl, sym, ap, ◌∙◌}
use mathlib.Core.Bool.{Bool, true, false, cond}
use mathlib.Core.List.{List, [], ◌∷◌, ◌++◌}
use Rattle.utf8.specs.Ascii.{ascii}
use Rattle.words.specs.Words.{is}
use Rattle.json_text.specs.Tree.{Json}
use Rattle.nodes.specs.Access.{is_string_value, Member, name_of, find}
use Rattle.nodes.specs.Faults.{least}
use Rattle.nodes.specs.Laws.{least-++}
use Rattle.shapes.specs.Checks.{unless}
use Rattle.shapes.specs.Laws.{least-turn, unless-true}
use Rattle.fields.specs.Fields.{listed_in, type_text}
use Rattle.model.specs.Code.{concat_map}
use Rattle.rules.specs.Links.{ids_among, link, links_from, parent_link, links_of, links_of_each}
use Rattle.links.specs.Passes.{absent_at, absent, listed_under, absent_under, open_at, open_in, open_children, open_parents}

-- four lists of faults, the two in the middle in the other order
least-four : (b : ℕ) (p q r s : List ℕ) → least (least (least (least b p) q) r) s ≡ least (least (least (least b p) r) q) s
least-four b p q r s = ap (λ (n : ℕ). least n s) (least-turn (least b p) q r)

-- one value of a list
split_at : (b : ℕ) (c : Bool) (p q : List ℕ) → least b (cond c (p ++ q) []) ≡ least (least b (cond c p [])) (cond c q [])
unfolding least
split_at b true p q = least-++ b p q
split_at b false p q = refl

-- a list
split-list : (b : ℕ) (ms : List Member) (back : String) (id : List ℕ) (excused : Bool) (earlier : List (List ℕ)) (vs : List Json)
    → least b (links_from ms back id excused earlier vs) ≡ least (least b (absent ms earlier vs)) (open_in ms back id excused vs)
unfolding links_from link absent absent_at open_in open_at least
split-list b ms back id excused earlier [] = refl
split-list b ms back id excused earlier (v ∷ vs) =
    let A = absent_at ms earlier v in
    let O = open_at ms back id excused v in
    let R = absent ms (ids_among (v ∷ []) ++ earlier) vs in
    let S = open_in ms back id excused vs in
    least-++ b (cond (is_string_value v) (link ms back id excused earlier v) []) (links_from ms back id excused (ids_among (v ∷ []) ++ earlier) vs)
    ∙ (ap (λ (n : ℕ). least n (links_from ms back id excused (ids_among (v ∷ []) ++ earlier) vs)) (split_at b (is_string_value v) _ _)
    ∙ (split-list (least (least b A) O) ms back id excused (ids_among (v ∷ []) ++ earlier) vs
    ∙ (least-four b A O R S
    ∙ (ap (λ (n : ℕ). least (least n O) S) (sym (least-++ b A R)) ∙ sym (least-++ (least b (A ++ R)) O S)))))

-- what holds of each object holds of all
split-each : (f g h : Member → List ℕ) → ((b : ℕ) (m : Member) → least b (f m) ≡ least (least b (g m)) (h m)) → (b : ℕ) (os : List Member)
    → least b (concat_map f os) ≡ least (least b (concat_map g os)) (concat_map h os)
unfolding concat_map least
split-each f g h e b [] = refl
split-each f g h e b (m ∷ os) =
    let A = g m in
    let B = h m in
    let R = concat_map g os in
    let S = concat_map h os in
    least-++ b (f m) (concat_map f os)
    ∙ (ap (λ (n : ℕ). least n (concat_map f os)) (e b m)
    ∙ (split-each f g h e (least (least b A) B) os
    ∙ (least-four b A B R S
    ∙ (ap (λ (n : ℕ). least (least n B) S) (sym (least-++ b A R)) ∙ sym (least-++ (least b (A ++ R)) B S)))))

-- rule 15 of an object, and rules 16 and 17
absent_of : List Member → Member → List ℕ
absent_of ms m = absent_under (ascii "children") ms m ++ absent_under (ascii "parents") ms m

open_of : List Member → Member → List ℕ
open_of ms m = open_children ms m ++ open_parents ms m

split-object : (ms : List Member) (b : ℕ) (m : Member) → least b (links_of ms m) ≡ least (least b (absent_of ms m)) (open_of ms m)
unfolding links_of absent_of open_of absent_under listed_under open_children open_parents listed_in find
split-object ms b m =
    let children = listed_in "children" m.1 in
    let parents = listed_in "parents" m.1 in
    let group = is "CityObjectGroup" (type_text m.1) in
    let C = links_from ms "parents" (name_of m) group [] children in
    let P = links_from ms "children" (name_of m) false [] parents in
    let H = parent_link m.1 in
    let A = absent ms [] children in
    let B = open_in ms "parents" (name_of m) group children in
    let D = absent ms [] parents in
    let E = open_in ms "children" (name_of m) false parents in
    least-++ b (C ++ P) H
    ∙ (ap (λ (n : ℕ). least n H) (least-++ b C P)
    ∙ (ap (λ (n : ℕ). least (least n P) H) (split-list b ms "parents" (name_of m) group [] children)
    ∙ (ap (λ (n : ℕ). least n H) (split-list (least (least b A) B) ms "children" (name_of m) false [] parents ∙ least-four b A B D E)
    ∙ (ap (λ (n : ℕ). least (least (least n B) E) H) (sym (least-++ b A D))
    ∙ (sym (least-++ (least (least b (A ++ D)) B) E H) ∙ sym (least-++ (least b (A ++ D)) B (E ++ H)))))))

links-each : (ms os : List Member) → links_of_each ms os ≡ concat_map (links_of ms) os
unfolding links_of_each concat_map
links-each ms [] = refl
links-each ms (m ∷ os) = ap (λ (l : List ℕ). links_of ms m ++ l) (links-each ms os)

-- all objects
pub split-objects : (ms os : List Member) (b : ℕ) {p q r s : ℕ} → p ≡ least b (concat_map (absent_under (ascii "children") ms) os) → q ≡ least p (concat_map (absent_under (ascii "parents") ms) os)
    → r ≡ least q (concat_map (open_children ms) os) → s ≡ least r (concat_map (open_parents ms) os) → s ≡ least b (links_of_each ms os)
unfolding absent_of open_of
split-objects ms os b {p} {q} {r} e f g h =
    let A = concat_map (absent_of ms) os in
    let O = concat_map (open_of ms) os in
    let a : q ≡ least b A = f ∙ (ap (λ (n : ℕ). least n (concat_map (absent_under (ascii "parents") ms) os)) e ∙ sym (split-each (absent_of ms) _ _ (λ c m. least-++ c _ _) b os)) in
    h
    ∙ (ap (λ (n : ℕ). least n (concat_map (open_parents ms) os)) g
    ∙ (sym (split-each (open_of ms) _ _ (λ c m. least-++ c _ _) q os)
    ∙ (ap (λ (n : ℕ). least n O) a ∙ (sym (split-each (links_of ms) (absent_of ms) (open_of ms) (split-object ms) b os) ∙ ap (least b) (sym (links-each ms os))))))

-- where every link is excused, rule 17 has no faults
pub excused-none : (b : ℕ) (ms : List Member) (back : String) (id : List ℕ) (vs : List Json) → b ≡ least b (open_in ms back id true vs)
unfolding open_in open_at least
excused-none b ms back id [] = refl
excused-none b ms back id (v ∷ vs) =
    excused-none b ms back id vs
    ∙ (ap (λ (n : ℕ). least n (open_in ms back id true vs)) (none (is_string_value v)) ∙ sym (least-++ b (cond (is_string_value v) (unless true 17 v) []) (open_in ms back id true vs)))
  where
    none : (c : Bool) → b ≡ least b (cond c (unless true 17 v) [])
    none true = unless-true b 17 v refl
    none false = refl
