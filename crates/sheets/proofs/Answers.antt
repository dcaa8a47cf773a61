-- What an answer of lay tells of its text and room.
use Rattle.std.specs.Prelude.{ℕ, ◌-◌, ◌≤◌, ◌<◌, ◌≡◌, Bool, true, false, cond, length, take, ltb}
use Rattle.std.proofs.Common.{arith, sym, ◌∙◌, subst, length-append, take_at, leb-true, leb-false, ltb-true}
use Rattle.std.proofs.Math.Path.{refl, ap}
use Rattle.std.proofs.Math.Option.{none, some}
use mathlib.Core.List.{List, [], ◌++◌, map, map-eq-nil_iff}
use Rattle.std.proofs.Math.ListN.{replicate}
use Rattle.std.proofs.lemmas.List.{length-replicate}
use Rattle.std.proofs.lemmas.Bool.{lt-leb}
use Rattle.utf8.specs.Utf8.{whole_length}
use Rattle.utf8.specs.Laws.{clash}
use Rattle.json_text.specs.Tree.{Json}
use Rattle.json_text.specs.Machine.{Outcome, reads, bad, too_deep, read, tree_in, tree_of}
use Rattle.nodes.specs.Faults.{fault, rule_of, place_in, least, no_fault}
use Rattle.everywhere.specs.Everywhere.{rule5, rule6}
use Rattle.fields.specs.Fields.{objects_of}
use Rattle.rules.specs.Schema.{city_json}
use Rattle.rules.specs.Links.{link_faults}
use Rattle.verdict.specs.Verdict.{Verdict, accepted, faults, end_of_fault, given, judged, parsed, screening, verdict}
use Rattle.verdict.specs.Verdict as judge
use Rattle.verdict.specs.Exact.{Clean}
use Rattle.verdict.proofs.Exact.{accepted-clean}
use Rattle.model.specs.Good.{GoodModel}
use Rattle.model.proofs.Size.{size}
use Rattle.sheets.specs.Laid.{model_of_text, sheet_of_text, Answer, laid, refused, fitted, answer, filled, room_after}
use Rattle.sheets.specs.Clear.{nil-left, nil-right}
use Rattle.sheets.specs.Short.{tree-within}
use Rattle.sheets.specs.Faultless.{model-good}

-- ---- accepted texts

-- the tree of a text that is read
pub tree_is : (x : List ℕ) (v : Json) → read x ≡ reads v → tree_of x ≡ v
unfolding tree_of
tree_is x v e = ap tree_in e

-- a tree with no fault keeps rule 6
names-differ : (v : Json) → faults v ≡ [] → rule6 v ≡ []
unfolding faults
names-differ v e = (map-eq-nil_iff (fault 6)).0 (nil-right (map (fault 5) (rule5 v)) _ (nil-left _ (city_json v) (nil-left _ (link_faults v) e)))

module _ (x : List ℕ) (n : ℕ) (e : verdict x ≡ accepted n) where
  -- its tree has no fault
  clean-tree : Clean x n
  clean-tree = accepted-clean x n e

  -- its tree is no larger than the text
  tree-short : size clean-tree.value ≤ 65535
  tree-short = tree-within 65535 x clean-tree.value clean-tree.short clean-tree.reads

  -- its model is good
  pub good-text : GoodModel (model_of_text x)
  unfolding model_of_text
  good-text = rw (tree_is x clean-tree.value clean-tree.reads) (model-good clean-tree.value tree-short clean-tree.clean)

  -- no name is repeated in an object
  pub distinct-names : rule6 (tree_of x) ≡ []
  distinct-names = rw (tree_is x clean-tree.value clean-tree.reads) (names-differ clean-tree.value clean-tree.clean)

  -- its object count
  pub object-count : n ≡ length (objects_of (tree_of x))
  object-count = rw (tree_is x clean-tree.value clean-tree.reads) clean-tree.count

-- ---- texts that were laid

-- an answer that is an acceptance or else a refusal
laid-if : (b : Bool) (s k l n p q : ℕ) → cond b (laid s k) (refused 18 p q) ≡ laid l n → (b ≡ true) × (s ≡ l) × (k ≡ n)
laid-if true s k l n p q e = (refl, cc, cc)
laid-if false s k l n p q e = (cc, cc, cc)

-- the same of a refusal
refused-if : (b : Bool) (s k p q u w : ℕ) → cond b (laid s k) (refused 18 p q) ≡ refused 18 u w → b ≡ false
refused-if true s k p q u w e = cc
refused-if false s k p q u w e = refl

-- what an acceptance tells
pub record Laid (x : List ℕ) (r l n : ℕ) : Type 0 where
  pub accepted : verdict x ≡ accepted n
  pub size : l ≡ length (sheet_of_text x)
  pub fits : l ≤ r

-- it is told so
pub of-laid : (x : List ℕ) (r l n : ℕ) → answer x r ≡ laid l n → Laid x r l n
unfolding answer fitted
of-laid x r l n e = by (verdict x) refl e
  where
    by : (o : Verdict) → verdict x ≡ o → fitted x r o ≡ laid l n → Laid x r l n
    by (judge.accepted k) q d =
        let (t, z, w) = laid-if _ _ _ _ _ _ _ d in
        record { accepted = q ∙ ap accepted w; size = sym z; fits = omega (arith, leb-true _ r t) }
    by (judge.refused s p c) q d = clash cc

-- the room then holds the sheet, and zeros after it
pub holds-sheet : (x : List ℕ) (r l n : ℕ) → answer x r ≡ laid l n → room_after x r ≡ sheet_of_text x ++ replicate (r - l) 0
unfolding room_after filled
holds-sheet x r l n e = ap (filled x r) e

-- so its first bytes are the sheet
pub begins-sheet : (x : List ℕ) (r l n : ℕ) → answer x r ≡ laid l n → take l (room_after x r) ≡ sheet_of_text x
begins-sheet x r l n e = ap (take l) (holds-sheet x r l n e) ∙ take_at (sheet_of_text x) (replicate (r - l) 0) l (sym (of-laid x r l n e).size)

-- or zeros
pub holds-zeros : (x : List ℕ) (r s p c : ℕ) → answer x r ≡ refused s p c → room_after x r ≡ replicate r 0
unfolding room_after filled
holds-zeros x r s p c e = ap (filled x r) e

-- every room keeps its length
pub room-length : (x : List ℕ) (r : ℕ) → length (room_after x r) ≡ r
room-length x r = by (answer x r) refl
  where
    by : (a : Answer) → answer x r ≡ a → length (room_after x r) ≡ r
    by (laid l n) e =
        let q = of-laid x r l n e in
        omega
        (arith, ap length (holds-sheet x r l n e), length-append (sheet_of_text x) (replicate (r - l) 0), length-replicate {A = ℕ} (r - l) 0, q.size, q.fits)
    by (refused s p c) e = ap length (holds-zeros x r s p c e) ∙ length-replicate r 0

-- accepted texts with the same sheet and the same object count have the same answers and leave the same bytes
module _ (x y : List ℕ) (n r : ℕ) (s : sheet_of_text x ≡ sheet_of_text y) (e : verdict x ≡ accepted n) (f : verdict y ≡ accepted n) where
  -- the same answer
  pub same_answer : answer x r ≡ answer y r
  unfolding answer fitted
  same_answer = rw (e, f, s)

  -- the same bytes for an answer
  same-filled : (a : Answer) → filled x r a ≡ filled y r a
  unfolding filled
  same-filled (laid l k) = ap (λ t. t ++ replicate (r - l) 0) s
  same-filled (refused k p c) = refl

  -- the same bytes
  pub same-room : room_after x r ≡ room_after y r
  unfolding room_after
  same-room = ap (filled x r) same_answer ∙ same-filled (answer y r)

-- ---- refusal 18

-- a refusal by a rule below 18
Low : Verdict → Type 0
Low (judge.accepted n) = Unit {0}
Low (judge.refused r p e) = r < 18

-- a tree's verdict
given-low : (v : Json) (f : ℕ) → Low (given v f)
unfolding given Low rule_of
given-low v f = by (ltb f no_fault) refl
  where
    by : (b : Bool) → ltb f no_fault ≡ b → Low (cond b (judge.refused (rule_of f) (place_in f) (end_of_fault v f)) (accepted (length (objects_of v))))
    by true e = omega (arith, ltb-true f no_fault e)
    by false e = tt

-- a parsed text's
parsed-low : (o : Outcome) → Low (parsed o)
unfolding parsed judged Low
parsed-low (reads v) = given-low v (least no_fault (faults v))
parsed-low (bad n) = omega arith
parsed-low (too_deep n) = omega arith

-- judge never answers 18
verdict-low : (x : List ℕ) → Low (verdict x)
unfolding verdict screening Low
verdict-low x = by (ltb 65535 (length x)) (ltb (whole_length x) (length x))
  where
    by : (a b : Bool)
        → Low (elim (cond a (some (judge.refused 1 65535 65535)) (cond b (some (judge.refused 2 (whole_length x) (whole_length x))) none))
        [ some v ↦ v | none ↦ parsed (read x) ])
    by true b = omega arith
    by false true = omega arith
    by false false = parsed-low (read x)

-- where 18 is answered, at any place and with any end, the text is accepted and its sheet is longer than the room
pub too_long : (x : List ℕ) (r : ℕ) {p c : ℕ} → answer x r ≡ refused 18 p c → ((n : ℕ) × (verdict x ≡ accepted n)) × (r < length (sheet_of_text x))
unfolding answer fitted Low
too_long x r {p} {c} e = by (verdict x) refl e
  where
    by : (o : Verdict) → verdict x ≡ o → fitted x r o ≡ refused 18 p c → ((n : ℕ) × (verdict x ≡ accepted n)) × (r < length (sheet_of_text x))
    by (judge.accepted k) q d = ((k, q), leb-false _ r (refused-if _ _ _ _ _ _ _ d))
    by (judge.refused s t u) q d = let z : s ≡ 18 = cc in absurd (omega (arith, subst Low q (verdict-low x)))

-- and the other way round
pub does-not-fit : (x : List ℕ) (r n : ℕ) → verdict x ≡ accepted n → r < length (sheet_of_text x) → answer x r ≡ refused 18 0 0
unfolding answer fitted
does-not-fit x r n e h = rw (e, lt-leb (length (sheet_of_text x)) r h)
