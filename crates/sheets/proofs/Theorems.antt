-- What is proved of lay's answers and of the lent sheet, for texts and rooms of any sizes (promises 2 and 3 of README.md).
use Rattle.std.specs.Prelude.{ℕ, ◌-◌, ◌^◌, ◌≤◌, ◌<◌, ◌≡◌, refl, Bool, true, false, cond, ◌⊎◌, ◌≢◌, ◌↔◌, length, take, replicate, leb}
use Rattle.std.proofs.Common.{arith, sym, ap, ◌∙◌, inl, inr, le-leb, leb-false}
use mathlib.Core.List.{List, ◌++◌, Memᴰ}
use Rattle.std.proofs.lemmas.List.{length-map}
use Rattle.utf8.specs.Utf8.{Whole}
use Rattle.utf8.specs.Laws.{clash}
use Rattle.strings.specs.Strings.{decode}
use Rattle.json_text.specs.Tree.{Name}
use Rattle.json_text.specs.Machine.{tree_of}
use Rattle.nodes.specs.Access.{members}
use Rattle.everywhere.specs.Everywhere.{strings}
use Rattle.verdict.specs.Verdict.{Verdict, accepted, verdict}
use Rattle.verdict.specs.Verdict as judge
use Rattle.verdict.specs.Exact.{BreaksNone, Least}
use Rattle.verdict.proofs.Exact.{accepts, accepted-exactly, refused-exactly, ends-inside}
use Rattle.model.specs.Model.{sheet_of}
use Rattle.model.specs.Good.{GoodModel}
use Rattle.model.specs.Read.{get, object_of, model_of}
use Rattle.model.specs.Demand.{IsPrefix}
use Rattle.model.proofs.Demand.{same-sheet-same-model, neither-begins}
use Rattle.model.specs.Alike.{Alike, alike-same-model}
use Rattle.model.proofs.AlikeLaws.{alike_self, alike-sym}
use Rattle.sheets.specs.Laid.{model_of_text, sheet_of_text, laid, refused, fitted, answer, room_after}
use Rattle.sheets.specs.Clear.{objects-members}
use Rattle.sheets.specs.Characters.{WholeTexts}
use Rattle.sheets.proofs.Characters.{whole-strings, whole-model}
use Rattle.sheets.proofs.Answers.{good-text, distinct-names, object-count, of-laid, holds-sheet, begins-sheet, holds-zeros, room-length, same_answer, same-room, too_long, does-not-fit}
use Rattle.sheets.specs.Theorems.{NoRoom}

-- an accepted text's model is as docs/RULES.md asks (rules 10, 12, 13 and 15), and its sheet is shorter than 2^32 bytes
pub good : (x : List ℕ) (n : ℕ) → verdict x ≡ accepted n → GoodModel (model_of_text x)
good = good-text

-- and its object count is that of the model
pub count : (x : List ℕ) (n : ℕ) → verdict x ≡ accepted n → n ≡ length (model_of_text x).objects
unfolding model_of_text model_of
count x n e = object-count x n e ∙ ap length (objects-members (tree_of x)) ∙ sym (length-map (members (get "CityObjects" (tree_of x))) object_of)

-- every string and every name of an accepted text stands for whole characters in UTF-8
pub strings-are-whole : (x : List ℕ) (n : ℕ) → verdict x ≡ accepted n → (s : Name) → Memᴰ s (strings (tree_of x)) → Whole (decode s.raw)
strings-are-whole = whole-strings

-- so the IDs, the links and the added names of surfaces in its model are whole characters
pub texts-are-whole : (x : List ℕ) (n : ℕ) → verdict x ≡ accepted n → WholeTexts (model_of_text x)
texts-are-whole = whole-model

-- an acceptance gives the sheet's length, which is no more than the room and below 2^32, and the object count
pub sizes : (x : List ℕ) (r l n : ℕ) → answer x r ≡ laid l n → (l ≡ length (sheet_of_text x)) × (l ≤ r) × (l < 2 ^ 32) × (n ≡ length (model_of_text x).objects)
unfolding sheet_of_text
sizes x r l n e =
    let q = of-laid x r l n e in
    (q.size, q.fits, rw q.size (good x n q.accepted).short, count x n q.accepted)

-- promise 3: the bytes that two acceptances give tell their models
pub tells : (x y : List ℕ) (r s l m n k : ℕ) → answer x r ≡ laid l n → answer y s ≡ laid m k
    → (take l (room_after x r) ≡ take m (room_after y s)) ↔ (model_of_text x ≡ model_of_text y)
unfolding sheet_of_text
tells x y r s l m n k e f =
    rw (begins-sheet x r l n e, begins-sheet y s m k f)
    (same-sheet-same-model (model_of_text x) (model_of_text y) (good x n (of-laid x r l n e).accepted) (good y k (of-laid y s m k f).accepted))

-- and if the models differ, neither begins the other
pub apart : (x y : List ℕ) (r s l m n k : ℕ) → answer x r ≡ laid l n → answer y s ≡ laid m k → model_of_text x ≢ model_of_text y
    → (¬ IsPrefix (take l (room_after x r)) (take m (room_after y s))) × (¬ IsPrefix (take m (room_after y s)) (take l (room_after x r)))
unfolding sheet_of_text
apart x y r s l m n k e f d =
    rw (begins-sheet x r l n e, begins-sheet y s m k f)
    (neither-begins (model_of_text x) (model_of_text y) (good x n (of-laid x r l n e).accepted) (good y k (of-laid y s m k f).accepted) d)

-- an acceptance leaves the sheet in the room, and zeros after it
pub sheet-then-zeros : (x : List ℕ) (r l n : ℕ) → answer x r ≡ laid l n → room_after x r ≡ sheet_of_text x ++ replicate (r - l) 0
sheet-then-zeros = holds-sheet

-- a refusal leaves zeros
pub all-zeros : (x : List ℕ) (r s p c : ℕ) → answer x r ≡ refused s p c → room_after x r ≡ replicate r 0
all-zeros = holds-zeros

-- and the room keeps its length
pub room : (x : List ℕ) (r : ℕ) → length (room_after x r) ≡ r
room = room-length

-- 18 is answered exactly if the text is accepted and its sheet is longer than the room
pub eighteen : (x : List ℕ) (r : ℕ) → (answer x r ≡ refused 18 0 0) ↔ (((n : ℕ) × (verdict x ≡ accepted n)) × (r < length (sheet_of_text x)))
eighteen x r = (too_long x r, (λ ((n, e), h). does-not-fit x r n e h))

-- promise 2 for lay: a text is laid exactly if it breaks no rule and its sheet fits, and the answer is the sheet's length and the object count
pub laid-exactly : (x : List ℕ) (r l n : ℕ)
    → (answer x r ≡ laid l n) ↔ (BreaksNone x × (l ≡ length (sheet_of_text x)) × (l ≤ r) × (n ≡ length (model_of_text x).objects))
unfolding answer fitted
laid-exactly x r l n = (
  (λ e. let (s, h, _, c) = sizes x r l n e in (((accepted-exactly x n).0 (of-laid x r l n e).accepted).0, s, h, c)),
  (λ (f, s, h, c).
      let (k, e) = accepts x f in
      let size : length (sheet_of_text x) ≡ l = sym s in
      let objects : k ≡ n = count x k e ∙ sym c in
      rw (e, le-leb (length (sheet_of_text x)) r (omega arith)) (λ i. laid (size i) (objects i))),
)

-- and is refused exactly by the lowest broken rule at its earliest place, with the end of that place, or by 18 at 0 where only the room is too short
pub refused-lowest : (x : List ℕ) (r s p e : ℕ) → (answer x r ≡ refused s p e) ↔ (Least x s p e ⊎ NoRoom x r s p e)
unfolding answer fitted
refused-lowest x r s p e = ((λ z. to (verdict x) refl z), from)
  where
    to_room : (k : ℕ) (b : Bool) → verdict x ≡ accepted k → leb (length (sheet_of_text x)) r ≡ b
        → cond b (laid (length (sheet_of_text x)) k) (refused 18 0 0) ≡ refused s p e → NoRoom x r s p e
    to_room k true q h c = clash cc
    to_room k false q h c =
        let a : s ≡ 18 = cc in
        let b : p ≡ 0 = cc in
        let d : e ≡ 0 = cc in
        (a, b, d, ((accepted-exactly x k).0 q).0, leb-false _ r h)

    to : (o : Verdict) → verdict x ≡ o → fitted x r o ≡ refused s p e → Least x s p e ⊎ NoRoom x r s p e
    to (judge.accepted k) q d = inr (to_room k (leb (length (sheet_of_text x)) r) q refl d)
    to (judge.refused t u v) q d =
        let a : t ≡ s = cc in
        let b : u ≡ p = cc in
        let c : v ≡ e = cc in
        inl ((refused-exactly x s p e).0 (rw (a, b, c) at q))

    from : Least x s p e ⊎ NoRoom x r s p e → answer x r ≡ refused s p e
    from (inl a) = rw ((refused-exactly x s p e).1 a)
    from (inr h) = rw (h.0, h.1, h.2) ((eighteen x r).1 (accepts x h.3, h.4))

-- the place of a refusal is no later than its end, and that is no later than the text's
pub refused-inside : (x : List ℕ) (r s p e : ℕ) → answer x r ≡ refused s p e → (p ≤ e) × (e ≤ length x)
refused-inside x r s p e z = of ((refused-lowest x r s p e).0 z)
  where
    of : Least x s p e ⊎ NoRoom x r s p e → (p ≤ e) × (e ≤ length x)
    of (inl a) = ends-inside x s p e ((refused-exactly x s p e).1 a)
    of (inr h) = (omega (arith, h.1), omega (arith, h.2))

-- alike texts have the same model and the same sheet
pub alike : (x y : List ℕ) → Alike (tree_of x) (tree_of y) → (model_of_text x ≡ model_of_text y) × (sheet_of_text x ≡ sheet_of_text y)
unfolding model_of_text sheet_of_text
alike x y a = let e = alike-same-model (tree_of x) (tree_of y) a in (e, ap sheet_of e)

-- an accepted text is alike to itself
pub alike-reflexive : (x : List ℕ) (n : ℕ) → verdict x ≡ accepted n → Alike (tree_of x) (tree_of x)
alike-reflexive x n e = alike_self (tree_of x) (distinct-names x n e)

-- and if it is alike to another text, that is alike to it
pub alike-symmetric : (x y : List ℕ) (n : ℕ) → verdict x ≡ accepted n → Alike (tree_of x) (tree_of y) → Alike (tree_of y) (tree_of x)
alike-symmetric x y n e a = alike-sym (tree_of x) (tree_of y) (distinct-names x n e) a

-- two alike texts that are accepted have the same answer and leave the same bytes, in every room
pub alike-rooms : (x y : List ℕ) (n m r : ℕ) → verdict x ≡ accepted n → verdict y ≡ accepted m → Alike (tree_of x) (tree_of y)
    → (answer x r ≡ answer y r) × (room_after x r ≡ room_after y r)
alike-rooms x y n m r e f a =
    let (p, q) = alike x y a in
    let c : n ≡ m = count x n e ∙ ap (λ t. length t.objects) p ∙ sym (count y m f) in
    let g : verdict x ≡ accepted m = e ∙ ap accepted c in
    (same_answer x y m r q g f, same-room x y m r q g f)
