-- That the verdict is the lowest broken rule at its earliest place, with its end, and that a text is accepted exactly if it breaks no rule:
-- theorems on specs/Exact.antt.
use Rattle.std.specs.Prelude.{ℕ, ◌+◌, ◌*◌, ◌/◌, ◌%◌, ◌≤◌, ◌<◌, min, ◌≡◌, refl, cond, ◌⊎◌, ◌↔◌, length, take, ltb}
use native.Mathlib.Omega.{arith}
use Rattle.std.proofs.Math.Decide.{dec_lt}
use Rattle.std.proofs.Common.{sym, ap, ◌∙◌, lt-ltb, le-ltb}
use mathlib.Core.List.Memᴰ
use mathlib.Core.List.{List, [], ◌∷◌, Memᴰ}
use Rattle.std.proofs.Math.Logic.{inl, inr}
use Rattle.utf8.specs.Utf8.{whole_length}
use Rattle.json_text.specs.Tree.{Json}
use Rattle.json_text.specs.Machine.{Outcome, reads, bad, too_deep, read}
use Rattle.json_text.specs.Grammar.{Text, Begins}
use Rattle.grammar.specs.Theorems.{Stopped}
use Rattle.grammar.proofs.Theorems.{read-text, one-tree, ordered, stops, bad-never, deep-deeper}
use Rattle.grammar.proofs.Exactly.{stops-exactly}
use Rattle.grammar.specs.Reaches.{shorter, begun}
use Rattle.nodes.specs.Faults.{fault, rule_of, place_in, least, no_fault}
use Rattle.nodes.specs.Laws.{least-le}
use Rattle.fields.specs.Fields.{objects_of}
use Rattle.model.specs.Code.{All}
use Rattle.model.specs.Lists.{one_of}
use Rattle.everywhere.specs.Parts.{parts}
use Rattle.verdict.specs.Ends.{ends_at}
use Rattle.verdict.specs.EndLaws.{Alone, alone-end, alone-within}
use Rattle.verdict.specs.Verdict.{Verdict, accepted, refused, faults, end_of_fault, given, judged, parsed, verdict}
use Rattle.verdict.specs.Places.{Small, Placed, FaultPlace, within, single, faults-small, faults-stand}
use Rattle.verdict.specs.Exact.{Longest, Breaks, too_long, not-utf8, not-json, incomplete, too-deep, in_tree, Ends, itself, part, BreaksNone, NoLater, Clean, Least}

-- ---- the least of a list

least-low : {f : ℕ} (b : ℕ) {fs : List ℕ} → Memᴰ f fs → least b fs ≤ f
unfolding least
least-low b (Memᴰ.head {x = g} {xs = fs} e) = omega (arith, least-le (min b g) fs)
least-low b (Memᴰ.tail {x = g} m) = least-low (min b g) m

least-in : (b : ℕ) (fs : List ℕ) → (least b fs ≡ b) ⊎ Memᴰ (least b fs) fs
unfolding least
least-in b [] = inl refl
least-in b (f ∷ fs) = by (least-in (min b f) fs) (dec_lt f b)
  where
    by : (least (min b f) fs ≡ min b f) ⊎ Memᴰ (least (min b f) fs) fs → Dec (f < b) → (least (min b f) fs ≡ b) ⊎ Memᴰ (least (min b f) fs) (f ∷ fs)
    by (inl e) (yes h) = inr (Memᴰ.head {x = f} {xs = fs} (omega arith))
    by (inl e) (no h) = inl (omega arith)
    by (inr m) d = inr (Memᴰ.tail {x = f} m)

-- ---- a text by its cases

pub verdict-long : (x : List ℕ) → 65535 < length x → verdict x ≡ refused 1 65535 65535
unfolding verdict
verdict-long x h = rw (lt-ltb 65535 (length x) h, verdict)

pub verdict-odd : (x : List ℕ) → length x ≤ 65535 → whole_length x < length x → verdict x ≡ refused 2 (whole_length x) (whole_length x)
unfolding verdict
verdict-odd x h k = rw (le-ltb 65535 (length x) h, lt-ltb (whole_length x) (length x) k, verdict)

pub verdict-read : (x : List ℕ) → length x ≤ 65535 → length x ≤ whole_length x → verdict x ≡ parsed (read x)
unfolding verdict
verdict-read x h k = rw (le-ltb 65535 (length x) h, le-ltb (whole_length x) (length x) k, verdict)

-- ---- rules 3 and 4

-- where the machine stops, it has read the longest prefix
stopped : (x : List ℕ) (p : ℕ) → Stopped x p → Longest x p
stopped x p e = let (h, b, f) = stops x p e in record { inside = h; begins = b; longest = λ m k c. by f m k c (dec_lt p m) }
  where
    by : (p < length x → Begins 32 (take (p + 1) x) → ⊥) → (m : ℕ) → m ≤ length x → Begins 32 (take m x) → Dec (p < m) → m ≤ p
    by f m k c (yes d) = absurd (f (omega arith) (shorter x (p + 1) m (omega arith) c))
    by f m k c (no d) = omega arith

-- there is only one
one-longest : {x : List ℕ} {n k : ℕ} → Longest x n → Longest x k → n ≡ k
one-longest {x} {n} {k} a b = omega (arith, a.longest k b.inside b.begins, b.longest n a.inside a.begins)

-- and it is all of a JSON text
all_of : {x : List ℕ} {n : ℕ} {v : Json} → Text 32 x v → Longest x n → n ≡ length x
all_of {x} d a = omega (arith, a.inside, a.longest (length x) (omega arith) (begun d))

-- where the machine says that the text is bad, rule 3 is broken
bad-breaks : (x : List ℕ) (p : ℕ) → read x ≡ bad p → Breaks x 3 p
bad-breaks x p e = by (stopped x p (inl e)) (dec_lt p (length x))
  where
    by : Longest x p → Dec (p < length x) → Breaks x 3 p
    by a (yes h) = not-json a h (bad-never x p e h)
    by a (no h) = incomplete a (omega (arith, a.inside)) ((stops-exactly x p).0 (inl e)).0

-- ---- rules 5 to 17

-- the tree of a text that is not too long stands in the first bytes
placed-in : (x : List ℕ) (v : Json) → length x ≤ 65535 → Text 32 x v → (d : Placed v) × (d.to ≤ length x)
placed-in x v h t = let (p, q, s, k) = ordered 32 x v t in (record { from = p; to = q; spans = s; before = omega arith }, k)

pub in-text : (x : List ℕ) (v : Json) → length x ≤ 65535 → read x ≡ reads v → Placed v
in-text x v h e = (placed-in x v h ((read-text x v).0 e)).0

-- a fault in such a tree
module _ (x : List ℕ) (v : Json) (s q : ℕ) (h : length x ≤ 65535) (d : Text 32 x v) (k : q < 65536) (m : Memᴰ (fault s q) (faults v)) where
  small : Small (fault s q)
  small = one_of Small m (faults-small v (placed-in x v h d).0)

  five : 5 ≤ s
  unfolding fault
  five = let z = small in omega (arith, z.0)

-- ---- no rule is lower, and none earlier

one-first : (x : List ℕ) → 65535 < length x → (s q : ℕ) → Breaks x s q → NoLater 1 65535 s q
one-first x h s q (too_long k) = inr (refl, omega arith)
one-first x h s q (not-utf8 k) = inl (omega arith)
one-first x h s q (not-json a k f) = inl (omega arith)
one-first x h s q (incomplete a k f) = inl (omega arith)
one-first x h s q (too-deep a k b) = inl (omega arith)
one-first x h s q (in_tree v l d k m) = absurd (omega arith)

two-first : (x : List ℕ) → length x ≤ 65535 → (s q : ℕ) → Breaks x s q → NoLater 2 (whole_length x) s q
two-first x h s q (too_long k) = absurd (omega arith)
two-first x h s q (not-utf8 k) = inr (refl, omega arith)
two-first x h s q (not-json a k f) = inl (omega arith)
two-first x h s q (incomplete a k f) = inl (omega arith)
two-first x h s q (too-deep a k b) = inl (omega arith)
two-first x h s q (in_tree v l d k m) = inl (omega (arith, five x v s q l d k m))

module _ (x : List ℕ) (h : length x ≤ 65535) (w : length x ≤ whole_length x) where
  three-first : (p : ℕ) → Longest x p → (s q : ℕ) → Breaks x s q → NoLater 3 p s q
  three-first p r s q (too_long k) = absurd (omega arith)
  three-first p r s q (not-utf8 k) = absurd (omega arith)
  three-first p r s q (not-json a k f) = inr (refl, omega (arith, one-longest r a))
  three-first p r s q (incomplete a k f) = inr (refl, omega (arith, one-longest r a))
  three-first p r s q (too-deep a k b) = inl (omega arith)
  three-first p r s q (in_tree v l d k m) = inl (omega (arith, five x v s q l d k m))

  four-first : (p l : ℕ) → Longest x p → p < length x → Begins l (take (p + 1) x) → (s q : ℕ) → Breaks x s q → NoLater 4 p s q
  four-first p l r i b s q (too_long k) = absurd (omega arith)
  four-first p l r i b s q (not-utf8 k) = absurd (omega arith)
  four-first p l r i b s q (not-json a k f) = absurd (f l (rw (one-longest r a) at b))
  four-first p l r i b s q (incomplete a k f) = absurd (omega (arith, one-longest r a))
  four-first p l r i b s q (too-deep a k c) = inr (refl, omega (arith, one-longest r a))
  four-first p j r i b s q (in_tree v l d k m) = inl (omega (arith, five x v s q l d k m))

  tree-first : (v : Json) → Text 32 x v → (s q : ℕ) → Breaks x s q → NoLater (rule_of (least no_fault (faults v))) (place_in (least no_fault (faults v))) s q
  unfolding rule_of place_in fault
  tree-first v r s q (too_long k) = absurd (omega arith)
  tree-first v r s q (not-utf8 k) = absurd (omega arith)
  tree-first v r s q (not-json a k f) = absurd (omega (arith, all_of r a))
  tree-first v r s q (incomplete a k f) = absurd (f v r)
  tree-first v r s q (too-deep a k b) = absurd (omega (arith, all_of r a))
  tree-first v r s q (in_tree u l d k m) =
      let z : u ≡ v = one-tree 32 x u v d r in
      let f = least no_fault (faults v) in
      let low : f ≤ s * 65536 + q = rw z at (least-low no_fault m) in
      by f low (dec_lt (f / 65536) s)
    where
      by : (f : ℕ) → f ≤ s * 65536 + q → Dec (f / 65536 < s) → NoLater (f / 65536) (f % 65536) s q
      by f low (yes d) = inl d
      by f low (no d) = inr (omega arith, omega arith)

-- ---- the cases of a text

data Case (x : List ℕ) : Verdict → Type 0 where
  clean : {n : ℕ} → Clean x n → Case x (accepted n)
  broken : {r p e : ℕ} → Least x r p e → Case x (refused r p e)

-- the least fault of a tree is one
split : (f : ℕ) → fault (rule_of f) (place_in f) ≡ f
unfolding fault rule_of place_in
split f = omega arith

breaks : (x : List ℕ) (v : Json) → length x ≤ 65535 → read x ≡ reads v → {f : ℕ} → Memᴰ f (faults v) → Breaks x (rule_of f) (place_in f)
unfolding place_in
breaks x v h e {f} m = in_tree {r = rule_of f} {p = place_in f} v h ((read-text x v).0 e) (omega arith) (rw (split f) m)

-- the end of a fault that stands in the tree
fault-ends : (x : List ℕ) (v : Json) (to f : ℕ) → Text 32 x v → FaultPlace v to f → Ends x (rule_of f) (place_in f) (end_of_fault v f)
unfolding end_of_fault rule_of
fault-ends x v to f t (within h k) = rw (lt-ltb (f / 65536) 6 (omega arith)) (itself (omega arith))
fault-ends x v to f t (single h s) =
    rw (le-ltb (f / 65536) 6 (omega arith), alone-end (place_in f) s.end (parts v) s.alone) (part v (omega arith) t s.alone)

least-none : (fs : List ℕ) → All Small fs → no_fault ≤ least no_fault fs → fs ≡ []
least-none [] a h = refl
least-none (f ∷ fs) a h = let m : Memᴰ f (f ∷ fs) = Memᴰ.head refl in absurd (omega (arith, a.0.1, least-low no_fault m))

-- the verdict of a text that is no JSON text, or too deep
module _ (x : List ℕ) (h : length x ≤ 65535) (w : length x ≤ whole_length x) (p : ℕ) where
  of-bad : read x ≡ bad p → Case x (refused 3 p p)
  of-bad e = broken (record { broken = bad-breaks x p e; least = three-first x h w p (stopped x p (inl e)); ends = itself (omega arith) })

  of-deep : read x ≡ too_deep p → Case x (refused 4 p p)
  of-deep e =
      let (k, b) = deep-deeper x p e in
      let a = stopped x p (inr e) in
      broken (record { broken = too-deep a k b; least = four-first x h w p 33 a k b; ends = itself (omega arith) })

-- the verdict that a least fault gives
given-case : {x : List ℕ} (v : Json) (f : ℕ) → (f < no_fault → Least x (rule_of f) (place_in f) (end_of_fault v f))
    → (no_fault ≤ f → Clean x (length (objects_of v))) → Case x (given v f)
unfolding given
given-case {x} v f low kept = by (dec_lt f no_fault)
  where
    by : Dec (f < no_fault) → Case x (cond (ltb f no_fault) (refused (rule_of f) (place_in f) (end_of_fault v f)) (accepted (length (objects_of v))))
    by (yes k) = rw (lt-ltb f no_fault k) (broken (low k))
    by (no k) = rw (le-ltb f no_fault (omega arith)) (clean (kept (omega arith)))

-- the tree's verdict
of_tree : (x : List ℕ) (v : Json) → length x ≤ 65535 → length x ≤ whole_length x → read x ≡ reads v → Case x (judged v)
unfolding judged
of_tree x v h w e =
    given-case v (least no_fault (faults v))
    (λ k.
    let m = found (least-in no_fault (faults v)) k in
    let d = in-text x v h e in
    let t = (read-text x v).0 e in
    record {
      broken = breaks x v h e m;
      least = tree-first x h w v t;
      ends = fault-ends x v d.to (least no_fault (faults v)) t (one_of (FaultPlace v d.to) m (faults-stand v d));
    })
    (λ k. record { short = h; whole = w; value = v; reads = e; clean = least-none (faults v) (faults-small v (in-text x v h e)) k; count = refl })
  where
    found : (least no_fault (faults v) ≡ no_fault) ⊎ Memᴰ (least no_fault (faults v)) (faults v) → least no_fault (faults v) < no_fault
        → Memᴰ (least no_fault (faults v)) (faults v)
    found (inl q) k = absurd (omega arith)
    found (inr m) k = m

cases : (x : List ℕ) → Case x (verdict x)
unfolding parsed
cases x = by (dec_lt 65535 (length x)) (dec_lt (whole_length x) (length x)) (read x) refl
  where
    by : Dec (65535 < length x) → Dec (whole_length x < length x) → (o : Outcome) → read x ≡ o → Case x (verdict x)
    by (yes h) d o e = rw (verdict-long x h) (broken (record { broken = too_long h; least = one-first x h; ends = itself (omega arith) }))
    by (no h) (yes k) o e =
        rw (verdict-odd x (omega arith) k) (broken (record { broken = not-utf8 k; least = two-first x (omega arith); ends = itself (omega arith) }))
    by (no h) (no k) (reads v) e = rw (verdict-read x (omega arith) (omega arith), e) (of_tree x v (omega arith) (omega arith) e)
    by (no h) (no k) (bad p) e = rw (verdict-read x (omega arith) (omega arith), e) (of-bad x (omega arith) (omega arith) p e)
    by (no h) (no k) (too_deep p) e = rw (verdict-read x (omega arith) (omega arith), e) (of-deep x (omega arith) (omega arith) p e)

-- ---- promise 2 for judge

-- a refusal's rule is broken at that place, no lower rule is broken, and that rule nowhere earlier, and its end is that of the place
pub refused-least : (x : List ℕ) (r p e : ℕ) → verdict x ≡ refused r p e → Least x r p e
refused-least x r p e q = of (rw q at (cases x))
  where
    of : Case x (refused r p e) → Least x r p e
    of (broken l) = l

-- an accepted text breaks no rule, and the answer is its object count
pub accepted-clean : (x : List ℕ) (n : ℕ) → verdict x ≡ accepted n → Clean x n
accepted-clean x n e = of (rw e at (cases x))
  where
    of : Case x (accepted n) → Clean x n
    of (clean c) = c

text_of : {x : List ℕ} {n : ℕ} (c : Clean x n) → Text 32 x c.value
text_of {x} c = (read-text x c.value).0 c.reads

clean-none : (x : List ℕ) (n : ℕ) → Clean x n → BreaksNone x
clean-none x n c r p (too_long k) = omega (arith, c.short)
clean-none x n c r p (not-utf8 k) = omega (arith, c.whole)
clean-none x n c r p (not-json a k f) = omega (arith, all_of (text_of c) a)
clean-none x n c r p (incomplete a k f) = f c.value (text_of c)
clean-none x n c r p (too-deep a k b) = omega (arith, all_of (text_of c) a)
clean-none x n c r p (in_tree v l d k m) = let z = one-tree 32 x v c.value d (text_of c) in Memᴰ.not-nil (rw (z, c.clean) at m)

-- a text that breaks no rule is accepted
pub accepts : (x : List ℕ) → BreaksNone x → (n : ℕ) × (verdict x ≡ accepted n)
accepts x f = of (verdict x) refl
  where
    of : (o : Verdict) → verdict x ≡ o → (n : ℕ) × (verdict x ≡ accepted n)
    of (accepted n) e = (n, e)
    of (refused r p c) e = absurd (f r p (refused-least x r p c e).broken)

-- a text is accepted with the count n exactly if it breaks no rule and the tree that the grammar derives has n city objects
pub accepted-exactly : (x : List ℕ) (n : ℕ) → (verdict x ≡ accepted n) ↔ (BreaksNone x × ((v : Json) → Text 32 x v → n ≡ length (objects_of v)))
accepted-exactly x n = ((λ e. let c = accepted-clean x n e in (clean-none x n c, counted c)), (λ (f, g). let (k, e) = accepts x f in same k e g))
  where
    counted : {k : ℕ} (c : Clean x k) (v : Json) → Text 32 x v → k ≡ length (objects_of v)
    counted c v d = c.count ∙ ap (λ u. length (objects_of u)) (one-tree 32 x c.value v (text_of c) d)

    same : (k : ℕ) → verdict x ≡ accepted k → ((v : Json) → Text 32 x v → n ≡ length (objects_of v)) → verdict x ≡ accepted n
    same k e g = let c = accepted-clean x k e in e ∙ ap accepted (c.count ∙ sym (g c.value (text_of c)))

-- one rule and one place are the lowest
one-least : {x : List ℕ} {r p e s q f : ℕ} → Least x r p e → Least x s q f → (r ≡ s) × (p ≡ q)
one-least {r = r} {p} {e} {s} {q} a b = by (a.least s q b.broken) (b.least r p a.broken)
  where
    by : NoLater r p s q → NoLater s q r p → (r ≡ s) × (p ≡ q)
    by (inl h) (inl k) = absurd (omega arith)
    by (inl h) (inr k) = absurd (omega arith)
    by (inr h) (inl k) = absurd (omega arith)
    by (inr h) (inr k) = omega arith

-- and have one end
one_end : {x : List ℕ} {r p e f : ℕ} → Ends x r p e → Ends x r p f → e ≡ f
one_end (itself h) (itself k) = refl
one_end (itself h) (part v k t a) = absurd (omega arith)
one_end (part v h t a) (itself k) = absurd (omega arith)
one_end {x} {r} {p} {e} {f} (part v h t a) (part w k u b) =
    let z : e ∷ [] ≡ f ∷ [] = sym a ∙ ap (λ j. ends_at p (parts j)) (one-tree 32 x v w t u) ∙ b in
    cc

-- a text is refused by a rule at a place, with an end, exactly if that rule is the lowest broken one, that place its earliest, and that end belongs to it
pub refused-exactly : (x : List ℕ) (r p e : ℕ) → (verdict x ≡ refused r p e) ↔ Least x r p e
refused-exactly x r p e = (refused-least x r p e, (λ a. of (verdict x) refl a))
  where
    of : (o : Verdict) → verdict x ≡ o → Least x r p e → verdict x ≡ refused r p e
    of (accepted n) z a = absurd (((accepted-exactly x n).0 z).0 r p a.broken)
    of (refused s q f) z a =
        let b = refused-least x s q f z in
        let (h, k) = one-least b a in
        let c : Ends x r p f = rw (h, k) at b.ends in
        z ∙ rw (h, k, one_end c a.ends)

-- ---- the end of a refusal

-- by the rules 6 to 17 exactly one value or name of the text begins at the place, and the end is its end
pub one-begins : (x : List ℕ) (r p e : ℕ) → verdict x ≡ refused r p e → 6 ≤ r → (v : Json) × Text 32 x v × Alone p (parts v) e
one-begins x r p e q h = of (refused-least x r p e q).ends
  where
    of : {f : ℕ} → Ends x r p f → (v : Json) × Text 32 x v × Alone p (parts v) f
    of (itself k) = absurd (omega arith)
    of (part v k t a) = (v, t, a)

-- a rule is broken within the text, or at its end
inside-text : (x : List ℕ) (r p : ℕ) → Breaks x r p → p ≤ length x
unfolding fault place_in
inside-text x r p (too_long k) = omega arith
inside-text x r p (not-utf8 k) = omega arith
inside-text x r p (not-json a k f) = a.inside
inside-text x r p (incomplete a k f) = a.inside
inside-text x r p (too-deep a k b) = a.inside
inside-text x r p (in_tree v l t k m) = let (d, to) = placed-in x v l t in of d to (one_of (FaultPlace v d.to) m (faults-stand v d))
  where
    of : (d : Placed v) → d.to ≤ length x → FaultPlace v d.to (fault r p) → p ≤ length x
    of d to (within h i) = omega arith
    of d to (single h s) = let (_, more, before) = alone-within d.spans _ s.end s.alone in omega arith

-- the place is no later than the end, and the end is no later than the text's
pub ends-inside : (x : List ℕ) (r p e : ℕ) → verdict x ≡ refused r p e → (p ≤ e) × (e ≤ length x)
ends-inside x r p e q = let l = refused-least x r p e q in of l.ends (inside-text x r p l.broken)
  where
    of : {f : ℕ} → Ends x r p f → p ≤ length x → (p ≤ f) × (f ≤ length x)
    of (itself h) k = (omega arith, k)
    of {f} (part v h t a) k =
        let (_, _, s, to) = ordered 32 x v t in
        let (_, more, before) = alone-within s p f a in
        (omega arith, omega arith)
