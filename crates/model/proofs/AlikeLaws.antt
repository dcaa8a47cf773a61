-- A tree that keeps rule 6 is alike to itself, and what it is alike to is alike to it.
-- Of values with repeated names neither holds: {"a":1,"a":2} does not agree with itself, and {"a":1,"a":1} agrees with {"a":1,"b":2}, but not that with it.
use Rattle.std.specs.Prelude.{◌≡◌, refl, Bool, true, false, cond, ◌⊎◌, ℕ, suc, length}
use Rattle.std.proofs.Common.{sym, ap, ◌∙◌, subst, inl, inr, ⊎_elim, arith}
use mathlib.Core.List.{List, [], ◌∷◌, append-eq-nil_iff}
use Rattle.std.proofs.Math.Bool.{or-true}
use Rattle.std.proofs.Math.Option.{Option, some}
use Rattle.std.proofs.Math.Option as option
use Rattle.utf8.specs.Utf8.{same}
use Rattle.utf8.specs.Laws.{clash, never, unless, same-equal, same_refl}
use Rattle.strings.specs.Strings.{decode}
use Rattle.json_text.specs.Tree.{Json, null, bool, num, str, arr, obj, Items, no_items, ◌▸◌, Members, empty, member}
use Rattle.nodes.specs.Access.{Member, listed, pairs, elements, members, name_of, first_named, find}
use Rattle.everywhere.specs.Everywhere.{among, repeated, rule6, rule6_in, rule6_of}
use Rattle.model.specs.Code.{All}
use Rattle.model.specs.Good.{Both}
use Rattle.model.specs.Alike.{Same, SameAll, SameIn, Shape, whole, list, entries, field, none-else, Perhaps, Agree, root_shape, Alike}

-- ---- the first member of a name

-- it is the first member, or it is the first of that name among the others
one-or-rest : (w : List ℕ) (m : Member) (l : List Member) (j : Json) → first_named w (m ∷ l) ≡ some j → ((w ≡ name_of m) × (m.1 ≡ j)) ⊎ (first_named w l ≡ some j)
unfolding first_named
one-or-rest w m l j e = by (same w (name_of m)) refl e
  where
    by : (b : Bool) → same w (name_of m) ≡ b → cond b (some m.1) (first_named w l) ≡ some j → ((w ≡ name_of m) × (m.1 ≡ j)) ⊎ (first_named w l ≡ some j)
    by true t q = inl (same-equal w (name_of m) t, cc)
    by false t q = inr q

named-nil : (w : List ℕ) (j : Json) → first_named w [] ≡ some j → ⊥
unfolding first_named
named-nil w j e = clash cc

named-first : (m : Member) (l : List Member) → first_named (name_of m) (m ∷ l) ≡ some m.1
unfolding first_named
named-first m l = rw (same_refl (name_of m))

named_other : (w : List ℕ) (m : Member) (l : List Member) → (w ≡ name_of m → ⊥) → first_named w (m ∷ l) ≡ first_named w l
unfolding first_named
named_other w m l n = rw (unless (same w (name_of m)) (λ t. n (same-equal w (name_of m) t)))

-- ---- names that differ

abbrev Distinct : List Member → Type 0
Distinct [] = Unit {0}
Distinct (m ∷ l) = (first_named (name_of m) l ≡ option.none) × Distinct l

-- a name that stands later is not among the earlier ones
not-later : (earlier : List (List ℕ)) (ms : Members) → repeated earlier ms ≡ [] → (w : List ℕ) → among earlier w ≡ true → first_named w (pairs ms) ≡ option.none
unfolding repeated pairs first_named
not-later earlier empty e w a = refl
not-later earlier (member k v ms) e w a =
    let (h, r) = (append-eq-nil_iff {p = cond (among earlier (decode k.raw)) (k.place ∷ []) []}).0 e in
    let n : (w ≡ decode k.raw) → ⊥ = λ q. go (among earlier (decode k.raw)) (rw q at a) h in
    rw (unless (same w (decode k.raw)) (λ t. n (same-equal w (decode k.raw) t)))
    (not-later (decode k.raw ∷ earlier) ms r w (rw a (or-true (same (decode k.raw) w))))
  where
    go : (b : Bool) → b ≡ true → cond b (k.place ∷ []) [] ≡ [] → ⊥
    go true t q = clash cc
    go false t q = clash cc

distinct : (earlier : List (List ℕ)) (ms : Members) → repeated earlier ms ≡ [] → Distinct (pairs ms)
unfolding repeated pairs name_of among
distinct earlier empty e = tt
distinct earlier (member k v ms) e =
    let r = ((append-eq-nil_iff {p = cond (among earlier (decode k.raw)) (k.place ∷ []) []}).0 e).1 in
    (not-later (decode k.raw ∷ earlier) ms r (decode k.raw) (rw (same_refl (decode k.raw))), distinct (decode k.raw ∷ earlier) ms r)

-- ---- as many distinct names, each found in the other list: so the other way round too

-- every name of the one list is in the other
abbrev Within : List Member → List Member → Type 0
Within l m = (w : List ℕ) (j : Json) → first_named w l ≡ some j → (k : Json) × (first_named w m ≡ some k)

-- without the first member of that name
without : List ℕ → List Member → List Member
without w [] = []
without w (m ∷ l) = cond (same w (name_of m)) l (m ∷ without w l)

without-length : (w : List ℕ) (l : List Member) (k : Json) → first_named w l ≡ some k → suc (length (without w l)) ≡ length l
unfolding first_named without
without-length w [] k e = clash cc
without-length w (m ∷ l) k e = by (same w (name_of m)) e (without-length w l k)
  where
    by : (b : Bool) → cond b (some m.1) (first_named w l) ≡ some k → (first_named w l ≡ some k → suc (length (without w l)) ≡ length l)
        → suc (length (cond b l (m ∷ without w l))) ≡ suc (length l)
    by true q f = refl
    by false q f = ap suc (f q)

-- other names are found as before
without_other : (w v : List ℕ) (l : List Member) → (v ≡ w → ⊥) → first_named v (without w l) ≡ first_named v l
unfolding first_named without
without_other w v [] n = refl
without_other w v (m ∷ l) n = by (same w (name_of m)) refl (without_other w v l n)
  where
    by : (b : Bool) → same w (name_of m) ≡ b → first_named v (without w l) ≡ first_named v l → first_named v (cond b l (m ∷ without w l)) ≡ first_named v (m ∷ l)
    by true t f = sym (named_other v m l (λ q. n (q ∙ sym (same-equal w (name_of m) t))))
    by false t f = ap (cond (same v (name_of m)) (some m.1)) f

without-distinct : (w : List ℕ) (l : List Member) → first_named w (without w l) ≡ option.none → Distinct (without w l) → Distinct l
unfolding first_named without
without-distinct w [] e d = tt
without-distinct w (m ∷ l) e d = by (same w (name_of m)) refl e d (without-distinct w l)
  where
    by : (b : Bool) → same w (name_of m) ≡ b → first_named w (cond b l (m ∷ without w l)) ≡ option.none → Distinct (cond b l (m ∷ without w l))
        → (first_named w (without w l) ≡ option.none → Distinct (without w l) → Distinct l) → Distinct (m ∷ l)
    by true t e d f = (rw (same-equal w (name_of m) t) at e, d)
    by false t e d f =
        let n : name_of m ≡ w → ⊥ = λ q. never (rw (← q) (same_refl (name_of m))) t in
        (sym (without_other w (name_of m) l n) ∙ d.0, f (sym (named_other w m (without w l) (λ q. n (sym q))) ∙ e) d.1)

none-not : {o : Option Json} {j : Json} → o ≡ option.none → o ≡ some j → ⊥
none-not {o} {j} e f = clash cc

none-if : (o : Option Json) → ((j : Json) → o ≡ some j → ⊥) → o ≡ option.none
none-if option.none f = refl
none-if (some j) f = absurd (f j refl)

pigeonhole : (l m : List Member) → Distinct l → Within l m → length l ≡ length m → Within m l × Distinct m
unfolding first_named
pigeonhole [] [] d h n = ((λ w j e. absurd (named-nil w j e)), tt)
pigeonhole [] (b ∷ m) d h n = absurd (omega arith)
pigeonhole (a ∷ l) m d h n =
    let w = name_of a in
    let (k, f) = h w a.1 (named-first a l) in
    let m' = without w m in
    let s = without-length w m k f in
    let other : (v : List ℕ) (j : Json) → first_named v l ≡ some j → v ≡ w → ⊥ = λ v j e q. none-not d.0 (rw q at e) in
    let h' : Within l m' = λ v j e. let (i, g) = h v j (named_other v a l (other v j e) ∙ e) in (i, without_other w v m (other v j e) ∙ g) in
    let (back, d') = pigeonhole l m' d.1 h' (omega arith) in
    let gone : first_named w m' ≡ option.none = none-if (first_named w m') (λ j e. none-not d.0 (back w j e).1) in
    ((λ v j e. by v j e (same v w) refl back), without-distinct w m gone d')
  where
    by : (v : List ℕ) (j : Json) → first_named v m ≡ some j → (b : Bool) → same v (name_of a) ≡ b
        → Within (without (name_of a) m) l → (k : Json) × (first_named v (a ∷ l) ≡ some k)
    by v j e true t back = (a.1, subst (λ (u : List ℕ). first_named u (a ∷ l) ≡ some a.1) (sym (same-equal v (name_of a) t)) (named-first a l))
    by v j e false t back =
        let n : v ≡ name_of a → ⊥ = λ q. never (rw q (same_refl (name_of a))) t in
        let (k, f) = back v j (without_other (name_of a) v m n ∙ e) in
        (k, named_other v a l n ∙ f)

-- ---- the whole of a value

-- the members of distinct names are matched one by one
matched : (ns : Members) (l : List Member) → Distinct (pairs ns)
    → ((w : List ℕ) (k : Json) → first_named w (pairs ns) ≡ some k → (j : Json) × (first_named w l ≡ some j) × Same k j) → SameIn ns l
unfolding SameIn pairs name_of
matched empty l d f = tt
matched (member n k ns) l d f =
    let (j, e, s) = f (decode n.raw) k (named-first (n, k) (pairs ns)) in
    (j, e, s, matched ns l d.1 (λ w i q. f w i (named_other w (n, k) (pairs ns) (λ p. none-not d.0 (rw p at q)) ∙ q)))

mutual
  unfolding Same rule6 listed pairs

  same_self : (v : Json) → rule6 v ≡ [] → Same v v
  same_self (null p e) c = (p, e, refl)
  same_self (bool p e b) c = (p, e, refl)
  same_self (num p e raw) c = (p, e, raw, refl, refl)
  same_self (str p e raw) c = (p, e, raw, refl, refl)
  same_self (arr p e vs) c = (p, e, vs, refl, all-self vs c)
  same_self (obj p e ms) c =
      let (r, q) = append-eq-nil_iff.0 c in
      (p, e, ms, refl, refl, matched ms (pairs ms) (distinct [] ms r) (λ w k f. (k, f, in-self ms q w k f)))

  all-self : (vs : Items) → rule6_in vs ≡ [] → SameAll vs (listed vs)
  all-self no_items c = tt
  all-self (v ▸ vs) c = let (r, q) = append-eq-nil_iff.0 c in (same_self v r, all-self vs q)

  in-self : (ms : Members) → rule6_of ms ≡ [] → (w : List ℕ) (j : Json) → first_named w (pairs ms) ≡ some j → Same j j
  in-self empty c w j e = absurd (named-nil w j e)
  in-self (member n v ms) c w j e =
      let (r, q) = append-eq-nil_iff.0 c in
      ⊎_elim (λ p. subst (λ x. Same x x) p.1 (same_self v r)) (λ p. in-self ms q w j p) (one-or-rest w (n, v) (pairs ms) j e)

mutual
  unfolding Same rule6 listed pairs name_of

  same-sym : (j k : Json) → rule6 j ≡ [] → Same j k → Same k j
  same-sym (null p e) k c s = rw s.2 (p, e, refl)
  same-sym (bool p e b) k c s = rw s.2 (p, e, refl)
  same-sym (num p e raw) k c s = rw s.3 (p, e, raw, refl, sym s.4)
  same-sym (str p e raw) k c s = rw s.3 (p, e, raw, refl, sym s.4)
  same-sym (arr p e vs) k c s = rw s.3 (p, e, vs, refl, all-sym vs s.2 c s.4)
  same-sym (obj p e ms) k c s =
      let (r, q) = append-eq-nil_iff.0 c in
      let ns = s.2 in
      let at : (w : List ℕ) (j : Json) → first_named w (pairs ms) ≡ some j → (i : Json) × (first_named w (pairs ns) ≡ some i) × Same i j =
      λ w j f. in-sym ms (pairs ns) q s.5 w j f in
      let (back, d) = pigeonhole (pairs ms) (pairs ns) (distinct [] ms r) (λ w j f. let a = at w j f in (a.0, a.1)) s.4 in
      rw s.3 (
        p,
        e,
        ms,
        refl,
        sym s.4,
        matched ns (pairs ms) d (λ w i f.
            let (j, g) = back w i f in
            let a = at w j g in
            let z : a.0 ≡ i = cc (a.1, f) in
            (j, g, subst (λ x. Same x j) z a.2)),
      )

  all-sym : (vs us : Items) → rule6_in vs ≡ [] → SameAll vs (listed us) → SameAll us (listed vs)
  all-sym no_items no_items c s = tt
  all-sym no_items (u ▸ us) c s = absurd s
  all-sym (v ▸ vs) no_items c s = absurd s
  all-sym (v ▸ vs) (u ▸ us) c s = let (r, q) = append-eq-nil_iff.0 c in (same-sym v u r s.0, all-sym vs us q s.1)

  in-sym : (ms : Members) (l : List Member) → rule6_of ms ≡ [] → SameIn ms l → (w : List ℕ) (j : Json) → first_named w (pairs ms) ≡ some j
      → (k : Json) × (first_named w l ≡ some k) × Same k j
  in-sym empty l c s w j e = absurd (named-nil w j e)
  in-sym (member n v ms) l c s w j e =
      let (r, q) = append-eq-nil_iff.0 c in
      ⊎_elim (λ p. (s.0, rw p.0 s.1, subst (λ x. Same s.0 x) p.1 (same-sym v s.0 r s.2))) (λ p. in-sym ms l q s.3 w j p)
      (one-or-rest w (n, v) (pairs ms) j e)

-- ---- the parts of a value keep the rule too

abbrev Keeps : Json → Type 0
Keeps v = rule6 v ≡ []

items_keep : (vs : Items) → rule6_in vs ≡ [] → All Keeps (listed vs)
unfolding rule6 listed
items_keep no_items c = tt
items_keep (v ▸ vs) c = let (r, q) = append-eq-nil_iff.0 c in (r, items_keep vs q)

pairs-keep : (ms : Members) → rule6_of ms ≡ [] → All (λ (m : Member). Keeps m.1) (pairs ms)
unfolding rule6 pairs
pairs-keep empty c = tt
pairs-keep (member n v ms) c = let (r, q) = append-eq-nil_iff.0 c in (r, pairs-keep ms q)

elements-keep : (v : Json) → Keeps v → All Keeps (elements v)
unfolding rule6 elements
elements-keep (null p e) c = tt
elements-keep (bool p e b) c = tt
elements-keep (num p e raw) c = tt
elements-keep (str p e raw) c = tt
elements-keep (arr p e vs) c = items_keep vs c
elements-keep (obj p e ms) c = tt

pub members-keep : (v : Json) → Keeps v → All (λ (m : Member). Keeps m.1) (members v)
unfolding rule6 members
members-keep (null p e) c = tt
members-keep (bool p e b) c = tt
members-keep (num p e raw) c = tt
members-keep (str p e raw) c = tt
members-keep (arr p e vs) c = tt
members-keep (obj p e ms) c = pairs-keep ms ((append-eq-nil_iff {p = repeated [] ms}).0 c).1

pub named-keeps : (w : List ℕ) (l : List Member) (j : Json) → All (λ (m : Member). Keeps m.1) l → first_named w l ≡ some j → Keeps j
unfolding first_named
named-keeps w [] j a e = absurd (named-nil w j e)
named-keeps w (m ∷ l) j a e = ⊎_elim (λ p. rw (← p.1) a.0) (named-keeps w l j a.1) (one-or-rest w m l j e)

-- ---- what is examined of a value

-- both sides of a list; P is known of the first
both-self : {A : Type 0} (P : A → Type 0) (R : A → A → Type 0) → ((a : A) → P a → R a a) → (l : List A) → All P l → Both R l l
both-self P R one [] p = tt
both-self P R one (a ∷ l) p = (one a p.0, both-self P R one l p.1)

both-sym : {A : Type 0} (P : A → Type 0) (R : A → A → Type 0) → ((a b : A) → P a → R a b → R b a) → (l m : List A) → All P l → Both R l m → Both R m l
both-sym P R one [] [] p r = tt
both-sym P R one [] (b ∷ m) p r = absurd r
both-sym P R one (a ∷ l) [] p r = absurd r
both-sym P R one (a ∷ l) (b ∷ m) p r = (one a b p.0 r.0, both-sym P R one l m p.1 r.1)

perhaps-self : (R : Json → Json → Type 0) (o : Option Json) → ((j : Json) → o ≡ some j → R j j) → Perhaps R o o
perhaps-self R option.none f = tt
perhaps-self R (some j) f = f j refl

perhaps-sym : (R : Json → Json → Type 0) (o p : Option Json) → ((j k : Json) → o ≡ some j → R j k → R k j) → Perhaps R o p → Perhaps R p o
perhaps-sym R option.none option.none f r = tt
perhaps-sym R option.none (some k) f r = absurd r
perhaps-sym R (some j) option.none f r = absurd r
perhaps-sym R (some j) (some k) f r = f j k refl r

agree-self : (s : Shape) (v : Json) → rule6 v ≡ [] → Agree s v v
unfolding Agree find
agree-self whole v c = same_self v c
agree-self (list s) v c = both-self Keeps (Agree s) (agree-self s) (elements v) (elements-keep v c)
agree-self (entries s) v c = both-self (λ (m : Member). Keeps m.1) _ (λ m k. (refl, agree-self s m.1 k)) (members v) (members-keep v c)
agree-self (field n s r) v c =
    (perhaps-self (Agree s) (find n v) (λ j e. agree-self s j (named-keeps _ (members v) j (members-keep v c) e)), agree-self r v c)
agree-self none-else v c = tt

agree-sym : (s : Shape) (j k : Json) → rule6 j ≡ [] → Agree s j k → Agree s k j
unfolding Agree find
agree-sym whole j k c a = same-sym j k c a
agree-sym (list s) j k c a = both-sym Keeps (Agree s) (agree-sym s) (elements j) (elements k) (elements-keep j c) a
agree-sym (entries s) j k c a =
    both-sym (λ (m : Member). Keeps m.1) _ (λ m n p r. (sym r.0, agree-sym s m.1 n.1 p r.1)) (members j) (members k) (members-keep j c) a
agree-sym (field n s r) j k c a =
    (perhaps-sym (Agree s) (find n j) (find n k) (λ i h e. agree-sym s i h (named-keeps _ (members j) i (members-keep j c) e)) a.0, agree-sym r j k c a.1)
agree-sym none-else j k c a = tt

-- a tree that keeps rule 6 is alike to itself
pub alike_self : (v : Json) → rule6 v ≡ [] → Alike v v
unfolding Alike
alike_self v c = agree-self root_shape v c

-- and if it is alike to another tree, that is alike to it
pub alike-sym : (j k : Json) → rule6 j ≡ [] → Alike j k → Alike k j
unfolding Alike
alike-sym j k c a = agree-sym root_shape j k c a
