-- A trie of names: one name more.
use Prim.Native.Nat.{ℕ, ◌+◌, ◌-◌, ◌*◌, ◌<◌}
use mathlib.Core.Path.{◌≡◌, refl, sym, ◌∙◌}
use mathlib.Core.Bool.{Bool, true, false, not, ◌||◌, or-true}
use mathlib.Core.List.{List, [], ◌∷◌}
use native.Mathlib.Omega.{arith}
use lib.ListN.{get_or}
use lib.Dec.{eqb, ltb}
use borrow.Author.Rules.{rules}
use borrow.Author.Tests.{eqb-true, eqb-false, ltb-true, ltb-false}
use Rattle.std.specs.Prelude.{Option, Some}
use Rattle.utf8.specs.Utf8.{same}
use Rattle.utf8.specs.Laws.{never, same-equal, same_refl}
use Rattle.strings.specs.Spans.{decode_at, begin_apart}
use Rattle.strings.specs.Laws.{apart-differ}
use Rattle.trie.specs.declared.Place.{Place}
use Rattle.trie.specs.Trie.{value_of, Walked, Walks, Puts}
use Rattle.trie.specs.Laws.{reaches-unique}
use Rattle.nodes.specs.Faults.{least}
use Rattle.nodes.specs.Reads.{string-span}
use Rattle.everywhere.specs.Everywhere.{among}
use Rattle.everywhere.specs.Says.{text_at}
use Rattle.repeats.specs.Names.{NameText}
use Rattle.repeats.specs.Entries.{Entry, Named, Entries, EntryFault, EntryAt, EntryTold, EntryGives}

-- no names yet
pub entries-begin : (x t q : List ℕ) → value_of q 0 ≡ 0 → Entries x t q 1 []
unfolding among
entries-begin x t q z = record { has = λ w h. absurd (never h refl); are = λ e l n. let y : e ≡ 0 = omega arith in absurd (n (rw y z)) }

-- one name more: its text w leads to the entry e of the trie q₁, of which the value is set
module _ {x t q q₁ : List ℕ} {c c₁ e : ℕ} (k : ℕ) {us : List (List ℕ)} (s : Entries x t q c us) (d : Walked q c 0 (text_at x t k) q₁ c₁ e) where
  value-some : e < c → value_of q₁ e ≡ value_of q e
  value-some l = d.keeps.values e l

  -- an entry with a value is one of the names before
  named-if : (b : Bool) → ltb e c ≡ b → (value_of q₁ e ≡ 0 → ⊥) → Named x t us (value_of q₁ e * 3)
  named-if true h n = let l : e < c = ltb-true e c h in let z = value-some l in rw z (s.are e l (λ y. n (z ∙ y)))
  named-if false h n = absurd (n (d.keeps.fresh e (ltb-false e c h) d.inside))

  named : (value_of q₁ e ≡ 0 → ⊥) → Named x t us (value_of q₁ e * 3)
  named n = named-if (ltb e c) refl n

  -- a text before has an entry with a value
  among-if : (b : Bool) → among us (text_at x t k) ≡ b → value_of q₁ e ≡ 0 → b ≡ false
  among-if true h z =
      let o = s.has (text_at x t k) h in
      let y : o.entry ≡ e = reaches-unique (d.keeps.reaches 0 (text_at x t k) o.entry o.reaches) d.reaches in
      absurd (o.some (sym (d.keeps.values o.entry o.inside) ∙ rw y z))
  among-if false h z = refl

  not-among : value_of q₁ e ≡ 0 → among us (text_at x t k) ≡ false
  not-among z = among-if (among us (text_at x t k)) refl z

  is_among : (value_of q₁ e ≡ 0 → ⊥) → same (text_at x t (value_of q₁ e * 3)) (text_at x t k) ≡ true → among us (text_at x t k) ≡ true
  is_among n h = rw (← same-equal _ _ h) (named n).is

  module _ {q₂ : List ℕ} {v : ℕ} (p : Puts q₁ q₂ e v) (n : NameText x t k) (m : v * 3 ≡ k) (z : v ≡ 0 → ⊥) where
    has_new : Entry q₂ c₁ (text_at x t k)
    has_new = record { entry = e; reaches = p.reaches c₁ 0 (text_at x t k) e d.reaches; inside = d.inside; some = λ y. z (sym p.value ∙ y) }

    some-if : (f : ℕ) (b : Bool) → eqb f e ≡ b → f < c → (value_of q f ≡ 0 → ⊥) → value_of q₂ f ≡ 0 → ⊥
    some-if f true h l a y = z (sym p.value ∙ rw (← eqb-true f e h) y)
    some-if f false h l a y = a (sym (d.keeps.values f l) ∙ (sym (p.values f (eqb-false f e h)) ∙ y))

    has-old : (w : List ℕ) → Entry q c w → Entry q₂ c₁ w
    has-old w o =
        record {
          entry = o.entry;
          reaches = p.reaches c₁ 0 w o.entry (d.keeps.reaches 0 w o.entry o.reaches);
          inside = omega (arith, o.inside, d.keeps.more);
          some = some-if o.entry (eqb o.entry e) refl o.inside o.some;
        }

    has-if : (w : List ℕ) (b : Bool) → same (text_at x t k) w ≡ b → (b || among us w) ≡ true → Entry q₂ c₁ w
    has-if w true h a = rw (← same-equal _ _ h) has_new
    has-if w false h a = has-old w (s.has w a)

    older : {f : ℕ} → Named x t us f → Named x t (text_at x t k ∷ us) f
    unfolding among
    older {f} o = record { name = o.name; is = rw o.is (or-true (same (text_at x t k) (text_at x t f))) }

    newest : Named x t (text_at x t k ∷ us) k
    unfolding among
    newest = record { name = n; is = rw (same_refl (text_at x t k)) }

    old-if : (f : ℕ) (b : Bool) → ltb f c ≡ b → f < c₁ → (value_of q₁ f ≡ 0 → ⊥) → Named x t us (value_of q₁ f * 3)
    old-if f true h l a = let j : f < c = ltb-true f c h in let y = d.keeps.values f j in rw y (s.are f j (λ u. a (y ∙ u)))
    old-if f false h l a = absurd (a (d.keeps.fresh f (ltb-false f c h) l))

    are-if : (f : ℕ) (b : Bool) → eqb f e ≡ b → f < c₁ → (value_of q₂ f ≡ 0 → ⊥) → Named x t (text_at x t k ∷ us) (value_of q₂ f * 3)
    are-if f true h l a = rw (eqb-true f e h, p.value, m) newest
    are-if f false h l a = let y = p.values f (eqb-false f e h) in rw y (older (old-if f (ltb f c) refl l (λ u. a (y ∙ u))))

    more : Entries x t q₂ c₁ (text_at x t k ∷ us)
    unfolding among
    more = record { has = λ w h. has-if w (same (text_at x t k) w) refl h; are = λ f l a. are-if f (eqb f e) refl l a }

-- the name at the node k, and what the code finds of it
-- the entry of the name at the node k
pub walks-text : {x t q q₁ : List ℕ} {c k y z : ℕ} {o : Option Place} → NameText x t k → y ≡ get_or t k 0 → z ≡ get_or t (k + 1) 0
    → Walks q c 0 (decode_at x (y + 1) (z - 1)) q₁ o → Walks q c 0 (text_at x t k) q₁ o
unfolding text_at
walks-text d i j w = rw (← i, ← j) w

module _ {x t q q₁ : List ℕ} {c k : ℕ} {a : Place} (d : EntryAt x t q c k) (w : Walks q c 0 (text_at x t k) q₁ (Some a)) where
  module _ {v : ℕ} {q₂ : List ℕ} (p : Puts q₁ q₂ a.entry v) where
    module _ {f b r : ℕ} (h : f ≡ value_of q₁ a.entry) (m : v * 3 ≡ k) (g : EntryFault x t f k b (Some r)) where
      later : v ≡ 0 → ⊥
      later u = omega (arith, d.later)

      told-if : (i : Bool) → eqb f 0 ≡ i → EntryTold x t q c q₂ a.count k b r
      unfolding least
      told-if true y =
          let n = eqb-true f 0 y in
          let i : r ≡ b = grind (arith, g.none n) in
          record {
            some = omega (arith, w.told.inside);
            few = rw p.room w.told.few;
            is = λ us s. rw (not-among k s w.told (sym h ∙ n)) i;
            more = λ us s. more k s w.told p d.name m later;
          }
      told-if false y =
          let n = eqb-false f 0 y in
          let i = g.some n in
          record {
            some = omega (arith, w.told.inside);
            few = rw p.room w.told.few;
            is = λ us s. rw (is_among k s w.told (λ u. n (h ∙ u)) (rw (← h) i.0)) i.1;
            more = λ us s. more k s w.told p d.name m later;
          }

      pub entry-told : EntryGives x t q c q₂ k b (Some (record { least = r; count = a.count }))
      entry-told = record { room = p.room ∙ w.room; told = told-if (eqb f 0) refl }

module _ {x t : List ℕ} {i j p e p' e' : ℕ} (a : NameText x t i) (b : NameText x t j) (q : p ≡ get_or t i 0) (r : e ≡ get_or t (i + 1) 0) (q' : p' ≡ get_or t j 0) (r' : e' ≡ get_or t (j + 1) 0) where
  pub same-told : {s : Bool} → s ≡ same (decode_at x (p + 1) (e - 1)) (decode_at x (p' + 1) (e' - 1)) → s ≡ same (text_at x t i) (text_at x t j)
  unfolding text_at
  same-told s = rw (← q, ← r, ← q', ← r') s

  -- names that begin apart are not the same
  pub apart-told : {s : Bool} → s ≡ begin_apart x (p + 1) (e - 1) (p' + 1) (e' - 1) → s ≡ true → not s ≡ same (text_at x t i) (text_at x t j)
  apart-told s h = rw h (sym (apart-differ (string-span a.string q r) (string-span b.string q' r') (sym s ∙ h)) ∙ same-told refl)

pub ruleset texts = (rules, same-told, apart-told, walks-text)
