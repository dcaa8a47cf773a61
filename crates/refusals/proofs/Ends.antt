-- The end of a fault, by a pass over the node table.
use Prim.Native.Nat.{ℕ, ◌+◌, ◌/◌, ◌%◌, ◌≤◌, ◌<◌}
use mathlib.Core.Path.{◌≡◌, refl, sym, ◌∙◌}
use mathlib.Core.List.{List, ◌∷◌}
use lib.ListN.{length, get_or}
use borrow.Author.Rules.{rules}
use borrow.Author.Tests.{eq-eqb, ne_eqb, lt-ltb, le-ltb}
use Rattle.json_text.specs.Tree.{Json}
use Rattle.json_text.specs.Table.{Sub}
use Rattle.nodes.specs.Faults.{rule_of, place_in}
use Rattle.everywhere.specs.Parts.{Part, part_place, part_end, parts}
use Rattle.everywhere.proofs.Any.{part-words}
use Rattle.everywhere.proofs.Passes.{Rest, rest_all, turn, finished, onward}
use Rattle.verdict.specs.Ends.{ends_at, end_at}
use Rattle.verdict.specs.Verdict.{end_of_fault}
use Rattle.refusals.specs.declared.Broken.{Broken}
use Rattle.refusals.specs.Refusals.{rule_number}
use Rattle.refusals.specs.Says.{Tabled, EndsAt, Ended, Refuses}

-- ---- the end of the first of some parts that begins at a place

first-at : (p : ℕ) (d : Part) (ds : List Part) → part_place d ≡ p → end_at p (d ∷ ds) ≡ part_end d
unfolding end_at
first-at p d ds h =
    let z : ends_at p (d ∷ ds) ≡ part_end d ∷ ends_at p ds = rw (eq-eqb (part_place d) p h) in
    rw (z, end_at)

first-not : (p : ℕ) (d : Part) (ds : List Part) → (part_place d ≡ p → ⊥) → end_at p (d ∷ ds) ≡ end_at p ds
unfolding end_at
first-not p d ds h =
    let z : ends_at p (d ∷ ds) ≡ ends_at p ds = rw (ne_eqb (part_place d) p h) in
    rw (z, end_at)

-- ---- a pass

-- e is the end of the first of the parts ds that begins at p, or p if none does
abbrev First : ℕ → ℕ → List Part → Type 0
First p e ds = e ≡ end_at p ds

-- what is left of a pass that looks for p, in every tree whose words these are
pub record Seeking (t : List ℕ) (n p i : ℕ) : Type 0 where
  tabled : Tabled t n
  left : (x : List ℕ) (v : Json) → Sub x t 0 v → Rest (First p (end_at p (parts v))) x t n i

pub seek-begin : {t : List ℕ} {n : ℕ} (p : ℕ) → Tabled t n → Seeking t n p 0
seek-begin p d = record { tabled = d; left = λ x v s. rest_all (First p (end_at p (parts v))) d.root.stands s d.root.ends refl }

module _ {t : List ℕ} {n p i : ℕ} (k : Seeking t n p i) where
  pub seek-room : i < n → i + 2 < length t
  seek-room h = let d = k.tabled.root in (part-words (turn (k.left k.tabled.text d.value d.stands) h).stands).room

  pub seek_found : i < n → get_or t i 0 ≡ p → EndsAt t p (get_or t (i + 1) 0)
  seek_found h e = record {
    is = λ x v s.
        let u = turn (k.left x v s) h in
        let w = part-words u.stands in
        w.end ∙ sym (first-at p u.part u.others (sym w.start ∙ e)) ∙ sym u.holds;
  }

  pub seek-on : i < n → (get_or t i 0 ≡ p → ⊥) → Seeking t n p (i + 3)
  seek-on h f = record {
    tabled = k.tabled;
    left = λ x v s.
        let u = turn (k.left x v s) h in
        let w = part-words u.stands in
        onward (First p (end_at p (parts v))) u (u.holds ∙ first-not p u.part u.others (λ e. f (w.start ∙ e)));
  }

  pub seek-none : n ≤ i → EndsAt t p p
  unfolding end_at
  seek-none h = record { is = λ x v s. sym (finished (k.left x v s) h) }

pub ruleset seeks = (rules, seek-begin, seek-room, seek_found, seek-on, seek-none)

-- ---- the end of a fault

module _ {t : List ℕ} {f : ℕ} where
  pub ended-itself : f / 65536 < 6 → Ended t f (f % 65536)
  unfolding end_of_fault
  ended-itself h = record { is = λ x v s. rw (lt-ltb (f / 65536) 6 h) }

  pub ended_at : {e : ℕ} → 6 ≤ f / 65536 → EndsAt t (f % 65536) e → Ended t f e
  unfolding end_of_fault
  ended_at h g = record { is = λ x v s. rw (le-ltb (f / 65536) 6 h) (g.is x v s) }

  pub refused_as : (b : Broken) {e : ℕ} → rule_number b ≡ f / 65536 → Ended t f e → Refuses t f (record { rule = b; place = f % 65536; end = e })
  unfolding rule_of place_in
  refused_as b h g = record { is = λ x v s. rw (h, ← g.is x v s) }

pub ruleset ended = (rules, ended-itself, ended_at, refused_as)
