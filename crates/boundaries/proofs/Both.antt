-- A loop over the elements of two arrays, side by side.
use Prim.Native.Nat.{ℕ, suc, zero, ◌-◌}
use mathlib.Core.Path.{◌≡◌, refl, sym, ap, ◌∙◌}
use mathlib.Core.Bool.{Bool, true, false, cond, not, ◌&&◌, ◌||◌}
use mathlib.Core.List.{List, [], ◌∷◌, ◌++◌, append-nil}
use native.Mathlib.Omega.{arith}
use lib.ListN.{length}
use lib.Dec.{eqb}
use borrow.Author.Tests.{not-true, not-false, eqb-true}
use Rattle.utf8.specs.Laws.{never}
use Rattle.json_text.specs.Tree.{Json, ◌▸◌}
use Rattle.json_text.specs.Table.{Sub}
use Rattle.json_text.specs.Laws.{Left, Past, past, ended}
use Rattle.nodes.specs.Access.{is_null_value, is_array_value, listed, elements}
use Rattle.nodes.specs.Faults.{least}
use Rattle.nodes.specs.Says.{Gives}
use Rattle.nodes.specs.Siblings.{Elements, Steps, StepsPast}
use Rattle.nodes.specs.Walk.{elements_left, left_onward}
use Rattle.nodes.specs.declared.Siblings.{Siblings}
use mathlib.Core.Logic.{◌⊎◌, inl, inr}
use Rattle.std.specs.Prelude.{None}
use Rattle.nodes.specs.Laws.{least-++}
use Rattle.shapes.specs.Checks.{Check, unless}
use Rattle.shapes.specs.Shapes.{is_integer_value, for_both, matches}
use Rattle.boundaries.specs.Says.{Nodes, GivesTwo, agree}

-- as many of the one as of the other, and the least of acc and their faults is the whole's
pub record Beside (c : Json → Check) (acc whole : ℕ) (ws us : List Json) : Type 0 where
  pub long : length ws ≡ length us
  pub same : least acc (for_both c ws us) ≡ whole

-- no array, or the counts of two
module _ {x t : List ℕ} {b v : ℕ} {q : Bool} (g : Gives is_array_value x t v q) where
  pub agree-kind : not q ≡ true → GivesTwo agree x t b v false
  unfolding agree
  agree-kind e = record { is = λ w u s z. rw (sym (g.is u z) ∙ not-true q e) }

  pub agree-is : {m l : ℕ}
      → not q ≡ false → Gives (λ w. length (elements w)) x t b m → Gives (λ w. length (elements w)) x t v l
      → GivesTwo agree x t b v (eqb m l)
  unfolding agree
  agree-is e f k = record { is = λ w u s z. rw (sym (g.is u z) ∙ not-false q e, ← f.is w s, ← k.is u z) }

both : (a b : Bool) → (a && b) ≡ true → (a ≡ true) × (b ≡ true)
both true b e = (refl, e)
both false b e = absurd (never e refl)

-- The loop by two iterators, over the elements of the values at b and at v, has come to s and to r, with the least fault acc
pub record Both (c : Json → Check) (x t : List ℕ) (b v best : ℕ) (s r : Siblings) (acc : ℕ) : Type 0 where
  pub nodes : Nodes x t b v
  pub agreed : GivesTwo agree x t b v true
  pub tables : (s.table.now ≡ t) × (r.table.now ≡ t)
  pub leads : (s.lead ≡ 0) × (r.lead ≡ 0)
  pub left : (w u : Json) → Sub x t b w → Sub x t v u
      → Left x t r.at r.end (λ us. Left x t s.at s.end (λ ws. Beside c acc (least best (for_both c (elements w) (elements u))) (listed ws) (listed us)))

-- no faults where one of two lists of one length has ended
both-none : (c : Json → Check) (ws : List Json) → for_both c ws [] ≡ []
unfolding for_both
both-none c [] = refl
both-none c (w ∷ ws) = refl

none-left : (c : Json → Check) (us : List Json) → for_both c [] us ≡ []
unfolding for_both
none-left c us = refl

at-node : {x t : List ℕ} {k i : ℕ} {v : Json} → k ≡ i → Sub x t i v → Sub x t k v
at-node e z = rw e z

module _ {c : Json → Check} {x t : List ℕ} {b v best : ℕ} where
  pub both-begin : {q : Bool} {s r s₀ r₀ : Siblings} → Nodes x t b v → GivesTwo agree x t b v q → q ≡ true → Elements x t b s₀ → Elements x t v r₀ → s ≡ s₀ → r ≡ r₀
      → Both c x t b v best s r best
  unfolding agree
  both-begin {q} {s₀ = s₀} d g e k l m n =
      let a : GivesTwo agree x t b v true = rw e at g in
      rw (m, n)
      (record {
        nodes = d;
        agreed = a;
        tables = (k.table, l.table);
        leads = (k.lead, l.lead);
        left = λ w u z y.
            let h = both _ _ (sym (a.is w u z y)) in
            let whole = least best (for_both c (elements w) (elements u)) in
            elements_left l (λ us. Left x t s₀.at s₀.end (λ ws. Beside c best whole (listed ws) us)) y
            (elements_left k (λ ws. Beside c best whole ws (elements u)) z (record { long = eqb-true _ _ h.1; same = refl }));
      })

  module _ {s r : Siblings} {acc : ℕ} (p : Both c x t b v best s r acc) where
    module _ {j k : ℕ} {s₁ r₁ : Siblings} (g : StepsPast s j s₁) (h : StepsPast r k r₁) where
      -- the second's value, and the first's beside it
      two : {w u : Json} (z : Sub x t b w) (y : Sub x t v u)
          → Past x t r.at r.end (λ us. Left x t s.at s.end (λ ws. Beside c acc (least best (for_both c (elements w) (elements u))) (listed ws) (listed us)))
      two {w} {u} z y = past (p.left w u z y) h.more

      one : {w u : Json} (z : Sub x t b w) (y : Sub x t v u)
          → Past x t s.at s.end (λ ws. Beside c acc (least best (for_both c (elements w) (elements u))) (listed ws) (listed ((two z y).value ▸ (two z y).others)))
      one z y = past (two z y).holds g.more

      pub both-nodes : Nodes x t j k
      both-nodes =
          let d = p.nodes in
          let y = two d.one.stands d.two.stands in
          let w = one d.one.stands d.two.stands in
          record {
            one = record { value = w.value; stands = at-node g.node w.stands; short = d.one.short };
            two = record { value = y.value; stands = at-node h.node y.stands; short = d.one.short };
          }

      pub both-turn : {acc' : ℕ} → GivesTwo (λ w u. least acc (c w u)) x t j k acc' → Both c x t b v best s₁ r₁ acc'
      unfolding listed for_both
      both-turn {acc'} f =
          record {
            nodes = p.nodes;
            agreed = p.agreed;
            tables = (g.table ∙ p.tables.0, h.table ∙ p.tables.1);
            leads = (g.lead ∙ p.leads.0, h.lead ∙ p.leads.1);
            left = λ w u z y.
                let e = two z y in
                let d = one z y in
                let l = d.holds.long in
                let a : least acc' (for_both c (listed d.others) (listed e.others)) ≡ least best (for_both c (elements w) (elements u)) =
                ap (λ (a : ℕ). least a (for_both c (listed d.others) (listed e.others))) (f.is d.value e.value (at-node g.node d.stands) (at-node h.node e.stands))
                ∙ (sym (least-++ acc (c d.value e.value) (for_both c (listed d.others) (listed e.others))) ∙ d.holds.same) in
                left_onward h p.tables.1 p.leads.1 e (left_onward g p.tables.0 p.leads.0 d (record { long = omega arith; same = a }));
          }

    -- one of the two has ended
    pub both-done : ((u : Siblings) × Steps s None u) ⊎ ((u : Siblings) × Steps r None u)
        → GivesTwo (λ w u. least best (for_both c (elements w) (elements u))) x t b v acc
    unfolding listed least
    both-done (inl h) = record {
      is = λ w u z y.
          let l = p.left w u z y in
          let e = ended l.holds h.1.0 in
          ap (least acc) (sym (none-left c (listed l.items))) ∙ e.same;
    }
    both-done (inr h) = record {
      is = λ w u z y.
          let l = ended (p.left w u z y) h.1.0 in
          ap (least acc) (sym (both-none c (listed l.items))) ∙ l.holds.same;
    }

matches-suc : (d : ℕ) → (d ≡ 0 → ⊥) → (w u : Json) → matches d w u ≡ unless (agree w u) 12 u ++ cond (agree w u) (for_both (matches (d - 1)) (elements w) (elements u)) []
unfolding matches agree
matches-suc zero h w u = absurd (h refl)
matches-suc (suc d) h w u = let e : d ≡ suc d - 1 = omega arith in ap (λ (k : ℕ). unless (agree w u) 12 u ++ cond (agree w u) (for_both (matches k) (elements w) (elements u)) []) e

module _ {x t : List ℕ} {b v : ℕ} (best depth : ℕ) where
  pub matches-leaf : {q : Bool} {r : ℕ} → depth ≡ 0 → Gives (λ u. is_integer_value u || is_null_value u) x t v q → Gives (λ u. least best (unless q 12 u)) x t v r
      → GivesTwo (λ w u. least best (matches depth w u)) x t b v r
  unfolding matches
  matches-leaf e g a = rw e (record { is = λ w u s z. a.is u z ∙ ap (λ (q : Bool). least best (unless q 12 u)) (g.is u z) })

  -- no array, or another count
  pub matches-unlike : {q : Bool} {r : ℕ}
      → (depth ≡ 0 → ⊥) → GivesTwo agree x t b v q → not q ≡ true → Gives (λ u. least best (unless false 12 u)) x t v r
      → GivesTwo (λ w u. least best (matches depth w u)) x t b v r
  matches-unlike {q} h g e a = record { is = λ w u s z. rw (matches-suc depth h w u, sym (g.is w u s z) ∙ not-true q e, append-nil) (a.is u z) }

  -- each element beside the boundary's
  pub matches-each : {s u : Siblings} {r : ℕ} → (depth ≡ 0 → ⊥) → Both (matches (depth - 1)) x t b v best s u r
      → ((q : Siblings) × Steps s None q) ⊎ ((q : Siblings) × Steps u None q)
      → GivesTwo (λ w u. least best (matches depth w u)) x t b v r
  unfolding unless
  matches-each h p o = record { is = λ w u s z. rw (matches-suc depth h w u, ← p.agreed.is w u s z) ((both-done p o).is w u s z) }
