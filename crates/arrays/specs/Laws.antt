-- Laws of writers over a node table: one after the other, and a loop over the elements of an array.
use Rattle.std.specs.Prelude.{ℕ, ◌≤◌, ◌≡◌, refl, length}
use Rattle.std.proofs.Common.{◌∙◌}
use Rattle.std.proofs.Math.Path.{sym, subst}
use mathlib.Core.List.{List, [], ◌++◌, append_assoc, append-nil}
use Rattle.std.proofs.Math.Option.{Option, some}
use Rattle.std.proofs.Math.Option as option
use Rattle.json_text.specs.Tree.{Json}
use Rattle.json_text.specs.Table.{Sub}
use Rattle.nodes.specs.Access.{elements}
use Rattle.nodes.specs.Says.{Node, Finds, Gives, Found}
use Rattle.nodes.specs.Siblings.{StepsPast}
use Rattle.nodes.specs.Siblings as siblings
use Rattle.nodes.specs.declared.Siblings.{Siblings}
use Rattle.nodes.specs.Walk.{Running, run-begin, run-node, run_turn, run-done}
use Rattle.std.specs.Prelude.{Some, None}
use Rattle.model.specs.Code.{concat_map, All}
use Rattle.writer.specs.Writes.{Writes}
use Rattle.writer.specs.Laws.{nothing, then}
use Rattle.arrays.specs.Fits.{Elements}
use Rattle.arrays.specs.Says.{Holds, Wrote, WroteFound}
use Rattle.nodes.specs.Unique.{unique}

-- ---- what stands at a node

module _ {x t : List ℕ} where
  -- P holds of the value at a node if it holds of one that stands there
  pub holds_at : {P : Json → Type 0} {i : ℕ} (v : Json) → Sub x t i v → length x ≤ 65535 → P v → Holds P x t i
  holds_at {P} v s h p = record { node = record { value = v; stands = s; short = h }; holds = λ w u. subst P (unique s u) p }

  -- another way of saying it
  pub holds_as : {P Q : Json → Type 0} {i : ℕ} → ((v : Json) → P v → Q v) → Holds P x t i → Holds Q x t i
  holds_as f h = record { node = h.node; holds = λ v s. f v (h.holds v s) }

-- ---- writers

-- nothing
pub wrote_nothing : {x t : List ℕ} {i : ℕ} {d : List ℕ} {to : ℕ} {f : Json → List ℕ} → ((v : Json) → Sub x t i v → f v ≡ []) → Wrote f x t i d d to to
wrote_nothing {d = d} {to = to} e = record { is = λ v s. rw (e v s) (nothing d to) }

module _ {x t : List ℕ} {i : ℕ} {d₀ d : List ℕ} {to r : ℕ} where
  -- what was told of the value
  pub wrote-told : {A : Type 0} {a : A} {g : Json → A} (f : A → List ℕ) → Gives g x t i a → Writes (f a) d₀ d to r → Wrote (λ v. f (g v)) x t i d₀ d to r
  wrote-told f g w = record { is = λ v s. rw (g.is v s) at w }

  -- the same bytes by another name
  pub wrote_as : {f g : Json → List ℕ} → ((v : Json) → Sub x t i v → f v ≡ g v) → Wrote f x t i d₀ d to r → Wrote g x t i d₀ d to r
  wrote_as e w = record { is = λ v s. rw (e v s) at (w.is v s) }

-- one after the other
pub wrote_then : {x t : List ℕ} {i : ℕ} {d₀ d₁ d₂ : List ℕ} {to q r : ℕ} {f g : Json → List ℕ} → Wrote f x t i d₀ d₁ to q → Wrote g x t i d₁ d₂ q r
    → Wrote (λ v. f v ++ g v) x t i d₀ d₂ to r
wrote_then u w = record { is = λ v s. then (u.is v s) (w.is v s) }

-- ---- a loop over the elements of an array

-- Of the bytes that f gives for all, one after the other, those for `us` are still to come; each of `us` is as P asks, if all are.
pub record Rest (P : Json → Type 0) (f : Json → List ℕ) (d₀ d : List ℕ) (to at : ℕ) (all us : List Json) : Type 0 where
  pub done : List ℕ
  pub all-is : concat_map f all ≡ done ++ concat_map f us
  pub wrote : Writes done d₀ d to at
  pub good : All P all → All P us

-- A loop by an iterator over the elements of the value at the node i has come to s:
-- what was passed was to be written by f, from `to` on, and the cursor is `at`.
pub record Laying (P : Json → Type 0) (f : Json → List ℕ) (x t : List ℕ) (i : ℕ) (s : Siblings) (d₀ d : List ℕ) (to at : ℕ) : Type 0 where
  pub asks : Holds (Elements P) x t i
  pub room : length d ≡ length d₀
  pub run : Running x t i s (Rest P f d₀ d to at)

module _ {P : Json → Type 0} {f : Json → List ℕ} {x t : List ℕ} {i : ℕ} {s : Siblings} where
  pub laying-begin : {r : Siblings} {d : List ℕ} {to : ℕ} → Holds (Elements P) x t i → siblings.Elements x t i r → s ≡ r → Laying P f x t i s d d to to
  laying-begin {d = d} {to = to} h e q = record {
    asks = h;
    room = refl;
    run = run-begin (Rest P f d d to to) h.node e q (λ l. record { done = []; all-is = refl; wrote = nothing d to; good = λ a. a });
  }

  module _ {d₀ d : List ℕ} {to at : ℕ} (p : Laying P f x t i s d₀ d to at) where
    pub laying-same : length d ≡ length d₀
    laying-same = p.room

    module _ {k : ℕ} {u : Siblings} (g : StepsPast s k u) where
      pub laying-node : Node x t k
      laying-node = run-node p.run g

      -- the element at k
      pub laying-item : Holds P x t k
      unfolding Elements
      laying-item = record {
        node = laying-node;
        holds = λ w z.
            let n = p.asks.node in
            let known = run_turn p.run g (λ all us. All P all → P w) (λ all v vs y r a. subst P (unique y z) (r.good a).0) in
            (known.left n.value n.stands).holds (p.asks.holds n.value n.stands);
      }

      pub laying-turn : {d' : List ℕ} {r : ℕ} → Wrote f x t k d d' at r → Laying P f x t i u d₀ d' to r
      unfolding concat_map
      laying-turn {d'} {r} w = record {
        asks = p.asks;
        room = (let n = laying-node in (w.is n.value n.stands).room) ∙ p.room;
        run =
            run_turn p.run g (Rest P f d₀ d' to r)
            (λ all v vs y h. record {
              done = h.done ++ f v;
              all-is = h.all-is ∙ sym (append_assoc h.done (f v) (concat_map f vs));
              wrote = then h.wrote (w.is v y);
              good = λ a. (h.good a).1;
            });
      }

    pub laying-done : s.end ≤ s.at → Wrote (λ v. concat_map f (elements v)) x t i d₀ d to at
    unfolding concat_map
    laying-done h = record { is = λ v z. let e = run-done p.run h z in rw (e.all-is, append-nil e.done) e.wrote }

-- ---- what was found

-- nothing was found
pub wrote_none : {x t : List ℕ} {found : Found} {d : List ℕ} {to : ℕ} {f : Option Json → List ℕ} → found ≡ None → f option.none ≡ []
    → WroteFound f x t found d d to to
unfolding Finds
wrote_none {x} {t} {d = d} {to = to} {f = f} e z = record { is = λ o h. let q : o ≡ option.none = subst (Finds x t o) e h in rw (q, z) (nothing d to) }

module _ {x t : List ℕ} {found : Found} {d₀ d : List ℕ} {to r : ℕ} where
  -- a value was found at a node
  pub wrote-some : {f : Option Json → List ℕ} {k : ℕ} → found ≡ Some k → Wrote (λ v. f (some v)) x t k d₀ d to r → WroteFound f x t found d₀ d to r
  unfolding Finds
  wrote-some {f} {k} e w = record { is = λ o h. let (v, q, s) : Finds x t o (Some k) = subst (Finds x t o) e h in rw q (w.is v s) }
