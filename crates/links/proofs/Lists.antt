-- A loop over the values of a list beside the numbers of their objects, whatever it gathers: P ms all left says what holds of the list and of what is left of it.
use Prim.Native.Nat.{ℕ, ◌≤◌, ◌<◌}
use native.Mathlib.Omega.{arith}
use mathlib.Core.Path.{◌≡◌, sym, ap, ◌∙◌, subst}
use mathlib.Core.Bool.{Bool, true, false}
use mathlib.Core.Path.{refl}
use mathlib.Core.List.{List, [], ◌∷◌, map}
use mathlib.Core.Option.{none}
use lib.ListN.{length, length-map}
use Rattle.json_text.specs.Tree.{Json}
use Rattle.json_text.specs.Table.{Sub}
use Rattle.nodes.specs.Access.{elements, members, Member, first_named}
use Rattle.nodes.specs.Says.{Node, Seeks, Finds}
use Rattle.nodes.specs.Says.{Found}
use Rattle.std.specs.Prelude.{Some, None}
use Rattle.fields.specs.Fields.{elements_in}
use Rattle.ids.specs.Says.{names_of}
use Rattle.json_text.specs.Laws.{past}
use Rattle.nodes.specs.Access.{listed}
use Rattle.std.proofs.Common.{inl, inr, ◌⊎◌}
use lib.Dec.{leb}
use borrow.Author.Tests.{leb-true, leb-false}
use Rattle.rows.specs.Rows.{link_number}
use Rattle.links.specs.Passes.{listed_under}
use Rattle.links.specs.Says.{Sized, SizedUnder}
use Rattle.nodes.specs.Siblings.{Elements, StepsPast}
use Rattle.nodes.specs.declared.Siblings.{Siblings}
use Rattle.nodes.specs.Walk.{Running, run-begin, run-node, run_turn, run-done}

-- the numbers that are left, ls, are those of what is left
pub record Rests (ns ls : List ℕ) (P : List Member → List Json → List Json → Type 0) (all left : List Json) : Type 0 where
  size : length ns ≡ length all → length ls ≡ length left
  numbers : (ms : List Member) → ns ≡ map (link_number (names_of ms)) all → ls ≡ map (link_number (names_of ms)) left
  of : (ms : List Member) → ns ≡ map (link_number (names_of ms)) all → P ms all left

-- the loop over the list at the node i has come to s, and has the numbers ls left
pub record Numbered (x t : List ℕ) (i : ℕ) (ns : List ℕ) (s : Siblings) (ls : List ℕ) (P : List Member → List Json → List Json → Type 0) : Type 0 where
  run : Running x t i s (Rests ns ls P)
  sized : Sized x t i ns

pub sized-node : {x t : List ℕ} {i : ℕ} {ns : List ℕ} → Sized x t i ns → Node x t i
sized-node d = d.node

module _ {x t : List ℕ} {i : ℕ} {ns : List ℕ} where
  pub numbered-begin : {s r : Siblings} (P : List Member → List Json → List Json → Type 0) → Sized x t i ns → Elements x t i r → s ≡ r
      → ((ms : List Member) (l : List Json) → P ms l l) → Numbered x t i ns s ns P
  numbered-begin P d e q f = record { run = run-begin (Rests ns ns P) d.node e q (λ l. record { size = λ e. e; numbers = λ ms e. e; of = λ ms e. f ms l }); sized = d }

  module _ {s : Siblings} {ls : List ℕ} {P : List Member → List Json → List Json → Type 0} (p : Numbered x t i ns s ls P) where
    module _ {k : ℕ} {u : Siblings} (g : StepsPast s k u) where
      pub numbered-node : Node x t k
      numbered-node = run-node p.run g

      pub numbered-turn : {number : ℕ} {ls' : List ℕ} (Q : List Member → List Json → List Json → Type 0) → ls ≡ number ∷ ls'
          → ((ms : List Member) (all : List Json) (v : Json) (vs : List Json) → Sub x t k v → number ≡ link_number (names_of ms) v → P ms all (v ∷ vs) → Q ms all vs)
          → Numbered x t i ns u ls' Q
      numbered-turn {number} {ls'} Q e f = record {
        run = run_turn p.run g (Rests ns ls' Q) (λ all v vs s u. record {
          size = λ z. omega (arith, u.size z, ap length e);
          numbers = λ ms z. (parts ms v vs (u.numbers ms z)).1;
          of = λ ms z. f ms all v vs s (parts ms v vs (u.numbers ms z)).0 (u.of ms z);
        });
        sized = p.sized;
      }
        where
          parts : (ms : List Member) (v : Json) (vs : List Json) → ls ≡ link_number (names_of ms) v ∷ map (link_number (names_of ms)) vs
              → (number ≡ link_number (names_of ms) v) × (ls' ≡ map (link_number (names_of ms)) vs)
          parts ms v vs q = let c : number ∷ ls' ≡ link_number (names_of ms) v ∷ map (link_number (names_of ms)) vs = sym e ∙ q in (cc, cc)

    -- at the end of the values, or of the numbers: there are as many
    pub numbered-done : (s.end ≤ s.at) ⊎ (length ls ≡ 0) → (ms : List Member) (v : Json) → Sub x t i v → ns ≡ map (link_number (names_of ms)) (elements v) → P ms (elements v) []
    unfolding listed
    numbered-done (inl h) ms v z e = (run-done p.run h z).of ms e
    numbered-done (inr h) ms v z e = by (leb s.end s.at) refl
      where
        more : s.at < s.end → ⊥
        more l = let y = past (p.run.left v z) l in omega (arith, h, y.holds.size (ap length e ∙ length-map (elements v) _))

        by : (b : Bool) → leb s.end s.at ≡ b → P ms (elements v) []
        by true q = (run-done p.run (leb-true _ _ q) z).of ms e
        by false q = absurd (more (leb-false _ _ q))

-- ---- what an object lists under a name

module _ {x t : List ℕ} {i : ℕ} (name : List ℕ) {found : Found} (s : Seeks (λ v. first_named name (members v)) x t i found) where
  -- nothing
  pub under_none : found ≡ None → (v : Json) → Sub x t i v → listed_under name v ≡ []
  unfolding listed_under elements_in Finds
  under_none e v u = let z : first_named name (members v) ≡ none = subst (Finds x t (first_named name (members v))) e (s.finds v u) in ap elements_in z

  -- a list that stands at the node k
  pub under_some : {k : ℕ} → found ≡ Some k → (v : Json) → Sub x t i v → (w : Json) × (Sub x t k w) × (listed_under name v ≡ elements w)
  unfolding listed_under elements_in Finds
  under_some {k} e v u =
      let (w, z, y) : Finds x t (first_named name (members v)) (Some k) = subst (Finds x t (first_named name (members v))) e (s.finds v u) in
      (w, y, ap elements_in z)

pub under-sized : {x t : List ℕ} {i k : ℕ} {name ns : List ℕ} {found : Found} → Seeks (λ v. first_named name (members v)) x t i found → found ≡ Some k → SizedUnder x t i name ns → Sized x t k ns
under-sized {name = name} s e d =
    let (w, y, z) = under_some name s e d.node.value d.node.stands in
    record { node = record { value = w; stands = y; short = d.node.short }; all = d.all ∙ ap length z }

pub under-node : {x t : List ℕ} {i : ℕ} {name ns : List ℕ} → SizedUnder x t i name ns → Node x t i
under-node d = d.node
