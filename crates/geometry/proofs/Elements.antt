-- A loop over the elements of an array that checks each by a check that was handed in: post tells what that gives.
use Rattle.std.specs.Prelude.{ℕ, ◌≤◌, ◌≡◌, List, [], ◌∷◌}
use Rattle.std.proofs.Common.{refl, sym, ap, ◌∙◌}
use Rattle.nodes.specs.Faults.{least}
use Rattle.nodes.specs.Says.{Node, Gives}
use Rattle.nodes.specs.Siblings.{Elements, StepsPast}
use Rattle.nodes.specs.declared.Siblings.{Siblings}
use Rattle.nodes.specs.Walk.{Running, run-begin, run-node, run_turn, run-done}
use Rattle.shapes.specs.Checks.{Check, all, for_each, each_element, array_kind}
use Rattle.shapes.specs.Laws.{least-for_each}
use Rattle.geometry.specs.Says.{Checked, Makes}
use Rattle.geometry.proofs.Lines.{line-array, line-then, line-none}

pub record Each (x t : List ℕ) (i best : ℕ) (post : ℕ → ℕ → ℕ → Type 0) (s : Siblings) (acc : ℕ) : Type 0 where
  run : Running x t i s (λ all left. (c : Check) → Makes x t post c → least acc (for_each c left) ≡ least best (for_each c all))

module _ {x t : List ℕ} {i best : ℕ} {post : ℕ → ℕ → ℕ → Type 0} {s : Siblings} where
  pub each-begin : {r : Siblings} → Node x t i → Elements x t i r → s ≡ r → Each x t i best post s best
  each-begin d e q =
      record { run = run-begin (λ all left. (c : Check) → Makes x t post c → least best (for_each c left) ≡ least best (for_each c all)) d e q (λ l c m. refl) }

  module _ {acc : ℕ} (p : Each x t i best post s acc) where
    module _ {k : ℕ} {u : Siblings} (g : StepsPast s k u) where
      pub each-node : Node x t k
      each-node = run-node p.run g

      -- one turn
      pub each-turn : {r : ℕ} → post k acc r → Each x t i best post u r
      each-turn {r} h = record {
        run = run_turn p.run g (λ all left. (c : Check) → Makes x t post c → least r (for_each c left) ≡ least best (for_each c all))
            (λ all v vs z o c m. ap (λ (a : ℕ). least a (for_each c vs)) ((m k acc r each-node h).is v z) ∙ (sym (least-for_each acc c v vs) ∙ o c m));
      }

    -- its end
    pub each-done : {a : ℕ} {u : Siblings} → Gives (λ v. least a (array_kind v)) x t i best → (s.end ≤ s.at) × (u ≡ s) → (c : Check) → Makes x t post c
        → Checked (all (array_kind ∷ each_element c ∷ [])) x t i a acc
    unfolding each_element for_each least
    each-done g h c m = line-array (each_element c ∷ []) g (line-then [] (record { is = λ v z. run-done p.run h.0 z c m }) line-none)
