-- How many elements of an array a loop has passed.
use Rattle.std.specs.Prelude.{ℕ, ◌+◌, ◌*◌, ◌^◌, ◌≤◌, ◌<◌, ◌≡◌, List, length}
use Rattle.std.proofs.Common.{arith, Fits}
use Rattle.std.specs.Int.{w64}
use Rattle.nodes.specs.Access.{elements}
use Rattle.nodes.specs.Says.{Node, Gives}
use Rattle.nodes.specs.Siblings.{Elements, StepsPast}
use Rattle.nodes.specs.declared.Siblings.{Siblings}
use Rattle.nodes.specs.Reads.{node-room}
use Rattle.nodes.specs.Walk.{Running, run-begin, run-node, run_turn, run-done}

-- c elements of the array at i stand before what s has come to
pub record Counting (x t : List ℕ) (i : ℕ) (s : Siblings) (c : ℕ) : Type 0 where
  pub low : c ≤ s.at
  pub run : Running x t i s (λ all us. c + length us ≡ length all)

module _ {x t : List ℕ} {i : ℕ} {s : Siblings} where
  pub counting-start : {r : Siblings} → Node x t i → Elements x t i r → s ≡ r → Counting x t i s 0
  counting-start d e q = record { low = omega arith; run = run-begin (λ all us. 0 + length us ≡ length all) d e q (λ l. omega arith) }

  module _ {c : ℕ} (p : Counting x t i s c) where
    pub counting-fits : {k : ℕ} {u : Siblings} → StepsPast s k u → length t * 4 < 2 ^ 63 → Fits w64 (c + 1)
    counting-fits g h = record { fits = omega (arith, node-room (run-node p.run g), g.node, p.low) }

    pub counting-turn : {k : ℕ} {u : Siblings} → StepsPast s k u → Counting x t i u (c + 1)
    counting-turn g = record {
      low = omega (arith, p.low, g.onward);
      run = run_turn p.run g (λ all us. c + 1 + length us ≡ length all) (λ all v vs y h. omega (arith, h));
    }

    pub counting-done : s.end ≤ s.at → Gives (λ v. length (elements v)) x t i c
    counting-done h = record { is = λ v z. let e = run-done p.run h z in omega (arith, e) }
