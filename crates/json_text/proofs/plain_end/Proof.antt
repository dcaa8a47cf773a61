-- `json_text::plain_end` meets its contract.
use Rattle.std.proofs.Common.{◌-◌, length, arith}
use Rattle.json_text.specs.Says.{Passes}
use Rattle.json_text.proofs.Parts.{mark-fits, part-fits}
use Rattle.json_text.proofs.Rules.{lexes}
use Rattle.json_text.proofs.plain_end.Statement.{statement}
use Rattle.json_text.proofs.plain_end.Tie as tie

abbrev invariant-loop : tie.invariant-loop-i
invariant-loop text at i₀ i = Passes text at i

abbrev decreases-loop : tie.decreases-loop-i
decreases-loop text at i₀ i = length text - i

pub plain_end_spec : {M : Type 1} → statement M
plain_end_spec =
    tie.close
    (tie.spec
    invariant-loop
    decreases-loop
    (λ c. search lexes) (λ c. search lexes) (λ c κs. search lexes) (λ c. search lexes)
    (λ c. mark-fits _)
    (λ c. part-fits _ _ (omega arith))
    (λ c. search lexes) (λ c. search lexes) (λ c. search lexes) (λ c. search lexes) (λ c. search lexes))
