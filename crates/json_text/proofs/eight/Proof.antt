-- `json_text::eight` meets its contract.
use Rattle.std.proofs.Common.{arith, rules}
use Rattle.json_text.proofs.EightBytes.{widen, eight-of}
use Rattle.json_text.proofs.eight.Statement.{statement}
use Rattle.json_text.proofs.eight.Tie as tie

pub eight_spec : {M : Type 1} → statement M
eight_spec =
    tie.close
    (tie.spec
    (λ c. search rules)
    (λ c. widen (c.shared_slice_known-1.given _))
    (λ c. search rules) (λ c. search rules)
    (λ c. widen (c.shared_slice_known-2-1.given _))
    (λ c. search rules) (λ c. search rules)
    (λ c. widen (c.shared_slice_known-3-1.given _))
    (λ c. search rules) (λ c. search rules)
    (λ c. widen (c.shared_slice_known-4-1.given _))
    (λ c. search rules) (λ c. search rules)
    (λ c. widen (c.shared_slice_known-5-1.given _))
    (λ c. search rules) (λ c. search rules)
    (λ c. widen (c.shared_slice_known-6-1.given _))
    (λ c. search rules) (λ c. search rules)
    (λ c. widen (c.shared_slice_known-7-1.given _))
    (λ c. search rules) (λ c. search rules)
    (λ c. widen (c.shared_slice_known-8-1.given _))
    (λ c. eight-of _ _ (λ j. omega (arith, c.shared_slice_known-8-1.given j))))
