-- `json_text::marks` meets its contract.
use Rattle.std.proofs.Common.{rules}
use Rattle.json_text.proofs.EightBytes.{marked}
use Rattle.json_text.proofs.marks.Statement.{statement}
use Rattle.json_text.proofs.marks.Tie as tie

pub marks_spec : {M : Type 1} → statement M
marks_spec =
    tie.close
    (tie.spec
    (λ c. search rules) (λ c. search rules) (λ c. search rules)
    (λ c. search (rules, marked)))
