-- `json_text::is_type` meets its contract. The number has the bytes that are looked for, by computation.
use Rattle.std.proofs.Common.{refl, arith, rules}
use Rattle.json_text.proofs.EightBytes.{typing, typed, untyped}
use Rattle.json_text.proofs.is_type.Statement.{statement}
use Rattle.json_text.proofs.is_type.Tie as tie

returns-2 : tie.Need-returns
unfolding typing
returns-2 c = typed _ refl c.eight.ensures (omega arith)

pub is_type_spec : {M : Type 1} → statement M
is_type_spec =
    tie.close
    (tie.spec
    (λ c. search rules)
    (λ c. search (rules, untyped))
    (λ c κs. search rules)
    returns-2)
