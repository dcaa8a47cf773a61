-- `fields::found_word` meets its contract.
use Rattle.fields.proofs.Rules.{fields, word-nothing, word_at}
use Rattle.fields.proofs.found_word.Statement.{statement}
use Rattle.fields.proofs.found_word.Tie as tie

returns : tie.Need-returns-in_default
returns c = word-nothing _ (search) c.in_default.is

returns-2 : tie.Need-returns
returns-2 c = word_at _ c.in-Some.is c.is_word.ensures

pub found_word_spec : {M : Type 1} → statement M
found_word_spec = tie.close (tie.spec (λ c. search fields) (λ c. search fields) returns (λ c κs. search fields) returns-2)
