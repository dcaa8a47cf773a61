-- `fields::is_word` meets its contract.
use Rattle.std.proofs.lemmas.Bool.{not_from_false, not_from_true}
use Rattle.fields.specs.Laws.{string-node}
use Rattle.fields.proofs.Rules.{fields, is-other, is-text}
use Rattle.fields.proofs.is_word.Statement.{statement}
use Rattle.fields.proofs.is_word.Tie as tie

returns : tie.Need-returns-then-not-is_string
returns c = is-other _ c.is_string.ensures (search) (not_from_false _ c.if-not-is_string.true)

returns-2 : tie.Need-returns
returns-2 c =
    is-text _ (string-node (search) c.is_string.ensures (not_from_true _ c.if-not-is_string.false))
    c.text_from.ensures c.text_to.ensures c.is_word.ensures

pub is_word_spec : {M : Type 1} → statement M
is_word_spec =
    tie.close
    (tie.spec
    (λ c κs. search fields)
    returns
    (λ c κs. search fields)
    (λ c κs. search fields)
    (λ c κs. search fields)
    returns-2)
