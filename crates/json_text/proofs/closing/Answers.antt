use Rattle.std.proofs.Common.{◌∙◌}
use Rattle.json_text.proofs.Parts.{string-shut}
use Rattle.json_text.proofs.Rules.{got-some, lexes}
use Rattle.json_text.proofs.closing.Goals as goal

pub returns-in-Some-eq34 : goal.returns-in-Some-eq34
returns-in-Some-eq34 c =
    let h = got-some c.args.text.now c.plain_end-q.result c.get.ensures.lookup c.in-Some-eq34.is in
    string-shut c.plain_end-q.ensures.reads h.0 (h.1 ∙ c.in-Some-eq34.field-0-test)

pub returns : goal.returns
returns c = search lexes
