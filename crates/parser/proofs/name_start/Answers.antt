use Rattle.std.proofs.Common.{◌∙◌}
use Rattle.json_text.proofs.Rules.{got-some}
use Rattle.parser.proofs.Nodes.{at-quote}
use Rattle.parser.proofs.name_start.Goals as goal

pub returns-in-Some-eq34 : goal.returns-in-Some-eq34
returns-in-Some-eq34 c =
    let h = got-some c.args.text.now c.args.at c.get.ensures.lookup c.in-Some-eq34.is in
    at-quote c.requires (h.1 ∙ c.in-Some-eq34.field-0-test)
