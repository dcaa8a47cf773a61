use Rattle.std.proofs.Common.{◌∙◌}
use Rattle.json_text.proofs.Rules.{got-some}
use Rattle.parser.proofs.Nodes.{comma-once}
use Rattle.parser.proofs.after.Goals as goal

pub returns-in-Some-eq44 : goal.returns-in-Some-eq44
returns-in-Some-eq44 c =
    let h = got-some c.args.text.now c.args.at c.get.ensures.lookup c.in-Some-eq44.is in
    comma-once h.0 (h.1 ∙ c.in-Some-eq44.field-0-test)
