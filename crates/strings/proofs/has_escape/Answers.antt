-- What `contains` tells.
use Rattle.std.proofs.Common.{◌∙◌}
use Rattle.strings.proofs.Scans.{has_any}
use Rattle.strings.proofs.has_escape.Goals as goal

pub returns : goal.returns
returns c = c.contains.ensures.value ∙ has_any _ c.args.text.now
