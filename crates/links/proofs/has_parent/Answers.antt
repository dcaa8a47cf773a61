use Rattle.std.proofs.Common.{refl}
use Rattle.utf8.specs.Ascii.{ascii}
use Rattle.shapes.specs.Laws.{seeks-find}
use Rattle.links.proofs.Sweeps.{parent-some, parent-told}
use Rattle.links.proofs.has_parent.Goals as goal

pub returns-then-count-ne0 : goal.returns-then-count-ne0
returns-then-count-ne0 c = parent-some _ c.if-count-ne0.true

pub returns : goal.returns
unfolding ascii
returns c = parent-told _ c.if-count-ne0.false (seeks-find "type" refl c.member-kind.ensures) c.is_second_level.ensures c.unless.ensures
