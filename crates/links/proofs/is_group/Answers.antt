use Rattle.std.proofs.Common.{refl}
use Rattle.utf8.specs.Ascii.{ascii}
use Rattle.shapes.specs.Laws.{seeks-find}
use Rattle.links.proofs.Sweeps.{type-is}
use Rattle.links.proofs.is_group.Goals as goal

pub returns : goal.returns
unfolding ascii
returns c = type-is (seeks-find "type" refl c.member-kind.ensures) "CityObjectGroup" c.found_word.ensures
