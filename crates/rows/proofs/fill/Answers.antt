use Rattle.std.proofs.Common.{refl}
use Rattle.nodes.specs.Laws.{fresh-zero}
use Rattle.rows.proofs.fill.Goals as goal

pub fill-requires : goal.fill-requires
fill-requires c = (c.requires.objects, refl, refl, fresh-zero 4096 refl)
