-- The table is that of the rule, by computation.
use Rattle.std.proofs.Common.{refl}
use Rattle.words.specs.Tables.{tabled}
use Rattle.types.proofs.Rules.{types}
use Rattle.types.proofs.permitted.Goals as goal

pub in_table-requires : goal.in_table-requires
unfolding tabled
in_table-requires c = (refl, refl, search types)

pub returns-else-code-lt8 : goal.returns-else-code-lt8
returns-else-code-lt8 c = search types
