-- The length and the first byte.
use Rattle.types.proofs.Rules.{types}
use Rattle.types.proofs.may_be_second_level.Goals as goal

pub returns-in-66 : goal.returns-in-66
returns-in-66 c = search types

pub returns-in_default : goal.returns-in_default
returns-in_default c = search types

pub returns-else-end-at-ge10 : goal.returns-else-end-at-ge10
returns-else-end-at-ge10 c = search types
