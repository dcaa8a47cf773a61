-- The first byte.
use Rattle.words.specs.Words.{is_added}
use Rattle.types.proofs.Rules.{types}
use Rattle.types.proofs.is_added.Goals as goal

pub returns-in-Some-eq43 : goal.returns-in-Some-eq43
unfolding is_added
returns-in-Some-eq43 c = search types

pub returns-in_default : goal.returns-in_default
returns-in_default c = search types

pub returns-in_default-2 : goal.returns-in_default-2
returns-in_default-2 c = search types
