-- A plus sign, and the length.
use Rattle.types.proofs.Rules.{types}
use Rattle.types.proofs.is_added_name.Goals as goal

pub returns-then-is_added : goal.returns-then-is_added
returns-then-is_added c = search types

pub returns-else-is_added : goal.returns-else-is_added
returns-else-is_added c = search types
