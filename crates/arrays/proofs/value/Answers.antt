use Rattle.arrays.proofs.Rules.{arrays}
use Rattle.arrays.proofs.value.Goals as goal

pub returns-then-is_null : goal.returns-then-is_null
returns-then-is_null c = search arrays

pub index-requires : goal.index-requires
index-requires c = search arrays

pub returns : goal.returns
returns c = search arrays
