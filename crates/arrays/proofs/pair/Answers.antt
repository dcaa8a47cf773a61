use Rattle.arrays.proofs.Rules.{arrays}
use Rattle.arrays.proofs.pair.Goals as goal

pub pair-requires : goal.pair-requires
pair-requires c = (search arrays, search arrays)

pub returns-in-Ok : goal.returns-in-Ok
returns-in-Ok c = search arrays

pub returns-in-Err : goal.returns-in-Err
returns-in-Err c = search arrays
