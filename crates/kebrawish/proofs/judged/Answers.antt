-- Either answer has small numbers, and its struct.
use Rattle.kebrawish.proofs.Bounds.{numbers}
use Rattle.kebrawish.proofs.judged.Goals as goal

pub accepted-requires : goal.accepted-requires
accepted-requires c = search numbers

pub refused-requires : goal.refused-requires
refused-requires c = search numbers

pub returns-in-Ok : goal.returns-in-Ok
returns-in-Ok c = search numbers

pub returns-in-Err : goal.returns-in-Err
returns-in-Err c = search numbers
