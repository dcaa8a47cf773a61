use Rattle.std.proofs.Common.{arith}
use Rattle.schema.proofs.Filling.{few-enough, name-first, name-low, one_more}
use Rattle.schema.proofs.too_many.Goals as goal

pub returns-in_default : goal.returns-in_default
returns-in_default c = few-enough c.in_default.is

pub start-requires : goal.start-requires
start-requires c = name-first c.requires c.in-Some.is

pub fault_at-requires : goal.fault_at-requires
fault_at-requires c = (omega arith, name-low c.requires c.in-Some.is c.start.ensures)

pub returns : goal.returns
returns c = one_more c.in-Some.is c.start.ensures c.fault_at.ensures c.lesser.ensures
