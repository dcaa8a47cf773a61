-- A string, and the first place of an unpaired surrogate in it.
use Rattle.everywhere.proofs.Rule5.{rule5s}
use Rattle.everywhere.proofs.unpaired_at.Goals as goal

pub returns-then-text-from-ne34 : goal.returns-then-text-from-ne34
returns-then-text-from-ne34 c = search rule5s

pub end-to-requires : goal.end-to-requires
end-to-requires c = search rule5s

pub first_unpaired-requires : goal.first_unpaired-requires
first_unpaired-requires c = search rule5s

pub fault_at-requires : goal.fault_at-requires
fault_at-requires c = search rule5s

pub returns-in-Some : goal.returns-in-Some
returns-in-Some c = search rule5s

pub returns-in-None : goal.returns-in-None
returns-in-None c = search rule5s
