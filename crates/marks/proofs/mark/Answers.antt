use Rattle.marks.proofs.Rules.{marking}
use Rattle.marks.proofs.mark.Goals as goal
use Rattle.marks.proofs.mark.Goals.{then-number-count-via-then-number-count, then-number-count-via-else-number-count+then-has}

-- no object has the number, or the row has it
pub returns-then-number-count : goal.returns-then-number-count
returns-then-number-count c =
    elim c.then-number-count.branch [
      | then-number-count-via-then-number-count w ↦ search marking
      | then-number-count-via-else-number-count+then-has w ↦ search marking
    ]

pub returns : goal.returns
returns c = search marking
