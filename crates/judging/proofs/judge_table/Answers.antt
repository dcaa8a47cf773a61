-- No fault was found.
use Rattle.judging.proofs.Rules.{judges}
use Rattle.judging.proofs.judge_table.Goals as goal

pub returns : goal.returns
returns c = search judges
